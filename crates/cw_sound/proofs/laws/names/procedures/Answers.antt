use Rattle.std.proofs.Common.{refl}
use Rattle.cw_number.specs.Numbers.{numbers_of}
use Rattle.cw_make.specs.Made.{unit_of}
use Rattle.cw_sound.proofs.Names.OwnDeclarations.{procedures_stand}
use Rattle.cw_sound.proofs.laws.names.procedures.Goals as goal

pub returns : goal.returns
returns c named resolves placed items =
    procedures_stand named (numbers_of named) (unit_of named) resolves placed (c.counts.ensures named resolves placed items)
    (record { procs = refl; labels = refl; switches = refl; body = refl })
