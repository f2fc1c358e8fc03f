use Rattle.std.proofs.Common.{refl}
use Rattle.cw_number.specs.Numbers.{numbers_of}
use Rattle.cw_make.specs.Made.{unit_of}
use Rattle.cw_sound.proofs.Names.OwnDeclarations.{parameters_stand}
use Rattle.cw_sound.proofs.laws.names.parameters.Goals as goal

pub returns : goal.returns
returns c named resolves fault placed items =
    parameters_stand named (numbers_of named) (unit_of named) resolves placed (c.counts.ensures named resolves placed items)
    (record { procs = refl; labels = refl; switches = refl; body = refl })
    (c.few_parameters.ensures named resolves fault placed)
