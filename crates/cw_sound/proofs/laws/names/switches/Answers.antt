use Rattle.std.proofs.Common.{refl}
use Rattle.cw_number.specs.Numbers.{numbers_of}
use Rattle.cw_make.specs.Made.{unit_of}
use Rattle.cw_sound.proofs.Names.OwnSwitches.{switches_stand}
use Rattle.cw_sound.proofs.laws.names.switches.Goals as goal

pub returns : goal.returns
returns c named resolves placed items =
    switches_stand named (numbers_of named) (unit_of named) placed (c.counts.ensures named resolves placed items) (record { procs = refl; labels = refl; switches = refl; body = refl })
    (c.uses_found.ensures named resolves placed) (c.labels.ensures named resolves placed items) (c.listed.ensures named resolves placed items)
