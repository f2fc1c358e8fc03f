use Rattle.std.proofs.Common.{refl}
use Rattle.cw_number.specs.Numbers.{numbers_of}
use Rattle.cw_make.specs.Made.{unit_of}
use Rattle.cw_sound.specs.Uses.Mentions.{block_mentions}
use Rattle.cw_sound.proofs.Names.SwitchNumbers.{switches_in}
use Rattle.cw_sound.proofs.Names.OwnSwitches.{zipped}
use Rattle.cw_sound.proofs.Ready.Goals.{switches_listed}
use Rattle.cw_sound.proofs.laws.units.goals.Goals as goal

pub returns : goal.returns
returns c named resolves placed items =
    switches_listed (unit_of named) (c.descriptors_named.ensures named resolves placed) named (numbers_of named) (switches_in (block_mentions (numbers_of named) named.raw.now)) (unit_of named).switches
    (zipped named (numbers_of named) (unit_of named) placed (c.counts.ensures named resolves placed items) (record { procs = refl; labels = refl; switches = refl; body = refl })
    (c.uses_found.ensures named resolves placed) (c.labels.ensures named resolves placed items) (c.listed.ensures named resolves placed items))
