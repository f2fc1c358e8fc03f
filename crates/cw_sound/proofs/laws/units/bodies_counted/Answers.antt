-- The bodies of a text by the numbers of their procedures.
use Rattle.cw_number.specs.Numbers.{numbers_of}
use Rattle.cw_sound.proofs.Units.Counting.{bodies_counted}
use Rattle.cw_sound.proofs.laws.units.bodies_counted.Goals as goal

pub returns : goal.returns
returns c named resolves placed items = bodies_counted named (numbers_of named) placed (c.counts.ensures named resolves placed items)
