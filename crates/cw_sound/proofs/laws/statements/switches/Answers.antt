-- What is known of the switches of a text.
use Rattle.std.proofs.Common.{true, None}
use Rattle.cw_sound.specs.Items.Items.{things_of}
use Rattle.cw_judge.specs.Judged.{sites_of}
use Rattle.cw_number.specs.Numbers.{numbers_of}
use Rattle.cw_sound.proofs.Ranged.Declarations.{block_fit}
use Rattle.cw_sound.proofs.laws.statements.switches.Goals as goal

pub returns : goal.returns
returns c named fault = (block_fit named (sites_of (things_of named)) (numbers_of named) named.raw.now.block true (c.parts_free.ensures named fault).block).few None
