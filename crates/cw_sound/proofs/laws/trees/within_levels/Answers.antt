-- The levels of a text.
use Rattle.cw_sound.proofs.Trees.Tall.{within_levels}
use Rattle.cw_sound.proofs.laws.trees.within_levels.Goals as goal

pub returns : goal.returns
returns c = within_levels
