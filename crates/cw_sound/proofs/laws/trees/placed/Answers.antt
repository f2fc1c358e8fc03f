-- Where the names of a text stand.
use Rattle.cw_sound.proofs.Trees.Standing.{placed}
use Rattle.cw_sound.proofs.laws.trees.placed.Goals as goal

pub returns : goal.returns
returns c n ts raw few d = placed n ts raw few d
