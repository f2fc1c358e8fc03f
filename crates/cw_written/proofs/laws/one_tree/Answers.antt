-- Reading is exact.
use Rattle.cw_written.proofs.Rules.{text_tree}
use Rattle.cw_written.proofs.laws.one_tree.Goals as goal

pub returns : goal.returns
returns c n m u x y d e = text_tree n m u x y d e
