use Rattle.cw_read_back.proofs.Trees.Spelled.{read_again}
use Rattle.cw_read_back.proofs.laws.trees.read_back.Goals as goal

pub returns : goal.returns
returns c n x marks h l = read_again h l
