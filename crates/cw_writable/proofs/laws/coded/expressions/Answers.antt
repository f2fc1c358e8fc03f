use Rattle.cw_writable.proofs.Coded.Numbers.{lt_true}
use Rattle.cw_writable.proofs.Coded.Expressions.{expression_good}
use Rattle.cw_writable.proofs.laws.coded.expressions.Goals as goal

pub returns : goal.returns
returns c s few line e f h place next = ((expression_good s few (lt_true s.line 65536 line) e f h).at place next).coded
