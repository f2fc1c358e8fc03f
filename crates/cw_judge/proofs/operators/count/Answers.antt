use Rattle.std.proofs.Common.{sym, ap, ◌∙◌, arith}
use Rattle.cw_judge.specs.Operators.{one_counted}
use Rattle.cw_judge.proofs.Counting.{one_less}
use Rattle.cw_judge.proofs.operators.count.Goals as goal

pub returns-else-left-eq0 : goal.returns-else-left-eq0
returns-else-left-eq0 c =
    one_less c.args.at c.in-Left.left (omega arith) ∙ ap (one_counted c.args.at) (sym c.in-Left.is)
