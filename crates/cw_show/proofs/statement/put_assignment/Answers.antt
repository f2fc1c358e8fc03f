use Rattle.cw_show.proofs.Adding.{in_order}
use Rattle.cw_show.proofs.statement.put_assignment.Goals as goal

pub returns : goal.returns
returns c = in_order c.put_ref.ensures (in_order c.put_symbol.ensures c.put_expr.ensures)
