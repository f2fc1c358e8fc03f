use Rattle.cw_show.proofs.Adding.{in_order}
use Rattle.cw_show.proofs.lists.put_bracketed.Goals as goal

pub returns : goal.returns
returns g c = in_order c.put_symbol.ensures (in_order c.put_between.ensures c.put_symbol-2.ensures)
