use Rattle.cw_show.proofs.Adding.{in_order}
use Rattle.cw_show.proofs.items.put_bounds.Goals as goal

pub returns : goal.returns
returns c = in_order c.put_symbol.ensures (in_order c.put_range.ensures (in_order c.put_second_range.ensures c.put_symbol-2.ensures))
