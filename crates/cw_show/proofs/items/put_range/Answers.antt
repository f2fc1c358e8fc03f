use Rattle.cw_show.proofs.Adding.{in_order}
use Rattle.cw_show.proofs.items.put_range.Goals as goal

pub returns : goal.returns
returns c = in_order c.put_sint.ensures (in_order c.put_symbol.ensures c.put_sint-2.ensures)
