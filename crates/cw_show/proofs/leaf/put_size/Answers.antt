use Rattle.cw_show.proofs.Adding.{in_order}
use Rattle.cw_show.proofs.leaf.put_size.Goals as goal

pub returns : goal.returns
returns c = in_order c.put_symbol.ensures (in_order c.put_int.ensures (in_order c.put_symbol-2.ensures (in_order c.put_int-2.ensures c.put_symbol-3.ensures)))
