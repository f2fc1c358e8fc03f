use Rattle.cw_show.proofs.Adding.{in_order}
use Rattle.cw_show.proofs.items.put_two_ints.Goals as goal

pub returns : goal.returns
returns c = in_order c.put_int.ensures (in_order c.put_symbol.ensures c.put_int-2.ensures)
