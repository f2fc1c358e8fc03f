use Rattle.cw_show.proofs.Adding.{in_order}
use Rattle.cw_show.proofs.items.put_shape.Goals as goal

pub returns : goal.returns
returns c = in_order c.put_unsigned.ensures (in_order c.put_symbol.ensures
    (in_order c.put_int.ensures (in_order c.put_symbol-2.ensures (in_order c.put_sint.ensures c.put_symbol-3.ensures))))
