use Rattle.std.proofs.Common.{refl}
use Rattle.cw_show.proofs.Adding.{in_order, becomes}
use Rattle.cw_show.proofs.items.put_table.Goals as goal

pub returns : goal.returns
returns c = becomes (in_order c.put_table_head.ensures (in_order c.put_symbol.ensures (in_order c.put_elems.ensures (in_order c.put_preset.ensures c.put_symbol-2.ensures))))
    (rw c.as_slice.ensures refl)
