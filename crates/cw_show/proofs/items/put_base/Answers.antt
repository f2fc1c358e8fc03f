use Rattle.std.proofs.Common.{refl}
use Rattle.cw_show.proofs.Adding.{in_order, becomes}
use Rattle.cw_show.proofs.items.put_base.Goals as goal

pub returns-in-Name : goal.returns-in-Name
returns-in-Name c = becomes c.put_name.ensures (rw c.in-Name.is refl)

pub returns-in-One : goal.returns-in-One
returns-in-One c = becomes (in_order c.put_name-in-One.ensures (in_order c.put_symbol.ensures (in_order c.put_sint.ensures c.put_symbol-in-One.ensures))) (rw c.in-One.is refl)

pub returns-in-Two : goal.returns-in-Two
returns-in-Two c = becomes (in_order c.put_name-in-Two.ensures (in_order c.put_symbol-in-Two.ensures
    (in_order c.put_sint-in-Two.ensures (in_order c.put_symbol-in-Two-2.ensures (in_order c.put_sint-in-Two-2.ensures c.put_symbol-in-Two-3.ensures))))) (rw c.in-Two.is refl)
