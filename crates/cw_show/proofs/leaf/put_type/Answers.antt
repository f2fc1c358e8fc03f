use Rattle.std.proofs.Common.{refl}
use Rattle.cw_show.proofs.Adding.{in_order, becomes}
use Rattle.cw_show.proofs.leaf.put_type.Goals as goal

pub returns-in-Integer : goal.returns-in-Integer
returns-in-Integer c = becomes c.put_word.ensures (rw c.in-Integer.is refl)

pub returns-in-Fixed : goal.returns-in-Fixed
returns-in-Fixed c = becomes (in_order c.put_word-in-Fixed.ensures (in_order c.put_symbol.ensures
    (in_order c.put_int.ensures (in_order c.put_symbol-in-Fixed.ensures (in_order c.put_sint.ensures c.put_symbol-in-Fixed-2.ensures))))) (rw c.in-Fixed.is refl)
