use Rattle.std.proofs.Common.{refl}
use Rattle.cw_show.proofs.Adding.{in_order, becomes}
use Rattle.cw_show.proofs.segment.RawAitemPart.put.Goals as goal

pub returns-in-Single : goal.returns-in-Single
returns-in-Single c = becomes (in_order c.put_type.ensures (in_order c.put_name.ensures c.put_address.ensures)) (rw c.in-Single.is refl)

pub returns-in-Array : goal.returns-in-Array
returns-in-Array c = becomes (in_order c.put_type-in-Array.ensures (in_order c.put_word.ensures
    (in_order c.put_name-in-Array.ensures (in_order c.put_bounds.ensures c.put_address-in-Array.ensures)))) (rw c.in-Array.is refl)

pub returns-in-Table : goal.returns-in-Table
returns-in-Table c = becomes (in_order c.put_table.ensures c.put_address-in-Table.ensures) (rw c.in-Table.is refl)
