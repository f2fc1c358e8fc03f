use Rattle.std.proofs.Common.{refl}
use Rattle.cw_show.proofs.Adding.{in_order, becomes}
use Rattle.cw_show.proofs.items.put_data.Goals as goal

pub returns-in-Singles : goal.returns-in-Singles
returns-in-Singles c = becomes (in_order c.put_type.ensures (in_order c.put_names.ensures c.put_assigned.ensures)) (rw (c.in-Singles.is, c.as_slice.ensures) refl)

pub returns-in-Arrays : goal.returns-in-Arrays
returns-in-Arrays c = becomes (in_order c.put_type-in-Arrays.ensures (in_order c.put_word.ensures (in_order c.put_groups.ensures c.put_assigned-in-Arrays.ensures)))
    (rw (c.in-Arrays.is, c.as_slice-in-Arrays.ensures) refl)

pub returns-in-Table : goal.returns-in-Table
returns-in-Table c = becomes (in_order c.put_table.ensures c.put_assigned-in-Table.ensures) (rw c.in-Table.is refl)
