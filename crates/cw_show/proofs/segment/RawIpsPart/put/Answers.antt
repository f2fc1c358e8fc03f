use Rattle.std.proofs.Common.{refl}
use Rattle.cw_show.proofs.Adding.{in_order, becomes}
use Rattle.cw_show.proofs.segment.RawIpsPart.put.Goals as goal

pub returns-in-Value : goal.returns-in-Value
returns-in-Value c = becomes (in_order c.put_word.ensures c.put_type.ensures) (rw c.in-Value.is refl)

pub returns-in-Location : goal.returns-in-Location
returns-in-Location c = becomes (in_order c.put_word-in-Location.ensures c.put_type-in-Location.ensures) (rw c.in-Location.is refl)

pub returns-in-Array : goal.returns-in-Array
returns-in-Array c = becomes (in_order c.put_type-in-Array.ensures c.put_word-in-Array.ensures) (rw c.in-Array.is refl)

pub returns-in-Table : goal.returns-in-Table
returns-in-Table c = becomes (in_order c.put_word-in-Table.ensures c.put_size.ensures) (rw c.in-Table.is refl)

pub returns-in-Label : goal.returns-in-Label
returns-in-Label c = becomes c.put_word-in-Label.ensures (rw c.in-Label.is refl)

pub returns-in-Switch : goal.returns-in-Switch
returns-in-Switch c = becomes c.put_word-in-Switch.ensures (rw c.in-Switch.is refl)
