use Rattle.std.proofs.Common.{refl}
use Rattle.cw_show.proofs.Adding.{in_order, becomes}
use Rattle.cw_show.proofs.statement.RawParamPart.put.Goals as goal

pub returns-in-Value : goal.returns-in-Value
returns-in-Value c = becomes (in_order c.put_word.ensures (in_order c.put_type.ensures c.put_names.ensures)) (rw (c.in-Value.is, c.as_slice.ensures) refl)

pub returns-in-Location : goal.returns-in-Location
returns-in-Location c = becomes (in_order c.put_word-in-Location.ensures (in_order c.put_type-in-Location.ensures c.put_names-in-Location.ensures))
    (rw (c.in-Location.is, c.as_slice-in-Location.ensures) refl)

pub returns-in-Array : goal.returns-in-Array
returns-in-Array c = becomes (in_order c.put_type-in-Array.ensures (in_order c.put_word-in-Array.ensures c.put_names-in-Array.ensures))
    (rw (c.in-Array.is, c.as_slice-in-Array.ensures) refl)

pub returns-in-Table : goal.returns-in-Table
returns-in-Table c = becomes c.put_table.ensures (rw c.in-Table.is refl)

pub returns-in-Label : goal.returns-in-Label
returns-in-Label c = becomes (in_order c.put_word-in-Label.ensures c.put_names-in-Label.ensures) (rw (c.in-Label.is, c.as_slice-in-Label.ensures) refl)

pub returns-in-Switch : goal.returns-in-Switch
returns-in-Switch c = becomes (in_order c.put_word-in-Switch.ensures c.put_names-in-Switch.ensures) (rw (c.in-Switch.is, c.as_slice-in-Switch.ensures) refl)

pub returns-in-Proc : goal.returns-in-Proc
returns-in-Proc c = becomes (in_order c.put_answer.ensures (in_order c.put_word-in-Proc.ensures (in_order c.put_name.ensures c.put_takes.ensures)))
    (rw (c.in-Proc.is, c.as_slice-in-Proc.ensures) refl)
