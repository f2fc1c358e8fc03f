use Rattle.std.proofs.Common.{refl}
use Rattle.cw_show.proofs.Adding.{in_order, becomes}
use Rattle.cw_show.proofs.segment.RawPsPart.put.Goals as goal

pub returns-in-Plain : goal.returns-in-Plain
returns-in-Plain c = becomes c.put.ensures (rw c.in-Plain.is refl)

pub returns-in-Proc : goal.returns-in-Proc
returns-in-Proc c = becomes (in_order c.put_answer.ensures (in_order c.put_word.ensures c.put_takes.ensures)) (rw (c.in-Proc.is, c.as_slice.ensures) refl)
