use Rattle.std.proofs.Common.{refl}
use Rattle.cw_show.proofs.Adding.{in_order, becomes}
use Rattle.cw_show.proofs.segment.RawCitemPart.put.Goals as goal

pub returns-in-Data : goal.returns-in-Data
returns-in-Data c = becomes c.put_data.ensures (rw c.in-Data.is refl)

pub returns-in-Overlay : goal.returns-in-Overlay
returns-in-Overlay c = becomes c.put_overlay.ensures (rw c.in-Overlay.is refl)

pub returns-in-Label : goal.returns-in-Label
returns-in-Label c = becomes (in_order c.put_word.ensures c.put_names.ensures) (rw (c.in-Label.is, c.as_slice.ensures) refl)

pub returns-in-Switch : goal.returns-in-Switch
returns-in-Switch c = becomes (in_order c.put_word-in-Switch.ensures c.put_names-in-Switch.ensures) (rw (c.in-Switch.is, c.as_slice-in-Switch.ensures) refl)

pub returns-in-Spec : goal.returns-in-Spec
returns-in-Spec c = becomes c.put.ensures (rw c.in-Spec.is refl)
