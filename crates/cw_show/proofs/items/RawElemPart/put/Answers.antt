use Rattle.std.proofs.Common.{refl}
use Rattle.cw_show.proofs.Adding.{in_order, becomes}
use Rattle.cw_show.proofs.items.RawElemPart.put.Goals as goal

pub returns-in-Word : goal.returns-in-Word
returns-in-Word c = becomes (in_order c.put_name.ensures (in_order c.put_type.ensures c.put_int.ensures)) (rw c.in-Word.is refl)

pub returns-in-Part : goal.returns-in-Part
returns-in-Part c = becomes (in_order c.put_name-in-Part.ensures (in_order c.put_shape.ensures c.put_two_ints.ensures)) (rw c.in-Part.is refl)
