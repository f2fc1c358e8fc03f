use Rattle.std.proofs.Common.{refl}
use Rattle.cw_show.proofs.Adding.{in_order, becomes}
use Rattle.cw_show.proofs.segment.RawSpecPart.put.Goals as goal

pub returns : goal.returns
returns c = becomes (in_order c.put_answer.ensures (in_order c.put_tag.ensures (in_order c.put_name.ensures c.put_listed.ensures))) (rw c.as_slice.ensures refl)
