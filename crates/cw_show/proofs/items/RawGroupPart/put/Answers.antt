use Rattle.std.proofs.Common.{refl}
use Rattle.cw_show.proofs.Adding.{in_order, becomes}
use Rattle.cw_show.proofs.items.RawGroupPart.put.Goals as goal

pub returns : goal.returns
returns c = becomes (in_order c.put_names.ensures c.put_bounds.ensures) (rw c.as_slice.ensures refl)
