use Rattle.std.proofs.Common.{refl}
use Rattle.cw_show.proofs.Adding.{nothing, in_order, becomes}
use Rattle.cw_show.proofs.items.put_assigned.Goals as goal

pub returns-in-None : goal.returns-in-None
returns-in-None c = becomes (nothing c.args.out.now) (rw c.in-None.is refl)

pub returns-in-Some : goal.returns-in-Some
returns-in-Some c = becomes (in_order c.put_symbol.ensures c.put_places.ensures) (rw (c.in-Some.is, c.as_slice.ensures) refl)
