use Rattle.std.proofs.Common.{refl}
use Rattle.cw_show.proofs.Adding.{nothing, becomes}
use Rattle.cw_show.proofs.segment.put_answer.Goals as goal

pub returns-in-None : goal.returns-in-None
returns-in-None c = becomes (nothing c.args.out.now) (rw c.in-None.is refl)

pub returns-in-Some : goal.returns-in-Some
returns-in-Some c = becomes c.put_type.ensures (rw c.in-Some.is refl)
