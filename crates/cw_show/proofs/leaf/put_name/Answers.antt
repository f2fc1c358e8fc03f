use Rattle.std.proofs.Common.{refl}
use Rattle.cw_show.proofs.Adding.{becomes}
use Rattle.cw_show.proofs.leaf.put_name.Goals as goal

pub returns : goal.returns
returns c = becomes c.put_token.ensures (rw c.bytes.ensures.value refl)
