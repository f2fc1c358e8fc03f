use Rattle.cw_show.proofs.Adding.{in_order}
use Rattle.cw_show.proofs.leaf.put_sint.Goals as goal

pub returns : goal.returns
returns c = in_order c.put_sign.ensures c.put_int.ensures
