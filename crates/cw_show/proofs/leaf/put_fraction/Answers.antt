use Rattle.std.proofs.Common.{rules}
use Rattle.cw_show.proofs.Adding.{bytes_in_order, bytes_become}
use Rattle.cw_show.proofs.leaf.put_fraction.Goals as goal

pub returns : goal.returns
returns c = bytes_become (bytes_in_order c.put_zeros.ensures c.put.ensures) (search rules)
