use Rattle.std.proofs.Common.{rules}
use Rattle.cw_show.proofs.Adding.{bytes_become}
use Rattle.cw_show.proofs.leaf.put_decimal.Goals as goal

pub returns : goal.returns
returns c = bytes_become c.put.ensures (search rules)
