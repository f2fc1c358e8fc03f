use Rattle.std.proofs.Common.{refl}
use Rattle.cw_show.proofs.Adding.{becomes}
use Rattle.cw_show.proofs.leaf.put_mul_op.Goals as goal

pub returns-in-Times : goal.returns-in-Times
returns-in-Times c = becomes c.put_symbol.ensures (rw c.in-Times.is refl)

pub returns-in-Divide : goal.returns-in-Divide
returns-in-Divide c = becomes c.put_symbol-in-Divide.ensures (rw c.in-Divide.is refl)
