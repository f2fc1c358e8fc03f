use Rattle.std.proofs.Common.{refl}
use Rattle.cw_show.proofs.Adding.{becomes}
use Rattle.cw_show.proofs.leaf.put_add_op.Goals as goal

pub returns-in-Plus : goal.returns-in-Plus
returns-in-Plus c = becomes c.put_symbol.ensures (rw c.in-Plus.is refl)

pub returns-in-Minus : goal.returns-in-Minus
returns-in-Minus c = becomes c.put_symbol-in-Minus.ensures (rw c.in-Minus.is refl)
