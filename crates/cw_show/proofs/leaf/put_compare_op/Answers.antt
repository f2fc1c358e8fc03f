use Rattle.std.proofs.Common.{[], ◌∷◌, ap}
use Rattle.cw_show.proofs.Adding.{becomes}
use Rattle.cw_show.proofs.leaf.put_compare_op.Goals as goal

pub returns : goal.returns
returns c = becomes c.put_symbol.ensures (ap (λ t. t ∷ []) c.compare_symbol.ensures)
