use Rattle.cw_layout.proofs.Tables.{ExtentsTo}
use Rattle.cw_layout.proofs.families.family_extents.Given as goal

abbrev pub invariant-loop-n : goal.invariant-loop-n
invariant-loop-n l = ExtentsTo l.unit l.n l.extents.items
