-- The depth of the address of a reference by how it is found.
use Rattle.std.specs.Prelude.{ℕ}
use Rattle.cw_unit.specs.declared.unit.Spot.{Spot, fold-Spot}
use Rattle.cw_unit.specs.StackBound.{ArgumentNeed, argument_step, condition_step, spot_step, ref_step, expression_step}

abbrev pub spot_depth : Spot → ℕ
spot_depth = fold-Spot ArgumentNeed ℕ ℕ ℕ ℕ argument_step condition_step expression_step spot_step ref_step
