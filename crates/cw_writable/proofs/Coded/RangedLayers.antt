-- What is known of the ranges of a tree by its first layer.
use Rattle.std.proofs.Common.{◌≡◌, Bool}
use Rattle.cw_unit.specs.declared.unit.Unit.{Unit as SourceUnit}
use Rattle.cw_unit.specs.declared.unit.Arg.{Arg, out-Arg, map-Arg, fold_out-Arg}
use Rattle.cw_unit.specs.declared.unit.Cond.{Cond, out-Cond, map-Cond, fold_out-Cond}
use Rattle.cw_unit.specs.declared.unit.Spot.{Spot, out-Spot, map-Spot, fold_out-Spot}
use Rattle.cw_unit.specs.declared.unit.Ref.{Ref, out-Ref, map-Ref, fold_out-Ref}
use Rattle.cw_unit.specs.declared.unit.Expr.{Expr, Expr-F, out-Expr, map-Expr, fold_out-Expr}
use Rattle.cw_unit.specs.declared.unit.Arg.TheOpen.{Arg-F, Cond-F, Spot-F, Ref-F}
use Rattle.cw_writable.specs.Coded.RangedExpressions as ranged
use Rattle.cw_writable.specs.Coded.RangedExpressions.{RangedValue, RangedReference, ranged_value, is_ranged_condition, is_ranged_argument, ranged_reference, is_ranged_spot}

module _ (u : SourceUnit) where
  abbrev pub ranged_value_layer : Expr-F Arg Cond Expr Spot Ref → RangedValue
  ranged_value_layer x = ranged.expression_step u (map-Expr Arg Cond Expr Spot Ref Bool Bool RangedValue Bool RangedReference (is_ranged_argument u) (is_ranged_condition u) (ranged_value u) (is_ranged_spot u) (ranged_reference u) x)

  abbrev pub ranged_argument_layer : Arg-F Arg Cond Expr Spot Ref → Bool
  ranged_argument_layer x = ranged.argument_step (map-Arg Arg Cond Expr Spot Ref Bool Bool RangedValue Bool RangedReference (is_ranged_argument u) (is_ranged_condition u) (ranged_value u) (is_ranged_spot u) (ranged_reference u) x)

  abbrev pub ranged_spot_layer : Spot-F Arg Cond Expr Spot Ref → Bool
  ranged_spot_layer x = ranged.spot_step (map-Spot Arg Cond Expr Spot Ref Bool Bool RangedValue Bool RangedReference (is_ranged_argument u) (is_ranged_condition u) (ranged_value u) (is_ranged_spot u) (ranged_reference u) x)

  abbrev pub ranged_reference_layer : Ref-F Arg Cond Expr Spot Ref → RangedReference
  ranged_reference_layer x = ranged.reference_step (map-Ref Arg Cond Expr Spot Ref Bool Bool RangedValue Bool RangedReference (is_ranged_argument u) (is_ranged_condition u) (ranged_value u) (is_ranged_spot u) (ranged_reference u) x)

  abbrev pub ranged_condition_layer : Cond-F Arg Cond Expr Spot Ref → Bool
  ranged_condition_layer x = ranged.condition_step (map-Cond Arg Cond Expr Spot Ref Bool Bool RangedValue Bool RangedReference (is_ranged_argument u) (is_ranged_condition u) (ranged_value u) (is_ranged_spot u) (ranged_reference u) x)

  pub value-ranged : (x : Expr) → ranged_value u x ≡ ranged_value_layer (out-Expr x)
  value-ranged = fold_out-Expr Bool Bool RangedValue Bool RangedReference ranged.argument_step ranged.condition_step (ranged.expression_step u) ranged.spot_step ranged.reference_step

  pub argument-ranged : (x : Arg) → is_ranged_argument u x ≡ ranged_argument_layer (out-Arg x)
  argument-ranged = fold_out-Arg Bool Bool RangedValue Bool RangedReference ranged.argument_step ranged.condition_step (ranged.expression_step u) ranged.spot_step ranged.reference_step

  pub spot-ranged : (x : Spot) → is_ranged_spot u x ≡ ranged_spot_layer (out-Spot x)
  spot-ranged = fold_out-Spot Bool Bool RangedValue Bool RangedReference ranged.argument_step ranged.condition_step (ranged.expression_step u) ranged.spot_step ranged.reference_step

  pub reference-ranged : (x : Ref) → ranged_reference u x ≡ ranged_reference_layer (out-Ref x)
  reference-ranged = fold_out-Ref Bool Bool RangedValue Bool RangedReference ranged.argument_step ranged.condition_step (ranged.expression_step u) ranged.spot_step ranged.reference_step

  pub condition-ranged : (x : Cond) → is_ranged_condition u x ≡ ranged_condition_layer (out-Cond x)
  condition-ranged = fold_out-Cond Bool Bool RangedValue Bool RangedReference ranged.argument_step ranged.condition_step (ranged.expression_step u) ranged.spot_step ranged.reference_step
