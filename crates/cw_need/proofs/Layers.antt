-- The depth of a tree by its first layer.
use Rattle.std.proofs.Common.{◌≡◌, ℕ, ◌+◌, max, List, []}
use Rattle.cw_unit.specs.declared.unit.Unit.{Unit as SourceUnit}
use Rattle.cw_unit.specs.declared.unit.Arg.{Arg, out-Arg, map-Arg, fold-Arg, fold_out-Arg}
use Rattle.cw_unit.specs.declared.unit.Cond.{Cond, out-Cond, map-Cond, fold-Cond, fold_out-Cond}
use Rattle.cw_unit.specs.declared.unit.Spot.{Spot, out-Spot, map-Spot, fold-Spot, fold_out-Spot}
use Rattle.cw_unit.specs.declared.unit.Ref.{Ref, out-Ref, map-Ref, fold-Ref, fold_out-Ref}
use Rattle.cw_unit.specs.declared.unit.Expr.{Expr, Expr-F, out-Expr, map-Expr, fold-Expr, fold_out-Expr}
use Rattle.cw_unit.specs.declared.unit.Stmt.{Stmt, Stmt-F, out-Stmt, map-Stmt, fold-Stmt, fold_out-Stmt}
use Rattle.cw_unit.specs.declared.unit.Arg.TheOpen as layer
use Rattle.cw_unit.specs.declared.unit.Arg.TheOpen.{Arg-F, Cond-F, Spot-F, Ref-F}
use Rattle.cw_unit.specs.StackBound.{ArgumentNeed, argument_step, condition_step, spot_step, ref_step, expression_step, operand_depth, argument_depth, condition_depth, address_depth, statement_step, body_depth}
use Rattle.cw_need.specs.Depths.{spot_depth}

abbrev pub expression_layer : Expr-F Arg Cond Expr Spot Ref → ℕ
expression_layer x = expression_step (map-Expr Arg Cond Expr Spot Ref ArgumentNeed ℕ ℕ ℕ ℕ argument_depth condition_depth operand_depth spot_depth address_depth x)

abbrev pub argument_layer : Arg-F Arg Cond Expr Spot Ref → ArgumentNeed
argument_layer x = argument_step (map-Arg Arg Cond Expr Spot Ref ArgumentNeed ℕ ℕ ℕ ℕ argument_depth condition_depth operand_depth spot_depth address_depth x)

abbrev pub condition_layer : Cond-F Arg Cond Expr Spot Ref → ℕ
condition_layer x = condition_step (map-Cond Arg Cond Expr Spot Ref ArgumentNeed ℕ ℕ ℕ ℕ argument_depth condition_depth operand_depth spot_depth address_depth x)

abbrev pub spot_layer : Spot-F Arg Cond Expr Spot Ref → ℕ
spot_layer x = spot_step (map-Spot Arg Cond Expr Spot Ref ArgumentNeed ℕ ℕ ℕ ℕ argument_depth condition_depth operand_depth spot_depth address_depth x)

abbrev pub reference_layer : Ref-F Arg Cond Expr Spot Ref → ℕ
reference_layer x = ref_step (map-Ref Arg Cond Expr Spot Ref ArgumentNeed ℕ ℕ ℕ ℕ argument_depth condition_depth operand_depth spot_depth address_depth x)

abbrev pub statement_layer : Stmt-F Stmt → ℕ
statement_layer x = statement_step (map-Stmt Stmt ℕ body_depth x)

pub expression-by_layer : (x : Expr) → operand_depth x ≡ expression_layer (out-Expr x)
expression-by_layer = fold_out-Expr ArgumentNeed ℕ ℕ ℕ ℕ argument_step condition_step expression_step spot_step ref_step

pub argument-by_layer : (x : Arg) → argument_depth x ≡ argument_layer (out-Arg x)
argument-by_layer = fold_out-Arg ArgumentNeed ℕ ℕ ℕ ℕ argument_step condition_step expression_step spot_step ref_step

pub condition-by_layer : (x : Cond) → condition_depth x ≡ condition_layer (out-Cond x)
condition-by_layer = fold_out-Cond ArgumentNeed ℕ ℕ ℕ ℕ argument_step condition_step expression_step spot_step ref_step

pub spot-by_layer : (x : Spot) → spot_depth x ≡ spot_layer (out-Spot x)
spot-by_layer = fold_out-Spot ArgumentNeed ℕ ℕ ℕ ℕ argument_step condition_step expression_step spot_step ref_step

pub reference-by_layer : (x : Ref) → address_depth x ≡ reference_layer (out-Ref x)
reference-by_layer = fold_out-Ref ArgumentNeed ℕ ℕ ℕ ℕ argument_step condition_step expression_step spot_step ref_step

pub statement-by_layer : (x : Stmt) → body_depth x ≡ statement_layer (out-Stmt x)
statement-by_layer = fold_out-Stmt ℕ statement_step

pub ruleset layers = (expression-by_layer, argument-by_layer, condition-by_layer, spot-by_layer, reference-by_layer, statement-by_layer)
