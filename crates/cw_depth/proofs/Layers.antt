-- What a tree mentions, by its first layer.
use Rattle.std.proofs.Common.{◌≡◌}
use Rattle.cw_unit.specs.declared.unit.Arg.{Arg, out-Arg, fold_out-Arg}
use Rattle.cw_unit.specs.declared.unit.Cond.{Cond, out-Cond, fold_out-Cond}
use Rattle.cw_unit.specs.declared.unit.Spot.{Spot, out-Spot, fold_out-Spot}
use Rattle.cw_unit.specs.declared.unit.Ref.{Ref, out-Ref, map-Ref, fold_out-Ref}
use Rattle.cw_unit.specs.declared.unit.Expr.{Expr, Expr-F, out-Expr, fold_out-Expr}
use Rattle.cw_unit.specs.declared.unit.Stmt.{Stmt, Stmt-F, out-Stmt, map-Stmt, fold_out-Stmt}
use Rattle.cw_unit.specs.declared.unit.Arg.TheOpen.{Arg-F, Cond-F, Spot-F, Ref-F}
use Rattle.cw_depth.specs.Gathered as gathered
use Rattle.cw_depth.specs.Gathered.{condition_step, spot_step, ref_step}
use Rattle.cw_depth.specs.Mentions.{Mentions, in_spot, of_call, argument_step, in_expression, in_argument, in_condition, in_reference, in_statement}

abbrev expression_step : Expr-F Mentions Mentions Mentions Mentions Mentions → Mentions
expression_step = gathered.expression_step argument_step of_call

abbrev pub statement_step : Stmt-F Mentions → Mentions
statement_step = gathered.statement_step argument_step of_call

abbrev pub expression_layer : Expr-F Arg Cond Expr Spot Ref → Mentions
expression_layer = gathered.expression_layer argument_step of_call

abbrev pub argument_layer : Arg-F Arg Cond Expr Spot Ref → Mentions
argument_layer = gathered.argument_layer argument_step of_call

abbrev pub condition_layer : Cond-F Arg Cond Expr Spot Ref → Mentions
condition_layer = gathered.condition_layer argument_step of_call

abbrev pub spot_layer : Spot-F Arg Cond Expr Spot Ref → Mentions
spot_layer = gathered.spot_layer argument_step of_call

abbrev pub reference_layer : Ref-F Arg Cond Expr Spot Ref → Mentions
reference_layer x = ref_step (map-Ref Arg Cond Expr Spot Ref Mentions Mentions Mentions Mentions Mentions in_argument in_condition in_expression in_spot in_reference x)

abbrev pub statement_layer : Stmt-F Stmt → Mentions
statement_layer x = statement_step (map-Stmt Stmt Mentions in_statement x)

pub expression-by_layer : (x : Expr) → in_expression x ≡ expression_layer (out-Expr x)
expression-by_layer = fold_out-Expr Mentions Mentions Mentions Mentions Mentions argument_step condition_step expression_step spot_step ref_step

pub argument-by_layer : (x : Arg) → in_argument x ≡ argument_layer (out-Arg x)
argument-by_layer = fold_out-Arg Mentions Mentions Mentions Mentions Mentions argument_step condition_step expression_step spot_step ref_step

pub condition-by_layer : (x : Cond) → in_condition x ≡ condition_layer (out-Cond x)
condition-by_layer = fold_out-Cond Mentions Mentions Mentions Mentions Mentions argument_step condition_step expression_step spot_step ref_step

pub spot-by_layer : (x : Spot) → in_spot x ≡ spot_layer (out-Spot x)
spot-by_layer = fold_out-Spot Mentions Mentions Mentions Mentions Mentions argument_step condition_step expression_step spot_step ref_step

pub reference-by_layer : (x : Ref) → in_reference x ≡ reference_layer (out-Ref x)
reference-by_layer = fold_out-Ref Mentions Mentions Mentions Mentions Mentions argument_step condition_step expression_step spot_step ref_step

pub statement-by_layer : (x : Stmt) → in_statement x ≡ statement_layer (out-Stmt x)
statement-by_layer = fold_out-Stmt Mentions statement_step

pub ruleset layers = (expression-by_layer, argument-by_layer, condition-by_layer, spot-by_layer, reference-by_layer, statement-by_layer)
