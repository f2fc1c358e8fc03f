-- What is known of the tokens of a tree by its first layer.
use Rattle.std.proofs.Common.{◌≡◌, ℕ, ◌≤◌, List, [], ◌∷◌, map, Option, refl, ap, arith}
use Rattle.cw_unit.specs.declared.unit.Field.{Field}
use Rattle.cw_unit.specs.declared.unit.Arg.{Arg, out-Arg, map-Arg, fold_out-Arg}
use Rattle.cw_unit.specs.declared.unit.Cond.{Cond, out-Cond, map-Cond, fold_out-Cond}
use Rattle.cw_unit.specs.declared.unit.Spot.{Spot, out-Spot, map-Spot, fold-Spot, fold_out-Spot}
use Rattle.cw_unit.specs.declared.unit.Ref.{Ref, out-Ref, map-Ref, fold_out-Ref}
use Rattle.cw_unit.specs.declared.unit.Expr.{Expr, Expr-F, out-Expr, map-Expr, fold_out-Expr}
use Rattle.cw_unit.specs.declared.unit.Arg.TheOpen.{Arg-F, Cond-F, Spot-F, Ref-F}
use Rattle.cw_tokens.specs.LeastTokens.{separated, arguments, argument_step, condition_step, spot_step, reference_step, expression_step, expression_tokens, argument_tokens, condition_tokens, reference_tokens, each_argument}

abbrev pub spot_tokens : Spot → Option Field → ℕ
spot_tokens = fold-Spot ℕ ℕ ℕ (Option Field → ℕ) ℕ argument_step condition_step expression_step spot_step reference_step

abbrev pub expression_layer : Expr-F Arg Cond Expr Spot Ref → ℕ
expression_layer x = expression_step (map-Expr Arg Cond Expr Spot Ref ℕ ℕ ℕ (Option Field → ℕ) ℕ argument_tokens condition_tokens expression_tokens spot_tokens reference_tokens x)

abbrev pub argument_layer : Arg-F Arg Cond Expr Spot Ref → ℕ
argument_layer x = argument_step (map-Arg Arg Cond Expr Spot Ref ℕ ℕ ℕ (Option Field → ℕ) ℕ argument_tokens condition_tokens expression_tokens spot_tokens reference_tokens x)

abbrev pub condition_layer : Cond-F Arg Cond Expr Spot Ref → ℕ
condition_layer x = condition_step (map-Cond Arg Cond Expr Spot Ref ℕ ℕ ℕ (Option Field → ℕ) ℕ argument_tokens condition_tokens expression_tokens spot_tokens reference_tokens x)

abbrev pub spot_layer : Spot-F Arg Cond Expr Spot Ref → Option Field → ℕ
spot_layer x = spot_step (map-Spot Arg Cond Expr Spot Ref ℕ ℕ ℕ (Option Field → ℕ) ℕ argument_tokens condition_tokens expression_tokens spot_tokens reference_tokens x)

abbrev pub reference_layer : Ref-F Arg Cond Expr Spot Ref → ℕ
reference_layer x = reference_step (map-Ref Arg Cond Expr Spot Ref ℕ ℕ ℕ (Option Field → ℕ) ℕ argument_tokens condition_tokens expression_tokens spot_tokens reference_tokens x)

pub expression-tokens : (x : Expr) → expression_tokens x ≡ expression_layer (out-Expr x)
expression-tokens = fold_out-Expr ℕ ℕ ℕ (Option Field → ℕ) ℕ argument_step condition_step expression_step spot_step reference_step

pub argument-tokens : (x : Arg) → argument_tokens x ≡ argument_layer (out-Arg x)
argument-tokens = fold_out-Arg ℕ ℕ ℕ (Option Field → ℕ) ℕ argument_step condition_step expression_step spot_step reference_step

pub condition-tokens : (x : Cond) → condition_tokens x ≡ condition_layer (out-Cond x)
condition-tokens = fold_out-Cond ℕ ℕ ℕ (Option Field → ℕ) ℕ argument_step condition_step expression_step spot_step reference_step

pub spot-tokens : (x : Spot) (field : Option Field) → spot_tokens x field ≡ spot_layer (out-Spot x) field
spot-tokens x field = ap (λ (tokens : Option Field → ℕ). tokens field) (fold_out-Spot ℕ ℕ ℕ (Option Field → ℕ) ℕ argument_step condition_step expression_step spot_step reference_step x)

pub reference-tokens : (x : Ref) → reference_tokens x ≡ reference_layer (out-Ref x)
reference-tokens = fold_out-Ref ℕ ℕ ℕ (Option Field → ℕ) ℕ argument_step condition_step expression_step spot_step reference_step

pub each-argument : (args : List Arg) → each_argument args ≡ map argument_tokens args
each-argument [] = refl
each-argument (a ∷ args) = ap (λ ns. argument_tokens a ∷ ns) (each-argument args)

pub separated-within : (ns : List ℕ) → separated ns ≤ arguments ns
separated-within [] = omega arith
separated-within (n ∷ ns) = omega arith
