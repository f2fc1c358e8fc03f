-- The nodes of a unit's expressions, conditions, references and arguments, by what their parts count.
use Rattle.std.proofs.Common.{◌≡◌, ℕ, suc, ◌+◌, ◌≤◌, Bool, true, false, Option, sym, ap, ◌∙◌, arith}
use Rattle.cw_tree.specs.declared.leaf.AddOp.{AddOp}
use Rattle.cw_tree.specs.declared.leaf.AddOp.TheVariants as add
use Rattle.cw_tree.specs.declared.leaf.MulOp.{MulOp}
use Rattle.cw_tree.specs.declared.leaf.MulOp.TheVariants as mul
use Rattle.cw_make_expr.specs.Nodes.{whole_number, added, multiplied, value_argument, place_in, place_argument, whole_part_in, whole_part, whole_part_if, reference}
use Rattle.cw_unit.specs.declared.unit.Field.{Field}
use Rattle.cw_unit.specs.declared.unit.Expr.{Expr, Expr-F, out-Expr, roll-Expr, map-Expr}
use Rattle.cw_unit.specs.declared.unit.Arg.{Arg, roll-Arg, map-Arg}
use Rattle.cw_unit.specs.declared.unit.Cond.{Cond, roll-Cond, map-Cond}
use Rattle.cw_unit.specs.declared.unit.Spot.{Spot, roll-Spot, map-Spot, fold-Spot}
use Rattle.cw_unit.specs.declared.unit.Ref.{Ref}
use Rattle.cw_unit.specs.declared.unit.Arg.TheOpen as layer
use Rattle.cw_unit.specs.declared.unit.Arg.TheOpen.{Arg-F, Cond-F, Spot-F, Ref-F}
use Rattle.cw_unit.specs.declared.unit.Arg.TheViews.{roll-out-Expr}
use Rattle.cw_unit.specs.declared.unit.Arg.TheFolds.{fold-roll-Expr, fold-roll-Arg, fold-roll-Cond, fold-roll-Spot, fold-roll-Ref}
use Rattle.cw_tokens.specs.LeastTokens as tokens
use Rattle.cw_tokens.specs.LeastTokens.{arguments, argument_tokens, condition_tokens, expression_tokens, reference_tokens}

abbrev pub spot_tokens : Spot → Option Field → ℕ
spot_tokens = fold-Spot ℕ ℕ ℕ (Option Field → ℕ) ℕ tokens.argument_step tokens.condition_step tokens.expression_step tokens.spot_step tokens.reference_step

pub expression_rolled : (x : Expr-F Arg Cond Expr Spot Ref)
    → expression_tokens (roll-Expr x) ≡ tokens.expression_step (map-Expr Arg Cond Expr Spot Ref ℕ ℕ ℕ (Option Field → ℕ) ℕ argument_tokens condition_tokens expression_tokens spot_tokens reference_tokens x)
expression_rolled = fold-roll-Expr ℕ ℕ ℕ (Option Field → ℕ) ℕ tokens.argument_step tokens.condition_step tokens.expression_step tokens.spot_step tokens.reference_step

pub argument_rolled : (x : Arg-F Arg Cond Expr Spot Ref)
    → argument_tokens (roll-Arg x) ≡ tokens.argument_step (map-Arg Arg Cond Expr Spot Ref ℕ ℕ ℕ (Option Field → ℕ) ℕ argument_tokens condition_tokens expression_tokens spot_tokens reference_tokens x)
argument_rolled = fold-roll-Arg ℕ ℕ ℕ (Option Field → ℕ) ℕ tokens.argument_step tokens.condition_step tokens.expression_step tokens.spot_step tokens.reference_step

pub condition_rolled : (x : Cond-F Arg Cond Expr Spot Ref)
    → condition_tokens (roll-Cond x) ≡ tokens.condition_step (map-Cond Arg Cond Expr Spot Ref ℕ ℕ ℕ (Option Field → ℕ) ℕ argument_tokens condition_tokens expression_tokens spot_tokens reference_tokens x)
condition_rolled = fold-roll-Cond ℕ ℕ ℕ (Option Field → ℕ) ℕ tokens.argument_step tokens.condition_step tokens.expression_step tokens.spot_step tokens.reference_step

pub spot_rolled : (x : Spot-F Arg Cond Expr Spot Ref) (field : Option Field)
    → spot_tokens (roll-Spot x) field ≡ tokens.spot_step (map-Spot Arg Cond Expr Spot Ref ℕ ℕ ℕ (Option Field → ℕ) ℕ argument_tokens condition_tokens expression_tokens spot_tokens reference_tokens x) field
spot_rolled x field = ap (λ (tokens : Option Field → ℕ). tokens field) (fold-roll-Spot ℕ ℕ ℕ (Option Field → ℕ) ℕ tokens.argument_step tokens.condition_step tokens.expression_step tokens.spot_step tokens.reference_step x)

pub reference_rolled : (s : Spot) (f : ℕ) (field : Option Field) → reference_tokens (reference s f field) ≡ spot_tokens s field
reference_rolled s f field = fold-roll-Ref ℕ ℕ ℕ (Option Field → ℕ) ℕ tokens.argument_step tokens.condition_step tokens.expression_step tokens.spot_step tokens.reference_step (record { «at» = s; f = f; field = field })

pub added_tokens : (op : AddOp) (a b : Expr) → expression_tokens (added op a b) ≡ suc (expression_tokens a + expression_tokens b)
added_tokens add.Plus a b = expression_rolled (layer.Sum a b)
added_tokens add.Minus a b = expression_rolled (layer.Less a b)

pub multiplied_tokens : (op : MulOp) (a b : Expr) → expression_tokens (multiplied op a b) ≡ suc (expression_tokens a + expression_tokens b)
multiplied_tokens mul.Times a b = expression_rolled (layer.Times a b)
multiplied_tokens mul.Divide a b = expression_rolled (layer.Over a b)

-- ---- a number's whole part

part_in : (e : Expr) (x : Expr-F Arg Cond Expr Spot Ref) → roll-Expr x ≡ e → expression_tokens (whole_part_in e x) ≤ expression_tokens e
part_in e (layer.Num n) is =
    let a : expression_tokens (whole_number n.whole) ≡ 1 = expression_rolled (layer.Num (record { whole = n.whole; digits = 0; places = 0 })) in
    let b : expression_tokens e ≡ 1 = ap expression_tokens (sym is) ∙ expression_rolled (layer.Num n) in
    omega (arith, a, b)
part_in e _ is = omega arith

pub whole_part_least : (e : Expr) → expression_tokens (whole_part e) ≤ expression_tokens e
whole_part_least e = part_in e (out-Expr e) (roll-out-Expr e)

pub whole_part_if_least : (b : Bool) (e : Expr) → expression_tokens (whole_part_if b e) ≤ expression_tokens e
whole_part_if_least true e = whole_part_least e
whole_part_if_least false e = omega arith

-- ---- arguments that are values or places

pub value_given : (e : Expr) (f : ℕ) → argument_tokens (value_argument e f) ≡ expression_tokens e
value_given e f = argument_rolled (layer.Value e f)

given_in : (e : Expr) (f : ℕ) (x : Expr-F Arg Cond Expr Spot Ref) → roll-Expr x ≡ e → argument_tokens (place_in e f x) ≡ expression_tokens e
given_in e f (layer.Read r) is = argument_rolled (layer.Place r) ∙ sym (ap expression_tokens (sym is) ∙ expression_rolled (layer.Read r))
given_in e f _ is = value_given e f

pub place_given : (e : Expr) (f : ℕ) → argument_tokens (place_argument e f) ≡ expression_tokens e
place_given e f = given_in e f (out-Expr e) (roll-out-Expr e)
