-- What holds of the pieces of all expressions, conditions, arguments and references, where it holds of each layer over smaller ones.
use Rattle.std.proofs.Common.{ℕ, zero, suc, ◌<◌, ◌≤◌, Bool, sym, ap, ◌∙◌, subst, arith}
use Rattle.cw_unit.specs.declared.unit.Arg.{Arg, out-Arg}
use Rattle.cw_unit.specs.declared.unit.Cond.{Cond, out-Cond}
use Rattle.cw_unit.specs.declared.unit.Spot.{Spot, out-Spot}
use Rattle.cw_unit.specs.declared.unit.Ref.{Ref, out-Ref}
use Rattle.cw_unit.specs.declared.unit.Expr.{Expr, Expr-F, out-Expr}
use Rattle.cw_unit.specs.declared.unit.Arg.TheOpen.{Arg-F, Cond-F, Spot-F}
use Rattle.cw_gen_expr.specs.Pieces.{Piece}
use Rattle.cw_gen_expr.specs.ReferenceExpressions.{Scope, condition_piece, argument_piece, reference_of, expression_piece}
use Rattle.cw_gen_expr.proofs.Layers.{value_layer, value-made, argument_layer, argument-made, spot_layer, spot-made, reference-made, condition_layer, condition-made, expression_size, expression-size, expression_size_layer, argument_size, argument-size, argument_size_layer, spot-size, spot_size_layer, reference_size, reference-size, condition_size, condition-size, condition_size_layer}

module _ (s : Scope) (Holds : Piece → Type 0) where
  pub record Below (n : ℕ) : Type 0 where
    pub values : (d : Expr) → expression_size d < n → (f : ℕ) → Holds (expression_piece s d f)
    pub conditions : (d : Cond) → condition_size d < n → (when : Bool) (mark : ℕ) → Holds (condition_piece s d when mark)
    pub arguments : (d : Arg) → argument_size d < n → Holds (argument_piece s d)
    pub references : (d : Ref) → reference_size d < n → Holds (reference_of s d).address

  pub record Layered (n : ℕ) : Type 0 where
    pub value : (x : Expr-F Arg Cond Expr Spot Ref) → expression_size_layer x ≤ n → (f : ℕ) → Holds ((value_layer s x).at f)
    pub condition : (x : Cond-F Arg Cond Expr Spot Ref) → condition_size_layer x ≤ n → (when : Bool) (mark : ℕ) → Holds (condition_layer s x when mark)
    pub argument : (x : Arg-F Arg Cond Expr Spot Ref) → argument_size_layer x ≤ n → Holds (argument_layer s x)
    pub spot : (x : Spot-F Arg Cond Expr Spot Ref) → spot_size_layer x ≤ n → Holds (spot_layer s x)

  module _ (each : (n : ℕ) → Below n → Layered n) where
    next_below : (n : ℕ) → Layered n → Below (suc n)
    next_below n l = record {
      values = λ d lt f. subst (λ v. Holds (v.at f)) (sym (value-made s d)) (l.value (out-Expr d) (let z : expression_size_layer (out-Expr d) ≤ n = omega (arith, lt, expression-size d) in z) f);
      conditions = λ d lt when mark. subst (λ p. Holds (p when mark)) (sym (condition-made s d)) (l.condition (out-Cond d) (let z : condition_size_layer (out-Cond d) ≤ n = omega (arith, lt, condition-size d) in z) when mark);
      arguments = λ d lt. subst Holds (sym (argument-made s d)) (l.argument (out-Arg d) (let z : argument_size_layer (out-Arg d) ≤ n = omega (arith, lt, argument-size d) in z));
      references = λ d lt.
          subst Holds (sym (ap (λ x. x.address) (reference-made s d) ∙ spot-made s (out-Ref d).at))
          (l.spot (out-Spot (out-Ref d).at) (let z : spot_size_layer (out-Spot (out-Ref d).at) ≤ n = omega (arith, lt, reference-size d ∙ spot-size (out-Ref d).at) in z));
    }

    pub below : (n : ℕ) → Below n
    below zero = record {
      values = λ d lt f. absurd (omega (arith, lt));
      conditions = λ d lt when mark. absurd (omega (arith, lt));
      arguments = λ d lt. absurd (omega (arith, lt));
      references = λ d lt. absurd (omega (arith, lt));
    }
    below (suc n) = next_below n (each n (below n))

    pub of_value : (e : Expr) (f : ℕ) → Holds (expression_piece s e f)
    of_value e f = (below (suc (expression_size e))).values e (let z : expression_size e < suc (expression_size e) = omega arith in z) f

    pub of_condition : (d : Cond) (when : Bool) (mark : ℕ) → Holds (condition_piece s d when mark)
    of_condition d when mark = (below (suc (condition_size d))).conditions d (let z : condition_size d < suc (condition_size d) = omega arith in z) when mark

    pub of_argument : (a : Arg) → Holds (argument_piece s a)
    of_argument a = (below (suc (argument_size a))).arguments a (let z : argument_size a < suc (argument_size a) = omega arith in z)

    pub of_reference : (r : Ref) → Holds (reference_of s r).address
    of_reference r = (below (suc (reference_size r))).references r (let z : reference_size r < suc (reference_size r) = omega arith in z)
