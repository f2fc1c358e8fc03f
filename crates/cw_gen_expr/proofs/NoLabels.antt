-- No label stands in the orders of expressions, conditions, references and arguments.
use Rattle.std.proofs.Common.{◌≡◌, ℕ, zero, suc, ◌+◌, ◌<◌, ◌≤◌, ℤ, pos, ◌-ℤ◌, List, [], ◌∷◌, ◌++◌, map, Bool, true, false, Option, Some, None, refl, sym, ap, ap₂, ◌∙◌, subst, arith}
use Rattle.cw_unit.specs.declared.layout.Layout.{Layout}
use Rattle.cw_unit.specs.declared.unit.Arg.{Arg, out-Arg}
use Rattle.cw_unit.specs.declared.unit.Cond.{Cond, out-Cond}
use Rattle.cw_unit.specs.declared.unit.Spot.{Spot, out-Spot}
use Rattle.cw_unit.specs.declared.unit.Ref.{Ref, out-Ref}
use Rattle.cw_unit.specs.declared.unit.Expr.{Expr, Expr-F, out-Expr}
use Rattle.cw_unit.specs.declared.unit.Arg.TheOpen as layer
use Rattle.cw_unit.specs.declared.unit.Arg.TheOpen.{Arg-F, Cond-F, Spot-F, Ref-F}
use Rattle.cw_gen_expr.specs.Pieces.{Piece, plain, followed_by, sequence}
use Rattle.cw_gen_expr.specs.ReferenceExpressions.{Scope, known_or, named_or, bounds_orders, pick_mark, condition_piece, argument_piece, reference_of, expression_piece}
use Rattle.cw_gen_expr.proofs.Layers.{value_layer, computed_layer, known_layer, value-made, argument_layer, argument-made, spot_layer, indexed_layer, word_item, word_layer, spot-made, reference-made, condition_layer, condition-made, total, expression_size, expression-size, expression_size_layer, argument_size, argument-size, argument_size_layer, spot-size, spot_size_layer, reference_size, reference-size, condition_size, condition-size, condition_size_layer}

nothing : {a b : List (ℕ × ℕ)} → a ≡ [] → b ≡ [] → a ++ b ≡ []
nothing x y = ap₂ (λ l m. l ++ m) x y

abbrev pub NoLabel : Piece → Type 0
NoLabel p = (place next : ℕ) → (p place next).labels ≡ []

pub both_none : (a b : Piece) → NoLabel a → NoLabel b → NoLabel (followed_by a b)
both_none a b x y place next = nothing (x place next) (y _ _)

-- a constant has none, and neither has the order of a word that is known
known_none : (k : Option ℤ) (p : Piece) → NoLabel p → NoLabel (known_or k p)
known_none (Some z) p h place next = refl
known_none None p h place next = h place next

named_none : (y : Layout) (i : ℕ) (w : Option ℕ) (p : Piece) → NoLabel p → NoLabel (named_or y i w p)
named_none y i (Some n) p h place next = refl
named_none y i None p h place next = h place next

module _ (s : Scope) where
  record Below (n : ℕ) : Type 0 where
    values : (d : Expr) → expression_size d < n → (f : ℕ) → NoLabel (expression_piece s d f)
    conditions : (d : Cond) → condition_size d < n → (when : Bool) (mark : ℕ) → NoLabel (condition_piece s d when mark)
    arguments : (d : Arg) → argument_size d < n → NoLabel (argument_piece s d)
    references : (d : Ref) → reference_size d < n → NoLabel (reference_of s d).address

  module _ (n : ℕ) (b : Below n) where
    -- an index with bounds has no label, where its expression has none
    bounded_none : (e : Expr) (l u : ℤ) → expression_size e < n → NoLabel (followed_by (expression_piece s e 0) (plain (bounds_orders s.unit.bounds s.line l u)))
    bounded_none e l u lt place next = nothing (b.values e lt 0 place next) refl

    indexed_none : (x : Spot-F Arg Cond Expr Spot Ref) → spot_size_layer x ≤ n → NoLabel (indexed_layer s x)
    indexed_none (layer.Direct i) le = λ place next. refl
    indexed_none (layer.Through i) le = λ place next. refl
    indexed_none (layer.One i l u e) le = λ place next. nothing (bounded_none e l u (let z : expression_size e < n = omega (arith, le) in z) place next) refl
    indexed_none (layer.Two i l1 u1 l2 u2 m e g) le =
        λ place next. nothing (nothing (bounded_none e l1 u1 (let z : expression_size e < n = omega (arith, le) in z) place next) (bounded_none g l2 u2 (let z : expression_size g < n = omega (arith, le) in z) _ _)) refl
    indexed_none (layer.ParamArray i e) le = λ place next. nothing (b.values e (let z : expression_size e < n = omega (arith, le) in z) 0 place next) refl
    indexed_none (layer.Word i t m e) le = λ place next. nothing (bounded_none e (pos 0) (pos m -ℤ pos 1) (let z : expression_size e < n = omega (arith, le) in z) place next) refl
    indexed_none (layer.Elem i t k m q e) le = λ place next. nothing (bounded_none e (pos 0) (pos m -ℤ pos 1) (let z : expression_size e < n = omega (arith, le) in z) place next) refl
    indexed_none (layer.Bare e) le = λ place next. nothing (b.values e (let z : expression_size e < n = omega (arith, le) in z) 0 place next) refl

    spot_none : (x : Spot-F Arg Cond Expr Spot Ref) → spot_size_layer x ≤ n → NoLabel (spot_layer s x)
    spot_none x le = named_none s.layout (word_item s x) (word_layer s x) (indexed_layer s x) (indexed_none x le)

    reference_none : (r : Ref) → reference_size r ≤ n → NoLabel (reference_of s r).address
    reference_none r le =
        subst NoLabel (sym (ap (λ x. x.address) (reference-made s r) ∙ spot-made s (out-Ref r).at)) (spot_none (out-Spot (out-Ref r).at) (let z : spot_size_layer (out-Spot (out-Ref r).at) ≤ n = omega (arith, le, reference-size r ∙ spot-size (out-Ref r).at) in z))

    condition_none : (x : Cond-F Arg Cond Expr Spot Ref) → condition_size_layer x ≤ n → (when : Bool) (mark : ℕ) → NoLabel (condition_layer s x when mark)
    condition_none (layer.Cmp op a d) le when mark place next =
        nothing (b.values a (let z : expression_size a < n = omega (arith, le) in z) _ place next) (nothing (b.values d (let z : expression_size d < n = omega (arith, le) in z) _ _ _) refl)
    condition_none (layer.And a d) le when mark place next =
        nothing (b.conditions a (let z : condition_size a < n = omega (arith, le) in z) false (pick_mark when next mark) place (next + 1)) (b.conditions d (let z : condition_size d < n = omega (arith, le) in z) when mark _ _)
    condition_none (layer.Or a d) le when mark place next =
        nothing (b.conditions a (let z : condition_size a < n = omega (arith, le) in z) true (pick_mark when mark next) place (next + 1)) (b.conditions d (let z : condition_size d < n = omega (arith, le) in z) when mark _ _)

    argument_none : (x : Arg-F Arg Cond Expr Spot Ref) → argument_size_layer x ≤ n → NoLabel (argument_layer s x)
    argument_none (layer.Value e f) le = λ place next. nothing (b.values e (let z : expression_size e < n = omega (arith, le) in z) f place next) refl
    argument_none (layer.Place r) le = λ place next. nothing (b.references r (let z : reference_size r < n = omega (arith, le) in z) place next) refl
    argument_none _ le = λ place next. refl

    all_none : (args : List Arg) → total (map argument_size args) < n → NoLabel (sequence (map (argument_piece s) args))
    all_none [] lt = λ place next. refl
    all_none (a ∷ args) lt =
        both_none (argument_piece s a) (sequence (map (argument_piece s) args)) (b.arguments a (let z : argument_size a < n = omega (arith, lt) in z)) (all_none args (let z : total (map argument_size args) < n = omega (arith, lt) in z))

    computed_none : (x : Expr-F Arg Cond Expr Spot Ref) → expression_size_layer x ≤ n → (f : ℕ) → NoLabel ((computed_layer s x).at f)
    computed_none (layer.Num k) le f place next = refl
    computed_none (layer.Const k) le f place next = refl
    computed_none (layer.Text k) le f place next = refl
    computed_none (layer.Read r) le f place next = nothing (b.references r (let z : reference_size r < n = omega (arith, le) in z) place next) refl
    computed_none (layer.Call t args) le f place next = nothing (all_none args (let z : total (map argument_size args) < n = omega (arith, le) in z) place next) refl
    computed_none (layer.Force g e) le f place next = nothing (b.values e (let z : expression_size e < n = omega (arith, le) in z) g place next) refl
    computed_none (layer.Locate r) le f place next = nothing (b.references r (let z : reference_size r < n = omega (arith, le) in z) place next) refl
    computed_none (layer.Bits t d e) le f place next = nothing (b.values e (let z : expression_size e < n = omega (arith, le) in z) _ place next) refl
    computed_none (layer.Logic op a d) le f place next = nothing (b.values a (let z : expression_size a < n = omega (arith, le) in z) _ place next) (nothing (b.values d (let z : expression_size d < n = omega (arith, le) in z) _ _ _) refl)
    computed_none (layer.Sum a d) le f place next = nothing (b.values a (let z : expression_size a < n = omega (arith, le) in z) _ place next) (nothing (b.values d (let z : expression_size d < n = omega (arith, le) in z) _ _ _) refl)
    computed_none (layer.Less a d) le f place next = nothing (b.values a (let z : expression_size a < n = omega (arith, le) in z) _ place next) (nothing (b.values d (let z : expression_size d < n = omega (arith, le) in z) _ _ _) refl)
    computed_none (layer.Minus a) le f place next = nothing (b.values a (let z : expression_size a < n = omega (arith, le) in z) _ place next) refl
    computed_none (layer.Times a d) le f place next = nothing (b.values a (let z : expression_size a < n = omega (arith, le) in z) _ place next) (nothing (b.values d (let z : expression_size d < n = omega (arith, le) in z) _ _ _) refl)
    computed_none (layer.Over a d) le f place next = nothing (b.values a (let z : expression_size a < n = omega (arith, le) in z) _ place next) (nothing (b.values d (let z : expression_size d < n = omega (arith, le) in z) _ _ _) refl)
    computed_none (layer.Choice k a d) le f place next =
        let ha = b.values a (let z : expression_size a < n = omega (arith, le) in z) f in
        let hd = b.values d (let z : expression_size d < n = omega (arith, le) in z) f in
        let hk = b.conditions k (let z : condition_size k < n = omega (arith, le) in z) in
        ap₂ (λ l m. l ++ m) (ap₂ (λ l m. l ++ m) (hk false _ place (next + 1 + 1)) (ap₂ (λ l m. l ++ m) (ha _ _) refl)) (hd _ _)

    value_none : (x : Expr-F Arg Cond Expr Spot Ref) → expression_size_layer x ≤ n → (f : ℕ) → NoLabel ((value_layer s x).at f)
    value_none x le f = known_none (known_layer s x f) ((computed_layer s x).at f) (computed_none x le f)

    next_below : Below (suc n)
    next_below = record {
      values = λ d lt f. subst (λ v. NoLabel (v.at f)) (sym (value-made s d)) (value_none (out-Expr d) (let z : expression_size_layer (out-Expr d) ≤ n = omega (arith, lt, expression-size d) in z) f);
      conditions = λ d lt when mark. subst (λ p. NoLabel (p when mark)) (sym (condition-made s d)) (condition_none (out-Cond d) (let z : condition_size_layer (out-Cond d) ≤ n = omega (arith, lt, condition-size d) in z) when mark);
      arguments = λ d lt. subst NoLabel (sym (argument-made s d)) (argument_none (out-Arg d) (let z : argument_size_layer (out-Arg d) ≤ n = omega (arith, lt, argument-size d) in z));
      references = λ d lt. reference_none d (let z : reference_size d ≤ n = omega (arith, lt) in z);
    }

  below : (n : ℕ) → Below n
  below zero = record {
    values = λ d lt f. absurd (omega (arith, lt));
    conditions = λ d lt when mark. absurd (omega (arith, lt));
    arguments = λ d lt. absurd (omega (arith, lt));
    references = λ d lt. absurd (omega (arith, lt));
  }
  below (suc n) = next_below n (below n)

  pub value_unlabelled : (e : Expr) (f : ℕ) → NoLabel (expression_piece s e f)
  value_unlabelled e f = (below (suc (expression_size e))).values e (let z : expression_size e < suc (expression_size e) = omega arith in z) f

  pub condition_unlabelled : (d : Cond) (when : Bool) (mark : ℕ) → NoLabel (condition_piece s d when mark)
  condition_unlabelled d when mark = (below (suc (condition_size d))).conditions d (let z : condition_size d < suc (condition_size d) = omega arith in z) when mark

  pub reference_unlabelled : (r : Ref) → NoLabel (reference_of s r).address
  reference_unlabelled r = (below (suc (reference_size r))).references r (let z : reference_size r < suc (reference_size r) = omega arith in z)

  pub arguments_unlabelled : (args : List Arg) → NoLabel (sequence (map (argument_piece s) args))
  arguments_unlabelled args = all_none (suc (total (map argument_size args))) (below (suc (total (map argument_size args)))) args (let z : total (map argument_size args) < suc (total (map argument_size args)) = omega arith in z)
