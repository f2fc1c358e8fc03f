-- The scales by which orders are made, and by which they are built, are those of the source semantics.
use Rattle.std.proofs.Common.{◌≡◌, ℕ, zero, suc, ◌<◌, ◌≤◌, max, List, Bool, refl, sym, ap, ap₂, ◌∙◌, arith}
use Rattle.cw_unit.specs.declared.unit.Unit.{Unit as SourceUnit}
use Rattle.cw_unit.specs.declared.unit.Target.{Target}
use Rattle.cw_unit.specs.declared.unit.LogicOp.{LogicOp}
use Rattle.cw_unit.specs.declared.unit.Arg.{Arg}
use Rattle.cw_unit.specs.declared.unit.Cond.{Cond}
use Rattle.cw_unit.specs.declared.unit.Spot.{Spot}
use Rattle.cw_unit.specs.declared.unit.Ref.{Ref, out-Ref}
use Rattle.cw_unit.specs.declared.unit.Expr.{Expr, Expr-F, out-Expr}
use Rattle.cw_unit.specs.declared.unit.Expr.TheVariants as expr
use Rattle.cw_unit.specs.declared.unit.Arg.TheOpen as layer
use Rattle.cw_unit.specs.declared.unit.Arg.TheViews.{roll-Expr, roll-out-Expr}
use Rattle.cw_unit.specs.Scales.{natural_scale, operand_scale, operand_layer, answer_scale}
use Rattle.cw_unit.proofs.Equations.{natural_scale-Minus, natural_scale-Read, natural_scale-Sum, natural_scale-Less, natural_scale-Times, natural_scale-Over, natural_scale-Choice}
use Rattle.cw_gen_expr.specs.ReferenceExpressions.{Scope, value_of}
use Rattle.cw_gen_expr.specs.BuiltExpressions.{built_value}
use Rattle.cw_gen_expr.proofs.Layers.{value_layer, value-made, reference-made, built_value_layer, value-built, reference-built, expression_size, expression_size_layer, expression-size}

natural_scale-Call : (u : SourceUnit) (t : Target) (args : List Arg) → natural_scale u (expr.Call t args) ≡ answer_scale u t
unfolding Rattle.cw_unit.specs.declared.unit.Arg.TheViews.roll-Expr denote.Hole.Carrier.roll denote.Hole.Carrier.shown denote.Hole.Carrier.hidden Rattle.cw_unit.specs.declared.unit.Arg.TheBlock.hidden-the_row-Expr-3
natural_scale-Call u t args = refl

natural_scale-Force : (u : SourceUnit) (f : ℕ) (e : Expr) → natural_scale u (expr.Force f e) ≡ f
unfolding Rattle.cw_unit.specs.declared.unit.Arg.TheViews.roll-Expr denote.Hole.Carrier.roll denote.Hole.Carrier.shown denote.Hole.Carrier.hidden Rattle.cw_unit.specs.declared.unit.Arg.TheBlock.hidden-the_row-Expr-3
natural_scale-Force u f e = refl

natural_scale-Locate : (u : SourceUnit) (r : Ref) → natural_scale u (expr.Locate r) ≡ 0
unfolding Rattle.cw_unit.specs.declared.unit.Arg.TheViews.roll-Expr denote.Hole.Carrier.roll denote.Hole.Carrier.shown denote.Hole.Carrier.hidden Rattle.cw_unit.specs.declared.unit.Arg.TheBlock.hidden-the_row-Expr-3
natural_scale-Locate u r = refl

natural_scale-Bits : (u : SourceUnit) (t b : ℕ) (e : Expr) → natural_scale u (expr.Bits t b e) ≡ 0
unfolding Rattle.cw_unit.specs.declared.unit.Arg.TheViews.roll-Expr denote.Hole.Carrier.roll denote.Hole.Carrier.shown denote.Hole.Carrier.hidden Rattle.cw_unit.specs.declared.unit.Arg.TheBlock.hidden-the_row-Expr-3
natural_scale-Bits u t b e = refl

natural_scale-Logic : (u : SourceUnit) (op : LogicOp) (a b : Expr) → natural_scale u (expr.Logic op a b) ≡ 0
unfolding Rattle.cw_unit.specs.declared.unit.Arg.TheViews.roll-Expr denote.Hole.Carrier.roll denote.Hole.Carrier.shown denote.Hole.Carrier.hidden Rattle.cw_unit.specs.declared.unit.Arg.TheBlock.hidden-the_row-Expr-3
natural_scale-Logic u op a b = refl

-- the natural scale of an expression by its first layer
abbrev natural_layer : SourceUnit → Expr-F Arg Cond Expr Spot Ref → ℕ
natural_layer u (layer.Num n) = 0
natural_layer u (layer.Const z) = 0
natural_layer u (layer.Text i) = 0
natural_layer u (layer.Read r) = (out-Ref r).f
natural_layer u (layer.Call t args) = answer_scale u t
natural_layer u (layer.Force f e) = f
natural_layer u (layer.Locate r) = 0
natural_layer u (layer.Bits t b e) = 0
natural_layer u (layer.Logic op a b) = 0
natural_layer u (layer.Sum a b) = max (natural_scale u a) (natural_scale u b)
natural_layer u (layer.Less a b) = max (natural_scale u a) (natural_scale u b)
natural_layer u (layer.Minus a) = natural_scale u a
natural_layer u (layer.Times a b) = max (natural_scale u a) (natural_scale u b)
natural_layer u (layer.Over a b) = max (natural_scale u a) (natural_scale u b)
natural_layer u (layer.Choice c a b) = max (natural_scale u a) (natural_scale u b)

natural-rolled : (u : SourceUnit) (x : Expr-F Arg Cond Expr Spot Ref) → natural_scale u (roll-Expr x) ≡ natural_layer u x
natural-rolled u (layer.Num n) = ap (natural_scale u) (expr.rolls-Num n)
natural-rolled u (layer.Const z) = ap (natural_scale u) (expr.rolls-Const z)
natural-rolled u (layer.Text i) = ap (natural_scale u) (expr.rolls-Text i)
natural-rolled u (layer.Read r) = ap (natural_scale u) (expr.rolls-Read r) ∙ natural_scale-Read u r
natural-rolled u (layer.Call t args) = ap (natural_scale u) (expr.rolls-Call t args) ∙ natural_scale-Call u t args
natural-rolled u (layer.Force f e) = ap (natural_scale u) (expr.rolls-Force f e) ∙ natural_scale-Force u f e
natural-rolled u (layer.Locate r) = ap (natural_scale u) (expr.rolls-Locate r) ∙ natural_scale-Locate u r
natural-rolled u (layer.Bits t b e) = ap (natural_scale u) (expr.rolls-Bits t b e) ∙ natural_scale-Bits u t b e
natural-rolled u (layer.Logic op a b) = ap (natural_scale u) (expr.rolls-Logic op a b) ∙ natural_scale-Logic u op a b
natural-rolled u (layer.Sum a b) = ap (natural_scale u) (expr.rolls-Sum a b) ∙ natural_scale-Sum u a b
natural-rolled u (layer.Less a b) = ap (natural_scale u) (expr.rolls-Less a b) ∙ natural_scale-Less u a b
natural-rolled u (layer.Minus a) = ap (natural_scale u) (expr.rolls-Minus a) ∙ natural_scale-Minus u a
natural-rolled u (layer.Times a b) = ap (natural_scale u) (expr.rolls-Times a b) ∙ natural_scale-Times u a b
natural-rolled u (layer.Over a b) = ap (natural_scale u) (expr.rolls-Over a b) ∙ natural_scale-Over u a b
natural-rolled u (layer.Choice c a b) = ap (natural_scale u) (expr.rolls-Choice c a b) ∙ natural_scale-Choice u c a b

natural-out : (u : SourceUnit) (e : Expr) → natural_scale u e ≡ natural_layer u (out-Expr e)
natural-out u e = ap (natural_scale u) (sym (roll-out-Expr e)) ∙ natural-rolled u (out-Expr e)

module _ (s : Scope) where
  abbrev Natural : Expr → Type 0
  Natural e = (value_of s e).natural ≡ natural_scale s.unit e

  layer-natural : (n : ℕ) (x : Expr-F Arg Cond Expr Spot Ref) → expression_size_layer x ≤ n → ((d : Expr) → expression_size d < n → Natural d) → (value_layer s x).natural ≡ natural_layer s.unit x
  layer-natural n (layer.Num k) le below = refl
  layer-natural n (layer.Const z) le below = refl
  layer-natural n (layer.Text i) le below = refl
  layer-natural n (layer.Read r) le below = ap (λ x. x.scale) (reference-made s r)
  layer-natural n (layer.Call t args) le below = refl
  layer-natural n (layer.Force f e) le below = refl
  layer-natural n (layer.Locate r) le below = refl
  layer-natural n (layer.Bits t b e) le below = refl
  layer-natural n (layer.Logic op a b) le below = refl
  layer-natural n (layer.Sum a b) le below = ap₂ max (below a (let l : expression_size a < n = omega (arith, le) in l)) (below b (let l : expression_size b < n = omega (arith, le) in l))
  layer-natural n (layer.Less a b) le below = ap₂ max (below a (let l : expression_size a < n = omega (arith, le) in l)) (below b (let l : expression_size b < n = omega (arith, le) in l))
  layer-natural n (layer.Times a b) le below = ap₂ max (below a (let l : expression_size a < n = omega (arith, le) in l)) (below b (let l : expression_size b < n = omega (arith, le) in l))
  layer-natural n (layer.Over a b) le below = ap₂ max (below a (let l : expression_size a < n = omega (arith, le) in l)) (below b (let l : expression_size b < n = omega (arith, le) in l))
  layer-natural n (layer.Minus a) le below = below a (let l : expression_size a < n = omega (arith, le) in l)
  layer-natural n (layer.Choice c a b) le below = ap₂ max (below a (let l : expression_size a < n = omega (arith, le) in l)) (below b (let l : expression_size b < n = omega (arith, le) in l))

  natural-within : (n : ℕ) (e : Expr) → expression_size e ≤ n → Natural e
  natural-within zero e le =
      ap (λ v. v.natural) (value-made s e) ∙ layer-natural 0 (out-Expr e) (let l : expression_size_layer (out-Expr e) ≤ 0 = omega (arith, expression-size e, le) in l) (λ d lt. absurd (omega (arith, lt))) ∙ sym (natural-out s.unit e)
  natural-within (suc n) e le =
      ap (λ v. v.natural) (value-made s e) ∙ layer-natural (suc n) (out-Expr e) (let l : expression_size_layer (out-Expr e) ≤ suc n = omega (arith, expression-size e, le) in l) (λ d lt. natural-within n d (let l : expression_size d ≤ n = omega (arith, lt) in l)) ∙ sym (natural-out s.unit e)

  pub natural-is : (e : Expr) → Natural e
  natural-is e = natural-within (expression_size e) e (let l : expression_size e ≤ expression_size e = omega arith in l)

  operand-layer : (e : Expr) (x : Expr-F Arg Cond Expr Spot Ref) → out-Expr e ≡ x → (value_layer s x).operand ≡ operand_layer s.unit e x
  operand-layer e (layer.Num k) h = refl
  operand-layer e (layer.Const z) h = ap (λ v. v.natural) (sym (value-made s e ∙ ap (value_layer s) h)) ∙ natural-is e
  operand-layer e (layer.Text i) h = ap (λ v. v.natural) (sym (value-made s e ∙ ap (value_layer s) h)) ∙ natural-is e
  operand-layer e (layer.Read r) h = ap (λ v. v.natural) (sym (value-made s e ∙ ap (value_layer s) h)) ∙ natural-is e
  operand-layer e (layer.Call t args) h = ap (λ v. v.natural) (sym (value-made s e ∙ ap (value_layer s) h)) ∙ natural-is e
  operand-layer e (layer.Force f a) h = ap (λ v. v.natural) (sym (value-made s e ∙ ap (value_layer s) h)) ∙ natural-is e
  operand-layer e (layer.Locate r) h = ap (λ v. v.natural) (sym (value-made s e ∙ ap (value_layer s) h)) ∙ natural-is e
  operand-layer e (layer.Bits t b a) h = ap (λ v. v.natural) (sym (value-made s e ∙ ap (value_layer s) h)) ∙ natural-is e
  operand-layer e (layer.Logic op a b) h = ap (λ v. v.natural) (sym (value-made s e ∙ ap (value_layer s) h)) ∙ natural-is e
  operand-layer e (layer.Sum a b) h = ap (λ v. v.natural) (sym (value-made s e ∙ ap (value_layer s) h)) ∙ natural-is e
  operand-layer e (layer.Less a b) h = ap (λ v. v.natural) (sym (value-made s e ∙ ap (value_layer s) h)) ∙ natural-is e
  operand-layer e (layer.Minus a) h = ap (λ v. v.natural) (sym (value-made s e ∙ ap (value_layer s) h)) ∙ natural-is e
  operand-layer e (layer.Times a b) h = ap (λ v. v.natural) (sym (value-made s e ∙ ap (value_layer s) h)) ∙ natural-is e
  operand-layer e (layer.Over a b) h = ap (λ v. v.natural) (sym (value-made s e ∙ ap (value_layer s) h)) ∙ natural-is e
  operand-layer e (layer.Choice c a b) h = ap (λ v. v.natural) (sym (value-made s e ∙ ap (value_layer s) h)) ∙ natural-is e

  pub operand-is : (e : Expr) → (value_of s e).operand ≡ operand_scale s.unit e
  operand-is e = ap (λ v. v.operand) (value-made s e) ∙ operand-layer e (out-Expr e) refl

module _ (u : SourceUnit) (has_words : (item words : ℕ) → Bool) where
  abbrev built-Natural : Expr → Type 0
  built-Natural e = (built_value u has_words e).natural ≡ natural_scale u e

  built-layer-natural : (n : ℕ) (x : Expr-F Arg Cond Expr Spot Ref) → expression_size_layer x ≤ n → ((d : Expr) → expression_size d < n → built-Natural d) → (built_value_layer u has_words x).natural ≡ natural_layer u x
  built-layer-natural n (layer.Num k) le below = refl
  built-layer-natural n (layer.Const z) le below = refl
  built-layer-natural n (layer.Text i) le below = refl
  built-layer-natural n (layer.Read r) le below = ap (λ x. x.scale) (reference-built u has_words r)
  built-layer-natural n (layer.Call t args) le below = refl
  built-layer-natural n (layer.Force f e) le below = refl
  built-layer-natural n (layer.Locate r) le below = refl
  built-layer-natural n (layer.Bits t b e) le below = refl
  built-layer-natural n (layer.Logic op a b) le below = refl
  built-layer-natural n (layer.Sum a b) le below = ap₂ max (below a (let l : expression_size a < n = omega (arith, le) in l)) (below b (let l : expression_size b < n = omega (arith, le) in l))
  built-layer-natural n (layer.Less a b) le below = ap₂ max (below a (let l : expression_size a < n = omega (arith, le) in l)) (below b (let l : expression_size b < n = omega (arith, le) in l))
  built-layer-natural n (layer.Times a b) le below = ap₂ max (below a (let l : expression_size a < n = omega (arith, le) in l)) (below b (let l : expression_size b < n = omega (arith, le) in l))
  built-layer-natural n (layer.Over a b) le below = ap₂ max (below a (let l : expression_size a < n = omega (arith, le) in l)) (below b (let l : expression_size b < n = omega (arith, le) in l))
  built-layer-natural n (layer.Minus a) le below = below a (let l : expression_size a < n = omega (arith, le) in l)
  built-layer-natural n (layer.Choice c a b) le below = ap₂ max (below a (let l : expression_size a < n = omega (arith, le) in l)) (below b (let l : expression_size b < n = omega (arith, le) in l))

  built-natural-within : (n : ℕ) (e : Expr) → expression_size e ≤ n → built-Natural e
  built-natural-within zero e le =
      ap (λ v. v.natural) (value-built u has_words e) ∙ built-layer-natural 0 (out-Expr e) (let l : expression_size_layer (out-Expr e) ≤ 0 = omega (arith, expression-size e, le) in l) (λ d lt. absurd (omega (arith, lt))) ∙ sym (natural-out u e)
  built-natural-within (suc n) e le =
      ap (λ v. v.natural) (value-built u has_words e) ∙ built-layer-natural (suc n) (out-Expr e) (let l : expression_size_layer (out-Expr e) ≤ suc n = omega (arith, expression-size e, le) in l) (λ d lt. built-natural-within n d (let l : expression_size d ≤ n = omega (arith, lt) in l)) ∙ sym (natural-out u e)

  pub built-natural-is : (e : Expr) → built-Natural e
  built-natural-is e = built-natural-within (expression_size e) e (let l : expression_size e ≤ expression_size e = omega arith in l)

  built-operand-layer : (e : Expr) (x : Expr-F Arg Cond Expr Spot Ref) → out-Expr e ≡ x → (built_value_layer u has_words x).operand ≡ operand_layer u e x
  built-operand-layer e (layer.Num k) h = refl
  built-operand-layer e (layer.Const z) h = ap (λ v. v.natural) (sym (value-built u has_words e ∙ ap (built_value_layer u has_words) h)) ∙ built-natural-is e
  built-operand-layer e (layer.Text i) h = ap (λ v. v.natural) (sym (value-built u has_words e ∙ ap (built_value_layer u has_words) h)) ∙ built-natural-is e
  built-operand-layer e (layer.Read r) h = ap (λ v. v.natural) (sym (value-built u has_words e ∙ ap (built_value_layer u has_words) h)) ∙ built-natural-is e
  built-operand-layer e (layer.Call t args) h = ap (λ v. v.natural) (sym (value-built u has_words e ∙ ap (built_value_layer u has_words) h)) ∙ built-natural-is e
  built-operand-layer e (layer.Force f a) h = ap (λ v. v.natural) (sym (value-built u has_words e ∙ ap (built_value_layer u has_words) h)) ∙ built-natural-is e
  built-operand-layer e (layer.Locate r) h = ap (λ v. v.natural) (sym (value-built u has_words e ∙ ap (built_value_layer u has_words) h)) ∙ built-natural-is e
  built-operand-layer e (layer.Bits t b a) h = ap (λ v. v.natural) (sym (value-built u has_words e ∙ ap (built_value_layer u has_words) h)) ∙ built-natural-is e
  built-operand-layer e (layer.Logic op a b) h = ap (λ v. v.natural) (sym (value-built u has_words e ∙ ap (built_value_layer u has_words) h)) ∙ built-natural-is e
  built-operand-layer e (layer.Sum a b) h = ap (λ v. v.natural) (sym (value-built u has_words e ∙ ap (built_value_layer u has_words) h)) ∙ built-natural-is e
  built-operand-layer e (layer.Less a b) h = ap (λ v. v.natural) (sym (value-built u has_words e ∙ ap (built_value_layer u has_words) h)) ∙ built-natural-is e
  built-operand-layer e (layer.Minus a) h = ap (λ v. v.natural) (sym (value-built u has_words e ∙ ap (built_value_layer u has_words) h)) ∙ built-natural-is e
  built-operand-layer e (layer.Times a b) h = ap (λ v. v.natural) (sym (value-built u has_words e ∙ ap (built_value_layer u has_words) h)) ∙ built-natural-is e
  built-operand-layer e (layer.Over a b) h = ap (λ v. v.natural) (sym (value-built u has_words e ∙ ap (built_value_layer u has_words) h)) ∙ built-natural-is e
  built-operand-layer e (layer.Choice c a b) h = ap (λ v. v.natural) (sym (value-built u has_words e ∙ ap (built_value_layer u has_words) h)) ∙ built-natural-is e

  pub built-operand-is : (e : Expr) → (built_value u has_words e).operand ≡ operand_scale u e
  built-operand-is e = ap (λ v. v.operand) (value-built u has_words e) ∙ built-operand-layer e (out-Expr e) refl
