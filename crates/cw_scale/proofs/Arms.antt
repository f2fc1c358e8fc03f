-- What is judged of an expression, a primary and a reference, arm by arm: its shape, and its faults.
use Rattle.std.proofs.Common.{◌≡◌, ℕ, List, [], map, max, Bool, Option, is_some, refl, sym, ap, ap₂, ◌∙◌}
use Rattle.cw_amount.specs.Amounts.{octal_word}
use Rattle.cw_tree.specs.declared.leaf.Position.{Position}
use Rattle.cw_tree.specs.declared.leaf.RawName.{RawName}
use Rattle.cw_tree.specs.declared.leaf.RawNumber.{RawNumber}
use Rattle.cw_tree.specs.declared.leaf.RawOctal.{RawOctal}
use Rattle.cw_tree.specs.declared.leaf.RawType.{RawType}
use Rattle.cw_tree.specs.declared.expression.RawExpr.TheVariants as expr
use Rattle.cw_tree.specs.declared.expression.RawPrimary.TheVariants as prime
use Rattle.cw_tree.specs.declared.expression.RawRef.TheVariants as ref
use Rattle.cw_tree.specs.declared.expression.RawExpr.TheOpen as layer
use Rattle.cw_tree.specs.declared.expression.RawExpr.TheOpen.{RawRef-F}
use Rattle.cw_tree.specs.declared.expression.RawExpr.{RawExpr}
use Rattle.cw_tree.specs.declared.expression.RawPrimary.{RawPrimary}
use Rattle.cw_tree.specs.declared.expression.RawRef.{RawRef, out-RawRef, map-RawRef}
use Rattle.cw_tree.specs.declared.expression.RawCand.{RawCand}
use Rattle.cw_tree.specs.declared.expression.RawCmp.{RawCmp, out-RawCmp}
use Rattle.cw_tree.specs.declared.expression.RawCond.{RawCond}
use Rattle.cw_tree.specs.declared.expression.RawDiffer.{RawDiffer}
use Rattle.cw_tree.specs.declared.expression.RawMask.{RawMask}
use Rattle.cw_tree.specs.declared.expression.RawPrim.{RawPrim}
use Rattle.cw_tree.specs.declared.expression.RawSum.{RawSum}
use Rattle.cw_tree.specs.declared.expression.RawTerm.{RawTerm}
use Rattle.cw_tree.specs.declared.expression.RawUnion.{RawUnion}
use Rattle.cw_scope.specs.declared.resolve.Named.{Named}
use Rattle.cw_scale.specs.declared.fault.Fault.{Fault}
use Rattle.cw_scale.specs.declared.fault.Rule.TheVariants as rule
use Rattle.cw_scale.specs.declared.scales.Shape.{Shape}
use Rattle.cw_scale.specs.Faults.{unless}
use Rattle.cw_scale.specs.Types.{type_judged}
use Rattle.cw_tree.proofs.Expressions.{of_comparison-out, of_expression-Choice, of_expression-Sum, of_primary-Bracket, of_primary-Call, of_primary-Forced, of_primary-Location, of_primary-Number, of_primary-Octal, of_primary-Ref, of_reference-Bare, of_reference-Name, of_reference-One, of_reference-Two, of_reference-out}
use Rattle.cw_scale.specs.Kinds.{kind_of, signature_of, fraction_of, fraction_of_kind}
use Rattle.cw_scale.specs.TypeRules.{Judged, plain, number_shape, number_operand, fits_at, call_faults}
use Rattle.cw_scale.specs.TypeRules.{expression_step, primary_step, reference_step}
use Rattle.cw_scale.proofs.Layers.{steps}
use Rattle.cw_scale.specs.TypeRules.{expression, primary, reference, conjunction, comparison, condition, differ, union, mask, prim, sum, term}

module _ (named : Named) where
  choice-layer : (at : Position) (t : RawCond) (a : RawExpr) (b : RawExpr) → expression named (expr.Choice at t a b) ≡ expression_step named (layer.Choice at (condition named t) (expression named a) (expression named b))
  choice-layer at t a b = of_expression-Choice (steps named) at t a b

  sum-layer : (s : RawSum) → expression named (expr.Sum s) ≡ expression_step named (layer.Sum (sum named s))
  sum-layer s = of_expression-Sum (steps named) s

  number-layer : (n : RawNumber) → primary named (prime.Number n) ≡ primary_step named (layer.Number n)
  number-layer n = of_primary-Number (steps named) n

  octal-layer : (n : RawOctal) → primary named (prime.Octal n) ≡ primary_step named (layer.Octal n)
  octal-layer n = of_primary-Octal (steps named) n

  location-layer : (at : Position) (x : RawRef) → primary named (prime.Location at x) ≡ primary_step named (layer.Location at (reference named x))
  location-layer at x = of_primary-Location (steps named) at x

  forced-layer : (t : RawType) (a : RawExpr) → primary named (prime.Forced t a) ≡ primary_step named (layer.Forced t (expression named a))
  forced-layer t a = of_primary-Forced (steps named) t a

  bracket-layer : (at : Position) (a : RawExpr) → primary named (prime.Bracket at a) ≡ primary_step named (layer.Bracket at (expression named a))
  bracket-layer at a = of_primary-Bracket (steps named) at a

  ref-layer : (x : RawRef) → primary named (prime.Ref x) ≡ primary_step named (layer.Ref (reference named x))
  ref-layer x = of_primary-Ref (steps named) x

  call-layer : (n : RawName) (es : List RawExpr) → primary named (prime.Call n es) ≡ primary_step named (layer.Call n (map (expression named) es))
  call-layer n es = of_primary-Call (steps named) n es

  name-layer : (n : RawName) → reference named (ref.Name n) ≡ reference_step named (layer.Name n)
  name-layer n = of_reference-Name (steps named) n

  one-layer : (n : RawName) (a : RawExpr) → reference named (ref.One n a) ≡ reference_step named (layer.One n (expression named a))
  one-layer n a = of_reference-One (steps named) n a

  two-layer : (n : RawName) (a : RawExpr) (b : RawExpr) → reference named (ref.Two n a b) ≡ reference_step named (layer.Two n (expression named a) (expression named b))
  two-layer n a b = of_reference-Two (steps named) n a b

  bare-layer : (at : Position) (a : RawExpr) → reference named (ref.Bare at a) ≡ reference_step named (layer.Bare at (expression named a))
  bare-layer at a = of_reference-Bare (steps named) at a

  -- the scale of a comparison
  abbrev compared : (left right : RawSum) → ℕ
  compared left right = max (sum named left).shape.natural (sum named right).shape.natural

  comparison-layer : (e : RawCmp) (f : ℕ) (first : Option Fault) → (comparison named e).faults f first
      ≡ (sum named (out-RawCmp e).right).faults (compared (out-RawCmp e).left (out-RawCmp e).right)
      ((sum named (out-RawCmp e).left).faults (compared (out-RawCmp e).left (out-RawCmp e).right) first)
  comparison-layer e f first =
      ap (λ (j : Judged). j.faults f first)
      (of_comparison-out (steps named) e)

  -- ---- shapes

  pub choice_shape : (e : RawExpr) (at : Position) (t : RawCond) (a a' b b' : RawExpr) (x y s : Shape) (n : ℕ) → e ≡ expr.Choice at t a b → a' ≡ a → b' ≡ b
      → x ≡ (expression named a').shape → y ≡ (expression named b').shape → n ≡ max x.natural y.natural → s ≡ plain n → s ≡ (expression named e).shape
  choice_shape e at t a a' b b' x y s n is ha hb hx hy hn hs =
      let first = hx ∙ ap (λ (k : RawExpr). (expression named k).shape) ha in
      let second = hy ∙ ap (λ (k : RawExpr). (expression named k).shape) hb in
      hs ∙ ap plain (hn ∙ ap₂ (λ (v w : Shape). max v.natural w.natural) first second)
      ∙ ap (λ (j : Judged). j.shape) (sym (ap (expression named) is ∙ choice-layer at t a b))

  pub sum_alone_shape : (e : RawExpr) (k k' : RawSum) (s : Shape) → e ≡ expr.Sum k → k' ≡ k → s ≡ (sum named k').shape → s ≡ (expression named e).shape
  sum_alone_shape e k k' s is same h =
      h ∙ ap (λ (x : RawSum). (sum named x).shape) same ∙ ap (λ (j : Judged). j.shape) (sym (ap (expression named) is ∙ sum-layer k))

  pub number_arm_shape : (e : RawPrimary) (k : RawNumber) (n : ℕ) (s : Shape) → e ≡ prime.Number k → n ≡ number_operand k.number → s ≡ number_shape n → s ≡ (primary named e).shape
  number_arm_shape e k n s is hn hs = hs ∙ ap number_shape hn ∙ ap (λ (j : Judged). j.shape) (sym (ap (primary named) is ∙ number-layer k))

  pub forced_shape : (e : RawPrimary) (t t' : RawType) (a : RawExpr) (n : ℕ) (s : Shape) → e ≡ prime.Forced t a → t' ≡ t → n ≡ fraction_of t' → s ≡ plain n → s ≡ (primary named e).shape
  forced_shape e t t' a n s is same hn hs = hs ∙ ap plain (hn ∙ ap fraction_of same) ∙ ap (λ (j : Judged). j.shape) (sym (ap (primary named) is ∙ forced-layer t a))

  pub bracket_shape : (e : RawPrimary) (at : Position) (a a' : RawExpr) (x s : Shape) → e ≡ prime.Bracket at a → a' ≡ a → x ≡ (expression named a').shape → s ≡ plain x.natural
      → s ≡ (primary named e).shape
  bracket_shape e at a a' x s is same hx hs =
      hs ∙ ap (λ (v : Shape). plain v.natural) (hx ∙ ap (λ (k : RawExpr). (expression named k).shape) same)
      ∙ ap (λ (j : Judged). j.shape) (sym (ap (primary named) is ∙ bracket-layer at a))

  pub reference_arm_shape : (e : RawPrimary) (x x' : RawRef) (s : Shape) → e ≡ prime.Ref x → x' ≡ x → s ≡ (reference named x').shape → s ≡ (primary named e).shape
  reference_arm_shape e x x' s is same h =
      h ∙ ap (λ (k : RawRef). (reference named k).shape) same ∙ ap (λ (j : Judged). j.shape) (sym (ap (primary named) is ∙ ref-layer x))

  pub call_shape : (e : RawPrimary) (n : RawName) (es : List RawExpr) (f : ℕ) (s : Shape) → e ≡ prime.Call n es → f ≡ fraction_of_kind (kind_of named n) → s ≡ plain f
      → s ≡ (primary named e).shape
  call_shape e n es f s is hf hs = hs ∙ ap plain hf ∙ ap (λ (j : Judged). j.shape) (sym (ap (primary named) is ∙ call-layer n es))

  -- ---- faults

  pub choice_faults : (e : RawExpr) (f : ℕ) (at : Position) (t t' : RawCond) (a a' b b' : RawExpr) (o0 o1 o2 o3 : Option Fault) → e ≡ expr.Choice at t a b → t' ≡ t → a' ≡ a → b' ≡ b
      → o1 ≡ (condition named t').faults 0 o0 → o2 ≡ (expression named a').faults f o1 → o3 ≡ (expression named b').faults f o2 → o3 ≡ (expression named e).faults f o0
  choice_faults e f at t t' a a' b b' o0 o1 o2 o3 is ht ha hb e1 e2 e3 =
      let tested = e1 ∙ ap (λ (k : RawCond). (condition named k).faults 0 o0) ht in
      let first = e2 ∙ ap (λ (k : RawExpr). (expression named k).faults f o1) ha ∙ ap ((expression named a).faults f) tested in
      e3 ∙ ap (λ (k : RawExpr). (expression named k).faults f o2) hb ∙ ap ((expression named b).faults f) first
      ∙ ap (λ (j : Judged). j.faults f o0) (sym (ap (expression named) is ∙ choice-layer at t a b))

  pub sum_alone_faults : (e : RawExpr) (f : ℕ) (k k' : RawSum) (o0 o1 : Option Fault) → e ≡ expr.Sum k → k' ≡ k → o1 ≡ (sum named k').faults f o0 → o1 ≡ (expression named e).faults f o0
  sum_alone_faults e f k k' o0 o1 is same h =
      h ∙ ap (λ (x : RawSum). (sum named x).faults f o0) same ∙ ap (λ (j : Judged). j.faults f o0) (sym (ap (expression named) is ∙ sum-layer k))

  pub comparison_faults : (e : RawCmp) (f : ℕ) (a a' b b' : RawSum) (x y : Shape) (n : ℕ) (o0 o1 o2 : Option Fault)
      → a ≡ (out-RawCmp e).left → b ≡ (out-RawCmp e).right → a' ≡ (out-RawCmp e).left → b' ≡ (out-RawCmp e).right
      → x ≡ (sum named a).shape → y ≡ (sum named b).shape → n ≡ max x.natural y.natural
      → o1 ≡ (sum named a').faults n o0 → o2 ≡ (sum named b').faults n o1 → o2 ≡ (comparison named e).faults f o0
  comparison_faults e f a a' b b' x y n o0 o1 o2 ha hb ha' hb' hx hy hn e1 e2 =
      let l = (out-RawCmp e).left in
      let r = (out-RawCmp e).right in
      let scale : n ≡ compared l r =
      hn ∙ ap₂ (λ (v w : Shape). max v.natural w.natural) (hx ∙ ap (λ (k : RawSum). (sum named k).shape) ha) (hy ∙ ap (λ (k : RawSum). (sum named k).shape) hb) in
      e2 ∙ ap₂ (λ (k : RawSum) o. (sum named k).faults n o) hb' (e1 ∙ ap (λ (k : RawSum). (sum named k).faults n o0) ha')
      ∙ ap (λ m. (sum named r).faults m ((sum named l).faults m o0)) scale
      ∙ sym (comparison-layer e f o0)

  pub number_faults : (e : RawPrimary) (f : ℕ) (k : RawNumber) (fits : Bool) (o0 o1 : Option Fault) → e ≡ prime.Number k → fits ≡ fits_at k.number f
      → o1 ≡ unless fits rule.NumberRange k.at o0 → o1 ≡ (primary named e).faults f o0
  number_faults e f k fits o0 o1 is hf h =
      h ∙ ap (λ b. unless b rule.NumberRange k.at o0) hf ∙ ap (λ (j : Judged). j.faults f o0) (sym (ap (primary named) is ∙ number-layer k))

  pub octal_faults : (e : RawPrimary) (f : ℕ) (k : RawOctal) (fits : Bool) (o0 o1 : Option Fault) → e ≡ prime.Octal k → fits ≡ is_some (octal_word k.number.number)
      → o1 ≡ unless fits rule.NumberRange k.number.at o0 → o1 ≡ (primary named e).faults f o0
  octal_faults e f k fits o0 o1 is hf h =
      h ∙ ap (λ b. unless b rule.NumberRange k.number.at o0) hf ∙ ap (λ (j : Judged). j.faults f o0) (sym (ap (primary named) is ∙ octal-layer k))

  pub location_faults : (e : RawPrimary) (f : ℕ) (at : Position) (x x' : RawRef) (o0 o1 : Option Fault) → e ≡ prime.Location at x → x' ≡ x → o1 ≡ (reference named x').faults 0 o0
      → o1 ≡ (primary named e).faults f o0
  location_faults e f at x x' o0 o1 is same h =
      h ∙ ap (λ (k : RawRef). (reference named k).faults 0 o0) same ∙ ap (λ (j : Judged). j.faults f o0) (sym (ap (primary named) is ∙ location-layer at x))

  pub forced_faults : (e : RawPrimary) (f : ℕ) (t t' : RawType) (a a' : RawExpr) (n : ℕ) (o0 o1 o2 : Option Fault) → e ≡ prime.Forced t a → t' ≡ t → a' ≡ a → n ≡ fraction_of t'
      → o1 ≡ type_judged t' o0 → o2 ≡ (expression named a').faults n o1 → o2 ≡ (primary named e).faults f o0
  forced_faults e f t t' a a' n o0 o1 o2 is same_type same hn e1 e2 =
      e2 ∙ ap₂ (λ (k : RawExpr) o. (expression named k).faults n o) same e1 ∙ ap (λ m. (expression named a).faults m (type_judged t' o0)) hn
      ∙ ap (λ (j : Judged). j.faults f o0) (sym (ap (primary named) (is ∙ ap (λ k. prime.Forced k a) (sym same_type)) ∙ forced-layer t' a))

  pub bracket_faults : (e : RawPrimary) (f : ℕ) (at : Position) (a a' : RawExpr) (o0 o1 : Option Fault) → e ≡ prime.Bracket at a → a' ≡ a → o1 ≡ (expression named a').faults f o0
      → o1 ≡ (primary named e).faults f o0
  bracket_faults e f at a a' o0 o1 is same h =
      h ∙ ap (λ (k : RawExpr). (expression named k).faults f o0) same ∙ ap (λ (j : Judged). j.faults f o0) (sym (ap (primary named) is ∙ bracket-layer at a))

  -- a reference is judged the same at each scale
  at_each_scale : (f : ℕ) (o : Option Fault) (x : RawRef-F Judged Judged Judged Judged Judged Judged Judged Judged Judged Judged Judged Judged)
      → (reference_step named x).faults 0 o ≡ (reference_step named x).faults f o
  at_each_scale f o (layer.Name n) = refl
  at_each_scale f o _ = refl

  any_scale : (x : RawRef) (f : ℕ) (o : Option Fault) → (reference named x).faults 0 o ≡ (reference named x).faults f o
  any_scale x f o =
      let layers = of_reference-out (steps named) x in
      let parts = map-RawRef RawExpr RawPrimary RawRef RawCand RawCmp RawCond RawDiffer RawMask RawPrim RawSum RawTerm RawUnion
      Judged Judged Judged Judged Judged Judged Judged Judged Judged Judged Judged Judged
      (expression named) (primary named) (reference named) (conjunction named) (comparison named) (condition named)
      (differ named) (mask named) (prim named) (sum named) (term named) (union named) (out-RawRef x) in
      ap (λ (j : Judged). j.faults 0 o) layers ∙ at_each_scale f o parts ∙ sym (ap (λ (j : Judged). j.faults f o) layers)

  pub reference_arm_faults : (e : RawPrimary) (f : ℕ) (x x' : RawRef) (o0 o1 : Option Fault) → e ≡ prime.Ref x → x' ≡ x → o1 ≡ (reference named x').faults 0 o0
      → o1 ≡ (primary named e).faults f o0
  reference_arm_faults e f x x' o0 o1 is same h =
      h ∙ ap (λ (k : RawRef). (reference named k).faults 0 o0) same ∙ any_scale x f o0 ∙ ap (λ (j : Judged). j.faults f o0) (sym (ap (primary named) is ∙ ref-layer x))

  pub call_arm_faults : (e : RawPrimary) (f : ℕ) (n : RawName) (es es' : List RawExpr) (o0 o1 : Option Fault) → e ≡ prime.Call n es → es' ≡ es
      → o1 ≡ call_faults named (signature_of named n) n (map (expression named) es') o0 → o1 ≡ (primary named e).faults f o0
  call_arm_faults e f n es es' o0 o1 is same h =
      h ∙ ap (λ (l : List RawExpr). call_faults named (signature_of named n) n (map (expression named) l) o0) same
      ∙ ap (λ (j : Judged). j.faults f o0) (sym (ap (primary named) is ∙ call-layer n es))

  pub name_faults : (e : RawRef) (n : RawName) (o0 o1 : Option Fault) → e ≡ ref.Name n → o1 ≡ call_faults named (signature_of named n) n [] o0 → o1 ≡ (reference named e).faults 0 o0
  name_faults e n o0 o1 is h = h ∙ ap (λ (j : Judged). j.faults 0 o0) (sym (ap (reference named) is ∙ name-layer n))

  pub index_faults : (e : RawRef) (n : RawName) (a a' : RawExpr) (o0 o1 : Option Fault) → e ≡ ref.One n a → a' ≡ a → o1 ≡ (expression named a').faults 0 o0
      → o1 ≡ (reference named e).faults 0 o0
  index_faults e n a a' o0 o1 is same h =
      h ∙ ap (λ (k : RawExpr). (expression named k).faults 0 o0) same ∙ ap (λ (j : Judged). j.faults 0 o0) (sym (ap (reference named) is ∙ one-layer n a))

  pub indexes_faults : (e : RawRef) (n : RawName) (a a' b b' : RawExpr) (o0 o1 o2 : Option Fault) → e ≡ ref.Two n a b → a' ≡ a → b' ≡ b → o1 ≡ (expression named a').faults 0 o0
      → o2 ≡ (expression named b').faults 0 o1 → o2 ≡ (reference named e).faults 0 o0
  indexes_faults e n a a' b b' o0 o1 o2 is ha hb e1 e2 =
      e2 ∙ ap₂ (λ (k : RawExpr) o. (expression named k).faults 0 o) hb (e1 ∙ ap (λ (k : RawExpr). (expression named k).faults 0 o0) ha)
      ∙ ap (λ (j : Judged). j.faults 0 o0) (sym (ap (reference named) is ∙ two-layer n a b))

  pub address_faults : (e : RawRef) (at : Position) (a a' : RawExpr) (o0 o1 : Option Fault) → e ≡ ref.Bare at a → a' ≡ a → o1 ≡ (expression named a').faults 0 o0
      → o1 ≡ (reference named e).faults 0 o0
  address_faults e at a a' o0 o1 is same h =
      h ∙ ap (λ (k : RawExpr). (expression named k).faults 0 o0) same ∙ ap (λ (j : Judged). j.faults 0 o0) (sym (ap (reference named) is ∙ bare-layer at a))
