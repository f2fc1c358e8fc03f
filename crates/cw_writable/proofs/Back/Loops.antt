-- The items of a FOR that begins without the library are words of the unit: the references that name them directly are built.
use Rattle.std.proofs.Common.{ℕ, ◌==◌, nat_le, ℤ, [], ◌∷◌, Bool, true, false, IsTrue, ◌&&◌, if◌then◌else◌, Option, Some, None, subst}
use Rattle.cw_unit.specs.declared.layout.Layout.{Layout}
use Rattle.cw_unit.specs.declared.unit.Unit.{Unit as SourceUnit}
use Rattle.cw_unit.specs.declared.unit.Arg.{Arg}
use Rattle.cw_unit.specs.declared.unit.Cond.{Cond}
use Rattle.cw_unit.specs.declared.unit.Spot.{Spot, out-Spot}
use Rattle.cw_unit.specs.declared.unit.Field.{Field}
use Rattle.cw_unit.specs.declared.unit.Ref.{Ref, out-Ref}
use Rattle.cw_unit.specs.declared.unit.Expr.{Expr, Expr-F, out-Expr}
use Rattle.cw_unit.specs.declared.unit.Arg.TheOpen as layer
use Rattle.cw_unit.specs.declared.unit.Arg.TheOpen.{Spot-F}
use Rattle.cw_unit.specs.declared.unit.Felem.TheVariants as element
use Rattle.cw_gen_expr.specs.BuiltExpressions.{most_levels, built_value, built_reference, is_expression}
use Rattle.cw_gen_expr.proofs.Layers.{built_value_layer, value-built, built_spot_layer, spot-built, reference-built}
use Rattle.cw_gen_unit.specs.declared.simple.Simple.{Simple}
use Rattle.cw_gen_unit.specs.declared.simple.Simple.TheVariants as simple
use Rattle.cw_gen_unit.specs.declared.simple.SimpleStep.{SimpleStep}
use Rattle.cw_gen_unit.specs.BuiltStatements.{is_element}
use Rattle.cw_gen_unit.specs.SimpleLoops.{are_apart, direct_item, variable_if, whole_item, item_read, known_number, as_item, item_layer, number_or, simple_of, simple_parts, simple_step}
use Rattle.cw_writable.proofs.Coded.Fine.{parts}

module _ (u : SourceUnit) (has : (item words : ℕ) → Bool) where
  -- an item, where there is one, has a word
  abbrev ItemHas : Option ℕ → Type 0
  ItemHas None = Unit {0}
  ItemHas (Some i) = IsTrue (has i 1)

  abbrev pub ValueHas : Simple → Type 0
  ValueHas (simple.Number z) = Unit {0}
  ValueHas (simple.Item i) = IsTrue (has i 1)

  abbrev MayHave : Option Simple → Type 0
  MayHave None = Unit {0}
  MayHave (Some a) = ValueHas a

  pub record Has (x : SimpleStep) : Type 0 where
    pub variable : IsTrue (has x.variable 1)
    pub first : ValueHas x.first
    pub limit : ValueHas x.limit

  abbrev pub StepHas : Option SimpleStep → Type 0
  StepHas None = Unit {0}
  StepHas (Some x) = Has x

  -- ---- references

  direct-has : (x : Spot-F Arg Cond Expr Spot Ref) → IsTrue (built_spot_layer u has x) → ItemHas (direct_item x)
  direct-has (layer.Direct i) h = h
  direct-has _ h = tt

  named-has : (r : Ref) → IsTrue (built_reference u has r).good → ItemHas (direct_item (out-Spot (out-Ref r).at))
  named-has r h =
      let at = (out-Ref r).at in
      direct-has (out-Spot at) (subst IsTrue (spot-built u has at) (subst (λ y. IsTrue y.good) (reference-built u has r) h))

  variable-has : (y : Layout) (i : ℕ) (o : Option ℕ) → ItemHas o → ItemHas (variable_if y i o)
  variable-has y i None h = tt
  variable-has y i (Some j) h = picked (are_apart y i j)
    where
      picked : (b : Bool) → ItemHas (if b then Some j else None)
      picked true = h
      picked false = tt

  whole-has : (part : Option Field) (o : Option ℕ) → ItemHas o → ItemHas (whole_item part o)
  whole-has None o h = h
  whole-has (Some part) o h = tt

  read-has : (r : Ref) (f : ℕ) → IsTrue (built_reference u has r).good → ItemHas (item_read r f)
  read-has r f h = picked ((out-Ref r).f == f)
    where
      picked : (b : Bool) → ItemHas (if b then (whole_item (out-Ref r).field (direct_item (out-Spot (out-Ref r).at))) else None)
      picked true = whole-has (out-Ref r).field (direct_item (out-Spot (out-Ref r).at)) (named-has r h)
      picked false = tt

  -- ---- values

  as-has : (o : Option ℕ) → ItemHas o → MayHave (as_item o)
  as-has None h = tt
  as-has (Some i) h = h

  item-has : (x : Expr-F Arg Cond Expr Spot Ref) (f levels : ℕ) → IsTrue ((built_value_layer u has x).at f levels) → MayHave (item_layer x f)
  item-has (layer.Read r) f levels h = as-has (item_read r f) (read-has r f h)
  item-has _ f levels h = tt

  number-has : (z : Option ℤ) (o : Option Simple) → MayHave o → MayHave (number_or z o)
  number-has None o h = h
  number-has (Some z) o h = tt

  value-has : (e : Expr) (f : ℕ) → IsTrue (is_expression u has e f most_levels) → MayHave (simple_of e f)
  value-has e f h =
      let p = parts (nat_le f 15) ((built_value u has e).at f most_levels) h in
      number-has (known_number e f) (item_layer (out-Expr e) f) (item-has (out-Expr e) f most_levels (subst (λ x. IsTrue (x.at f most_levels)) (value-built u has e) p.1))

  -- ---- loops

  parts-have : (j : Option ℕ) (a : Option Simple) (b : Option ℤ) (d : Option Simple) → ItemHas j → MayHave a → MayHave d → StepHas (simple_parts j a b d)
  parts-have (Some j) (Some a) (Some b) (Some d) h k l = record { variable = h; first = k; limit = l }
  parts-have (Some j) (Some a) (Some b) None h k l = tt
  parts-have (Some j) (Some a) None d h k l = tt
  parts-have (Some j) None b d h k l = tt
  parts-have None a b d h k l = tt

  pub step-has : (who : Option ℕ) (answer : ℕ) (y : Layout) (i : ℕ) (r : Ref) (a b d : Expr) → IsTrue (built_reference u has r).good → IsTrue (is_element u has who answer (out-Ref r).f (element.Step a b d))
      → StepHas (simple_step y i r (element.Step a b d ∷ []))
  step-has who answer y i r a b d hr he =
      let f = (out-Ref r).f in
      let p = parts (is_expression u has a f most_levels) (is_expression u has b f most_levels && is_expression u has d f most_levels) he in
      let q = parts (is_expression u has b f most_levels) (is_expression u has d f most_levels) p.1 in
      let named : Option ℕ = direct_item (out-Spot (out-Ref r).at) in
      parts-have (variable_if y i named) (simple_of a f) (known_number b f) (simple_of d f) (variable-has y i named (named-has r hr)) (value-has a f p.0) (value-has d f q.1)
