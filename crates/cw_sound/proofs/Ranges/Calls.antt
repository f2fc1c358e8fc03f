-- What is called, and names by themselves.
use Rattle.std.proofs.Common.{◌≡◌, ℕ, ◌≤◌, List, [], map, Bool, true, false, IsTrue, ◌&&◌, nat_le, Option, Some, refl, sym, ap, subst, ◌∙◌}
use Rattle.cw_tree.specs.declared.leaf.RawName.{RawName}
use Rattle.cw_facts.specs.declared.fact.Kind.{Kind as NameKind}
use Rattle.cw_facts.specs.declared.fact.Kind.TheVariants as kind
use Rattle.cw_scope.specs.declared.resolve.Named.{Named}
use Rattle.cw_scale.specs.Kinds.{kind_of, fraction_of_kind}
use Rattle.cw_make_expr.specs.Nodes.{call}
use Rattle.cw_make_expr.specs.Parts.{Numbers, number_of, item_in, is_called, field_of, named_spot}
use Rattle.cw_make_expr.specs.Made.{value_of_name, target, place_of_name}
use Rattle.cw_unit.specs.declared.unit.Unit.{Unit as SourceUnit}
use Rattle.cw_unit.specs.declared.unit.Arg.{Arg}
use Rattle.cw_unit.specs.declared.unit.Target.{Target}
use Rattle.cw_unit.specs.declared.unit.Arg.TheOpen as layer
use Rattle.cw_unit.specs.Scales.{answer_scale}
use Rattle.cw_writable.specs.Coded.RangedExpressions.{all_ranged, is_ranged_argument, is_field}
use Rattle.cw_sound.specs.Uses.Stands.{StandsAs}
use Rattle.cw_sound.proofs.Expressions.Truth.{no, both, le_true}
use Rattle.cw_sound.proofs.Expressions.Numbers.{name_small}
use Rattle.cw_sound.proofs.Expressions.Calls.{is_callable, may_be_called}
use Rattle.cw_sound.specs.Ranges.Declared.{has_ranges}
use Rattle.cw_sound.proofs.Expressions.Parts.{Result}
use Rattle.cw_sound.proofs.Ranges.InRanges.{in_ranges}
use Rattle.cw_sound.proofs.Ranges.Nodes.{value_rolled, result_of}
use Rattle.cw_sound.proofs.Ranges.Places.{Place, place_result, named_place, field_ranges}

callable : (k : NameKind) → is_called (Some k) ≡ true → IsTrue (is_callable false k)
callable (kind.Proc t) h = refl
callable (kind.ProcParam t) h = refl
callable kind.ReadByte h = refl
callable kind.WriteByte h = refl
callable _ h = no h

module _ (named : Named) (numbers : Numbers) (u : SourceUnit) (who : Option ℕ) where
  pub called_result : (f : ℕ) (n : RawName) (args : List Arg) → answer_scale u (target named numbers n) ≡ fraction_of_kind (kind_of named n) → IsTrue (all_ranged (map (is_ranged_argument u) args))
      → Result (in_ranges u) (fraction_of_kind (kind_of named n)) f (call (target named numbers n) args)
  called_result f n args scale h =
      let t : Target = target named numbers n in
      let small : answer_scale u t ≤ 15 = subst (λ (g : ℕ). g ≤ 15) (sym scale) (name_small (kind_of named n)) in
      let all : Bool = all_ranged (map (is_ranged_argument u) args) in
      subst (λ (g : ℕ). Result (in_ranges u) g f (call t args)) scale
      (result_of u (answer_scale u t) f (call t args) (λ f. nat_le (answer_scale u t) 15 && all) (value_rolled u (layer.Call t args)) (both (nat_le (answer_scale u t) 15) all (le_true (answer_scale u t) 15 small) h))

  -- ---- names by themselves

  pub field_in : (n : RawName) (k : NameKind) → kind_of named n ≡ Some k → IsTrue (has_ranges k) → IsTrue (is_field (field_of (kind_of named n)))
  field_in n k is d = subst (λ (o : Option NameKind). IsTrue (is_field (field_of o))) (sym is) (field_ranges k d)

  pub name_good : (n : RawName) (k : NameKind) → kind_of named n ≡ Some k → Place u (named_spot (kind_of named n) (item_in (number_of named numbers n)))
  name_good n k is = subst (λ (o : Option NameKind). Place u (named_spot o (item_in (number_of named numbers n)))) (sym is) (named_place u k (item_in (number_of named numbers n)))

  abbrev ValueOf : RawName → ℕ → Type 0
  ValueOf n f = Result (in_ranges u) (fraction_of_kind (kind_of named n)) f (value_of_name (is_called (kind_of named n)) (target named numbers n) (place_of_name named numbers n))

  as_item : (f : ℕ) (n : RawName) (k : NameKind) → kind_of named n ≡ Some k → is_called (Some k) ≡ false → IsTrue (has_ranges k) → ValueOf n f
  as_item f n k is item d =
      subst (λ (b : Bool). Result (in_ranges u) (fraction_of_kind (kind_of named n)) f (value_of_name b (target named numbers n) (place_of_name named numbers n))) (sym (ap is_called is ∙ item))
      (place_result u f (named_spot (kind_of named n) (item_in (number_of named numbers n))) (fraction_of_kind (kind_of named n)) (field_of (kind_of named n)) (name_small (kind_of named n)) (field_in n k is d) (name_good n k is))

  as_called : (f : ℕ) (n : RawName) (k : NameKind) → kind_of named n ≡ Some k → is_called (Some k) ≡ true → answer_scale u (target named numbers n) ≡ fraction_of_kind (kind_of named n) → ValueOf n f
  as_called f n k is called scale =
      subst (λ (b : Bool). Result (in_ranges u) (fraction_of_kind (kind_of named n)) f (value_of_name b (target named numbers n) (place_of_name named numbers n))) (sym (ap is_called is ∙ called)) (called_result f n [] scale refl)

  pub name_value : (f : ℕ) (n : RawName) (k : NameKind) → kind_of named n ≡ Some k → StandsAs named numbers u who k n → IsTrue (has_ranges k) → ValueOf n f
  name_value f n k is x d = by_called (is_called (Some k)) refl
    where
      by_called : (b : Bool) → is_called (Some k) ≡ b → ValueOf n f
      by_called true e = as_called f n k is e (may_be_called named numbers u who false k n is x (callable k e)).scale
      by_called false e = as_item f n k is e d
