-- The numbers of each node of a tree are in range where those of its parts are, and those of declarations.
use Rattle.std.proofs.Common.{◌≡◌, ℕ, ◌≤◌, max, ℤ, Bool, true, IsTrue, ◌&&◌, nat_le, Option, None, Some, refl, sym, ap, subst, ◌∙◌, arith}
use Rattle.cw_tree.specs.declared.leaf.RawName.{RawName}
use Rattle.cw_tree.specs.declared.leaf.RawNumber.{RawNumber}
use Rattle.cw_tree.specs.declared.expression.RawExpr.TheOpen as layer
use Rattle.cw_facts.specs.declared.fact.Form.TheVariants as form
use Rattle.cw_facts.specs.declared.fact.Kind.{Kind as NameKind}
use Rattle.cw_facts.specs.declared.fact.Reading.{Reading}
use Rattle.cw_facts.specs.Uses as uses
use Rattle.cw_scope.specs.declared.resolve.Named.{Named}
use Rattle.cw_scale.specs.Kinds.{kind_of, fraction_of, fraction_of_kind}
use Rattle.cw_scale.specs.TypeRules as judged
use Rattle.cw_make_expr.specs.Parts.{Numbers, number_of, field_of, named_spot, indexed_spot, twice_indexed_spot}
use Rattle.cw_make_expr.specs.Nodes as nodes
use Rattle.cw_make_expr.specs.Nodes.{number, constant, string, force, locate, choice, comparison, nothing}
use Rattle.cw_make_expr.specs.Made.{simply, item_of, place_of_name, indexed_place, twice_indexed_place}
use Rattle.cw_unit.specs.declared.unit.Unit.{Unit as SourceUnit}
use Rattle.cw_unit.specs.declared.unit.CompareOp.{CompareOp}
use Rattle.cw_unit.specs.declared.unit.Arg.{Arg}
use Rattle.cw_unit.specs.declared.unit.Cond.{Cond, roll-Cond}
use Rattle.cw_unit.specs.declared.unit.Expr.{Expr}
use Rattle.cw_unit.specs.declared.unit.Spot.{Spot, roll-Spot}
use Rattle.cw_unit.specs.declared.unit.Ref.{Ref}
use Rattle.cw_unit.specs.declared.unit.Arg.TheOpen as unit_layer
use Rattle.cw_unit.specs.declared.unit.Arg.TheOpen.{Cond-F}
use Rattle.cw_unit.specs.declared.unit.Arg.TheFolds.{fold-roll-Cond}
use Rattle.cw_writable.specs.Coded.RangedExpressions as ranged
use Rattle.cw_writable.specs.Coded.RangedExpressions.{RangedValue, RangedReference, in_range, is_ranged_condition, ranged_reference}
use Rattle.cw_writable.proofs.Coded.RangedLayers.{ranged_condition_layer}
use Rattle.cw_sound.specs.Ranges.Declared.{DeclarationsInRange}
use Rattle.cw_sound.proofs.Expressions.Truth.{both as both_true, le_true}
use Rattle.cw_sound.proofs.Expressions.Parts.{Result, Good}
use Rattle.cw_sound.proofs.Expressions.Senses.{IsKept, Used, indexed_reading}
use Rattle.cw_sound.proofs.Expressions.Numbers.{operand_is, type_small, name_small}
use Rattle.cw_sound.proofs.Ranges.InRanges.{value, in_ranges}
use Rattle.cw_sound.proofs.Ranges.Nodes.{value_rolled, result_of, logic_result, bits_result, times_result, over_result, added_addend, minus_addend, whole_part_is}
use Rattle.cw_sound.proofs.Ranges.Places.{Place, kind_ranges, place_good, place_scale, read_result, bare_place, one_place, two_place}
use Rattle.cw_sound.proofs.Ranges.Calls.{called_result, field_in, name_good, name_value}
use Rattle.cw_sound.proofs.Ranges.Given.{value_given, read_given, handed_given, nothing_given, all_in_ranges}

module _ (u : SourceUnit) where
  -- ---- conditions

  condition_rolled : (x : Cond-F Arg Cond Expr Spot Ref) → is_ranged_condition u (roll-Cond x) ≡ ranged_condition_layer u x
  condition_rolled = fold-roll-Cond Bool Bool RangedValue Bool RangedReference ranged.argument_step ranged.condition_step (ranged.expression_step u) ranged.spot_step ranged.reference_step

  test_of : (x : Cond-F Arg Cond Expr Spot Ref) → IsTrue (ranged_condition_layer u x) → IsTrue (is_ranged_condition u (roll-Cond x))
  test_of x h = subst IsTrue (sym (condition_rolled x)) h

  -- both sides are evaluated at the larger of their natural scales
  comparison_test : (op : CompareOp) (a b : Expr) (f : ℕ) → max (value u a).natural (value u b).natural ≡ f → f ≤ 15 → IsTrue ((value u a).at f) → IsTrue ((value u b).at f) → IsTrue (is_ranged_condition u (comparison op a b))
  comparison_test op a b f is small p q =
      let x : IsTrue (in_range (value u a) f) = both_true (nat_le f 15) ((value u a).at f) (le_true f 15 small) p in
      let y : IsTrue (in_range (value u b) f) = both_true (nat_le f 15) ((value u b).at f) (le_true f 15 small) q in
      test_of (unit_layer.Cmp op a b) (subst (λ (g : ℕ). IsTrue (in_range (value u a) g && in_range (value u b) g)) (sym is) (both_true (in_range (value u a) f) (in_range (value u b) f) x y))

  -- ---- primaries and conditional expressions

  nothing_result : (f : ℕ) → Result (in_ranges u) 0 f nothing
  nothing_result f =
      let is = value_rolled u (unit_layer.Num (record { whole = 0; digits = 0; places = 0 })) in
      record {
        natural = ap (λ (v : RangedValue). v.natural) is;
        operand = ap (λ (v : RangedValue). v.operand) is;
        at = subst (λ (v : RangedValue). IsTrue (v.at f)) (sym is) refl;
      }

  number_good : (named : Named) (n : RawNumber) (f : ℕ) → Good (in_ranges u) (judged.primary_step named (layer.Number n)) (simply (number n.number)) 0 f
  number_good named n f =
      let is = value_rolled u (unit_layer.Num n.number) in
      let here : IsTrue ((value u (number n.number)).at f) = subst (λ (v : RangedValue). IsTrue (v.at f)) (sym is) refl in
      record {
        natural = λ operand. ap (λ (v : RangedValue). v.natural) is;
        operand = ap (λ (v : RangedValue). v.operand) is ∙ operand_is n.number;
        at = here;
        as_operand = λ e. here;
      }

  force_result : (f g : ℕ) (e : Expr) → g ≤ 15 → IsTrue ((value u e).at g) → Result (in_ranges u) g f (force g e)
  force_result f g e small h =
      result_of u g f (force g e) (λ f. in_range (value u e) g) (value_rolled u (unit_layer.Force g e)) (both_true (nat_le g 15) ((value u e).at g) (le_true g 15 small) h)

  choice_at : (t : Cond) (a b : Expr) (f : ℕ) → IsTrue (is_ranged_condition u t) → IsTrue ((value u a).at f) → IsTrue ((value u b).at f) → IsTrue ((value u (choice t a b)).at f)
  choice_at t a b f test x y =
      subst (λ (v : RangedValue). IsTrue (v.at f)) (sym (value_rolled u (unit_layer.Choice t a b)))
      (both_true (is_ranged_condition u t) ((value u a).at f && (value u b).at f) test (both_true ((value u a).at f) ((value u b).at f) x y))

module _ (named : Named) (numbers : Numbers) (u : SourceUnit) (who : Option ℕ) (declared : DeclarationsInRange named) where
  -- ---- names

  name_place : (n : RawName) (r : Reading) → Used named numbers u who n (form.Reference r 0) → IsTrue (ranged_reference u (place_of_name named numbers n)).good
  name_place n r s =
      place_good u (named_spot (kind_of named n) (item_of named numbers n)) (fraction_of_kind (kind_of named n)) (field_of (kind_of named n)) (name_small (kind_of named n))
      (field_in named numbers u who n s.named_kind s.is_kind (kind_ranges named declared n s.named_kind s.is_kind)) (name_good named numbers u who n s.named_kind s.is_kind)

  indexed_good : (n : RawName) (r : Reading) (e : Expr) → Used named numbers u who n (form.Reference (uses.indexed r) 1) → IsTrue ((value u e).at 0) → IsTrue (ranged_reference u (indexed_place named numbers n e)).good
  indexed_good n r e k x =
      let d = kind_ranges named declared n k.named_kind k.is_kind in
      place_good u (indexed_spot named numbers (kind_of named n) (item_of named numbers n) e) (fraction_of_kind (kind_of named n)) (field_of (kind_of named n)) (name_small (kind_of named n)) (field_in named numbers u who n k.named_kind k.is_kind d)
      (subst (λ (o : Option NameKind). Place u (indexed_spot named numbers o (item_of named numbers n) e)) (sym k.is_kind)
      (one_place u named numbers who declared k.named_kind n e k.stands_as d (indexed_reading r 1 k.named_kind refl k.fits_use) x))

  twice_indexed_good : (n : RawName) (r : Reading) (e g : Expr) → Used named numbers u who n (form.Reference (uses.indexed r) 2) → IsTrue ((value u e).at 0) → IsTrue ((value u g).at 0) → IsTrue (ranged_reference u (twice_indexed_place named numbers n e g)).good
  twice_indexed_good n r e g k x y =
      let d = kind_ranges named declared n k.named_kind k.is_kind in
      place_good u (twice_indexed_spot (kind_of named n) (item_of named numbers n) e g) (fraction_of_kind (kind_of named n)) (field_of (kind_of named n)) (name_small (kind_of named n)) (field_in named numbers u who n k.named_kind k.is_kind d)
      (subst (λ (o : Option NameKind). Place u (twice_indexed_spot o (item_of named numbers n) e g)) (sym k.is_kind)
      (two_place u k.named_kind (item_of named numbers n) e g d (indexed_reading r 2 k.named_kind refl k.fits_use) x y))

  pub ranged_kept : IsKept named numbers u who (in_ranges u)
  ranged_kept = record {
    more = λ l k f e low h. h;
    nothing_result = nothing_result u;
    logic_result = logic_result u;
    bits_result = bits_result u;
    times_result = times_result u;
    over_result = over_result u;
    added_addend = λ op f n m l a b small few h k. added_addend u op f n m l a b h k;
    minus_addend = λ f n l a small few h. minus_addend u f n l a h;
    whole_part_is = whole_part_is u;
    number_good = λ n f free. number_good u named n f;
    constant_result = λ f z h. result_of u 0 f (constant z) (λ f. true) (value_rolled u (unit_layer.Const z)) refl;
    string_result = λ f i h. result_of u 0 f (string i) (λ f. true) (value_rolled u (unit_layer.Text i)) refl;
    locate_result = λ f x h. result_of u 0 f (locate x) (λ f. (ranged_reference u x).good) (value_rolled u (unit_layer.Locate x)) h;
    force_result = force_result u;
    called_result = λ f n args c gs. called_result named numbers u who f n args c.scale (all_in_ranges u gs);
    choice_natural = λ t a b. ap (λ (v : RangedValue). v.natural) (value_rolled u (unit_layer.Choice t a b));
    choice_operand = λ t a b. ap (λ (v : RangedValue). v.operand) (value_rolled u (unit_layer.Choice t a b));
    choice_at = λ t a b l i k f first second test x y. choice_at u t a b f test x y;
    both_tests = λ c d h k. test_of u (unit_layer.And c d) (both_true (is_ranged_condition u c) (is_ranged_condition u d) h k);
    either_test = λ c d h k. test_of u (unit_layer.Or c d) (both_true (is_ranged_condition u c) (is_ranged_condition u d) h k);
    comparison_test = comparison_test u;
    nothing_handed = λ r. nothing_given u;
    name_handed = λ n r s. handed_given u (kind_of named n) (number_of named numbers n);
    name_result = λ f n r s h free. name_value named numbers u who f n s.named_kind s.is_kind s.stands_as (kind_ranges named declared n s.named_kind s.is_kind);
    name_place = λ n r s placed. name_place n r s;
    place_scale = place_scale u;
    read_result = read_result u;
    bare_place = λ e x. place_good u (roll-Spot (unit_layer.Bare e)) 0 None (omega arith) refl (bare_place u e x);
    one_place = indexed_good;
    two_place = twice_indexed_good;
    value_given = λ at t e h. value_given u e (fraction_of t) (type_small t) h;
    place_given = λ at t e x is h. read_given u e x (fraction_of t) is h;
    plain_given = λ p b a h s. s;
    procedure_given = λ answer at params b a h s. s;
  }
