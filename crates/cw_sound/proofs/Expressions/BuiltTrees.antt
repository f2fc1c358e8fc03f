-- Each node of a tree is built and well formed where its parts are, and the names that it uses stand for right things.
use Rattle.std.proofs.Common.{◌≡◌, ℕ, zero, suc, ◌+◌, ◌*◌, ◌/◌, ◌^◌, ◌<◌, ◌≤◌, max, ℤ, List, [], Bool, true, false, IsTrue, ◌&&◌, ◌||◌, not, nat_le, nat_lt, Option, Some, None, refl, sym, ap, subst, ◌∙◌, arith}
use Rattle.std.proofs.lemmas.Option.{same_Some}
use Rattle.cw_word.specs.Decimal.{decimal_floor}
use Rattle.cw_word.specs.FixedPoint.{fits_word}
use Rattle.cw_tree.specs.declared.leaf.MulOp.TheVariants as mul
use Rattle.cw_tree.specs.declared.leaf.RawName.{RawName}
use Rattle.cw_tree.specs.declared.leaf.RawNumber.{RawNumber}
use Rattle.cw_tree.specs.declared.expression.RawExpr.TheOpen as layer
use Rattle.cw_facts.specs.declared.fact.Form.TheVariants as form
use Rattle.cw_facts.specs.declared.fact.Kind.{Kind as NameKind}
use Rattle.cw_facts.specs.declared.fact.Kind.TheVariants as kind
use Rattle.cw_facts.specs.declared.fact.Reading.{Reading}
use Rattle.cw_facts.specs.declared.fact.Reading.TheVariants as reading
use Rattle.cw_facts.specs.Uses as uses
use Rattle.cw_scope.specs.declared.resolve.Named.{Named}
use Rattle.cw_scope.specs.NameRules.{is_reference, is_part, answers, is_procedure}
use Rattle.cw_scale.specs.declared.fault.Rule.TheVariants as rule
use Rattle.cw_scale.specs.Arguments.{is_word_item, is_word_item_if, answers_alone}
use Rattle.cw_scale.specs.Faults.{unless}
use Rattle.cw_scale.specs.Kinds.{kind_of, signature_of, fraction_of, fraction_of_kind}
use Rattle.cw_scale.specs.TypeRules as judged
use Rattle.cw_scale.specs.TypeRules.{fits_at}
use Rattle.cw_make_expr.specs.Parts.{Numbers, number_of, field_of, handed, named_spot, indexed_spot, twice_indexed_spot}
use Rattle.cw_make_expr.specs.Nodes as nodes
use Rattle.cw_make_expr.specs.Nodes.{number, constant, string, force, locate, choice, comparison, nothing}
use Rattle.cw_make_expr.specs.Made.{simply, item_of, indexed_place, twice_indexed_place}
use Rattle.cw_unit.specs.declared.unit.Unit.{Unit as SourceUnit}
use Rattle.cw_unit.specs.declared.unit.CompareOp.{CompareOp}
use Rattle.cw_unit.specs.declared.unit.Arg.{Arg}
use Rattle.cw_unit.specs.declared.unit.Cond.{Cond, roll-Cond, map-Cond}
use Rattle.cw_unit.specs.declared.unit.Expr.{Expr}
use Rattle.cw_unit.specs.declared.unit.Spot.{Spot, roll-Spot}
use Rattle.cw_unit.specs.declared.unit.Ref.{Ref}
use Rattle.cw_unit.specs.declared.unit.Arg.TheOpen as unit_layer
use Rattle.cw_unit.specs.declared.unit.Arg.TheOpen.{Cond-F}
use Rattle.cw_unit.specs.declared.unit.Arg.TheFolds.{fold-roll-Cond}
use Rattle.cw_safety.specs.Kinds.{Kind}
use Rattle.cw_safety.specs.WellFormed as formed
use Rattle.cw_gen_expr.specs.NamedItems.{has_words}
use Rattle.cw_gen_expr.specs.BuiltExpressions as built
use Rattle.cw_gen_expr.specs.BuiltExpressions.{BuiltValue, BuiltReference, most_levels, whole, is_condition, built_reference}
use Rattle.cw_gen_expr.proofs.Layers.{built_condition_layer}
use Rattle.cw_built.specs.Built.{alone, at_work}
use Rattle.cw_sound.specs.Expressions.Readings.{is_placed}
use Rattle.cw_sound.proofs.Expressions.Truth.{no, something, both as both_true, parts, either, or_left, or_right, le_of, lt_true}
use Rattle.cw_sound.proofs.Expressions.Judging.{NoFault, holds}
use Rattle.cw_sound.proofs.Expressions.Parts.{AsValue, Result, Good}
use Rattle.cw_sound.proofs.Expressions.Senses.{IsKept, Used, indexed_reading}
use Rattle.cw_sound.proofs.Expressions.Built.{value, is_formed, built_well, BuiltAt, BuiltTest, BuiltPlace, HandedOn, whole_at}
use Rattle.cw_sound.proofs.Expressions.Nodes.{value_rolled, formed_rolled, result_of, logic_result, bits_result, multiplied_result, added_addend, minus_addend, whole_part_is}
use Rattle.cw_sound.proofs.Expressions.Numbers.{operand_is, type_small}
use Rattle.cw_sound.proofs.Expressions.Places.{Place, place_good, place_scale, read_result, bare_place, one_place, two_place}
use Rattle.cw_sound.proofs.Expressions.Calls.{called_result, name_good, name_value}
use Rattle.cw_sound.proofs.Expressions.Given.{value_given, read_given, plain_by_name, procedure_by_name, all_given}

zero_floor : (f : ℕ) → decimal_floor 0 0 0 f ≡ 0
zero_floor f = let none_left : (0 * 10 ^ 0 + 0) * 2 ^ f ≡ 0 = omega arith in ap (λ (x : ℕ). x / 10 ^ 0) none_left

word_is_read : (k : NameKind) → IsTrue (is_word_item k) → IsTrue (is_reference k 0)
word_is_read (kind.Single t) h = refl
word_is_read (kind.Value t) h = refl
word_is_read (kind.Location t) h = refl
word_is_read _ h = no h

answering : (k : NameKind) → IsTrue (answers k) → IsTrue (is_procedure k)
answering (kind.Proc t) h = refl
answering (kind.ProcParam t) h = refl
answering kind.ReadByte h = refl
answering _ h = no h

module _ (u : SourceUnit) (who : Option ℕ) where
  -- ---- conditions

  condition_rolled : (x : Cond-F Arg Cond Expr Spot Ref) → is_condition u (has_words u who) (roll-Cond x) ≡ built_condition_layer u (has_words u who) x
  condition_rolled = fold-roll-Cond Bool Bool BuiltValue Bool BuiltReference (built.argument_step u (has_words u who)) (built.condition_step u (has_words u who)) (built.expression_step u (has_words u who)) (built.spot_step u (has_words u who)) (built.reference_step u (has_words u who))

  abbrev formed_layer : Cond-F Arg Cond Expr Spot Ref → Bool
  formed_layer x = formed.condition_step (map-Cond Arg Cond Expr Spot Ref (Option Kind) Bool Bool Bool Bool (formed.kind_of (alone u) 0 (at_work who)) (formed.is_condition (alone u) 0 (at_work who)) (is_formed u who) (formed.is_spot (alone u) 0 (at_work who)) (formed.is_reference (alone u) 0 (at_work who)) x)

  formed_condition : (x : Cond-F Arg Cond Expr Spot Ref) → formed.is_condition (alone u) 0 (at_work who) (roll-Cond x) ≡ formed_layer x
  formed_condition = fold-roll-Cond (Option Kind) Bool Bool Bool Bool (formed.argument_step (alone u) 0 (at_work who)) formed.condition_step (formed.expression_step (alone u) 0 (at_work who)) formed.spot_step formed.reference_step

  test_of : (x : Cond-F Arg Cond Expr Spot Ref) → IsTrue (built_condition_layer u (has_words u who) x) → IsTrue (formed_layer x) → BuiltTest u who (roll-Cond x)
  test_of x h k = record { built = subst IsTrue (sym (condition_rolled x)) h; formed = subst IsTrue (sym (formed_condition x)) k }

  both_tests : (c d : Cond) → BuiltTest u who c → BuiltTest u who d → BuiltTest u who (nodes.both c d)
  both_tests c d h k =
      test_of (unit_layer.And c d) (both_true (is_condition u (has_words u who) c) (is_condition u (has_words u who) d) h.built k.built)
      (both_true (formed.is_condition (alone u) 0 (at_work who) c) (formed.is_condition (alone u) 0 (at_work who) d) h.formed k.formed)

  either_test : (c d : Cond) → BuiltTest u who c → BuiltTest u who d → BuiltTest u who (nodes.either c d)
  either_test c d h k =
      test_of (unit_layer.Or c d) (both_true (is_condition u (has_words u who) c) (is_condition u (has_words u who) d) h.built k.built)
      (both_true (formed.is_condition (alone u) 0 (at_work who) c) (formed.is_condition (alone u) 0 (at_work who) d) h.formed k.formed)

  -- both sides are evaluated at the larger of their natural scales
  comparison_test : (op : CompareOp) (a b : Expr) (f : ℕ) → max (value u who a).natural (value u who b).natural ≡ f → f ≤ 15 → BuiltAt u who most_levels f a → BuiltAt u who most_levels f b → BuiltTest u who (comparison op a b)
  comparison_test op a b f is small x y =
      test_of (unit_layer.Cmp op a b)
      (subst (λ (g : ℕ). IsTrue (whole (value u who a) g && whole (value u who b) g)) (sym is) (both_true (whole (value u who a) f) (whole (value u who b) f) (whole_at u who f most_levels a small (omega arith) x) (whole_at u who f most_levels b small (omega arith) y)))
      (both_true (is_formed u who a) (is_formed u who b) x.formed y.formed)

  -- ---- primaries

  nothing_result : (f : ℕ) → Result (built_well u who) 0 f nothing
  nothing_result f =
      let layer_of = unit_layer.Num (record { whole = 0; digits = 0; places = 0 }) in
      record {
        natural = ap (λ (v : BuiltValue). v.natural) (value_rolled u who layer_of);
        operand = ap (λ (v : BuiltValue). v.operand) (value_rolled u who layer_of);
        at = record {
          built = λ levels low high. subst (λ (v : BuiltValue). IsTrue (v.at f levels)) (sym (value_rolled u who layer_of)) (lt_true (decimal_floor 0 0 0 f) 32768 (omega (arith, zero_floor f)));
          formed = formed_rolled u who layer_of;
        };
      }

  number_good : (named : Named) (n : RawNumber) (f : ℕ) → NoFault (unless (fits_at n.number f) rule.NumberRange n.at) → Good (built_well u who) (judged.primary_step named (layer.Number n)) (simply (number n.number)) 0 f
  number_good named n f free =
      let is = value_rolled u who (unit_layer.Num n.number) in
      let top : ℕ = decimal_floor n.number.whole n.number.digits n.number.places f in
      let below : top ≤ 32767 = le_of top 32767 (parts (nat_le f 15) (nat_le top 32767) (holds (fits_at n.number f) rule.NumberRange n.at free)).1 in
      let fits : IsTrue (nat_lt top 32768) = lt_true top 32768 (omega (arith, below)) in
      let at_any : (l : ℕ) → BuiltAt u who l f (number n.number) = λ l. record { built = λ levels low high. subst (λ (v : BuiltValue). IsTrue (v.at f levels)) (sym is) fits; formed = formed_rolled u who (unit_layer.Num n.number) } in
      record {
        natural = λ operand. ap (λ (v : BuiltValue). v.natural) is;
        operand = ap (λ (v : BuiltValue). v.operand) is ∙ operand_is n.number;
        at = at_any 0;
        as_operand = λ e. at_any most_levels;
      }

  constant_result : (f : ℕ) (z : ℤ) → IsTrue (fits_word z) → Result (built_well u who) 0 f (constant z)
  constant_result f z h = result_of u who 0 f (constant z) (λ f levels. fits_word z) (value_rolled u who (unit_layer.Const z)) (λ levels. h) (formed_rolled u who (unit_layer.Const z))

  string_result : (f i : ℕ) → IsTrue (has_words u who i 1) → Result (built_well u who) 0 f (string i)
  string_result f i h = result_of u who 0 f (string i) (λ f levels. has_words u who i 1) (value_rolled u who (unit_layer.Text i)) (λ levels. h) (formed_rolled u who (unit_layer.Text i))

  locate_result : (f : ℕ) (x : Ref) → BuiltPlace u who x → Result (built_well u who) 0 f (locate x)
  locate_result f x h =
      result_of u who 0 f (locate x) (λ f levels. (built_reference u (has_words u who) x).good) (value_rolled u who (unit_layer.Locate x)) (λ levels. h.built) (subst IsTrue (sym (formed_rolled u who (unit_layer.Locate x))) h.formed)

  force_result : (f g : ℕ) (e : Expr) → g ≤ 15 → BuiltAt u who most_levels g e → Result (built_well u who) g f (force g e)
  force_result f g e small h =
      result_of u who g f (force g e) (λ f levels. whole (value u who e) g) (value_rolled u who (unit_layer.Force g e)) (λ levels. whole_at u who g most_levels e small (omega arith) h) (subst IsTrue (sym (formed_rolled u who (unit_layer.Force g e))) h.formed)

  -- ---- conditional expressions

  choice_levels : (t : Cond) (a b : Expr) (f levels : ℕ) → IsTrue (is_condition u (has_words u who) t) → 0 < levels → ((n : ℕ) → suc n ≡ levels → IsTrue ((value u who a).at f n)) → IsTrue ((value u who b).at f levels) → IsTrue ((value u who (choice t a b)).at f levels)
  choice_levels t a b f zero ht some ha hb = absurd (omega (arith, some))
  choice_levels t a b f (suc n) ht some ha hb =
      subst (λ (v : BuiltValue). IsTrue (v.at f (suc n))) (sym (value_rolled u who (unit_layer.Choice t a b)))
      (both_true (is_condition u (has_words u who) t) ((value u who a).at f n && (value u who b).at f (suc n)) ht (both_true ((value u who a).at f n) ((value u who b).at f (suc n)) (ha n refl) hb))

  choice_at : (t : Cond) (a b : Expr) (l i k f : ℕ) → suc l ≤ k → i ≤ k → BuiltTest u who t → BuiltAt u who l f a → BuiltAt u who i f b → BuiltAt u who k f (choice t a b)
  choice_at t a b l i k f first second test x y = record {
    built = λ levels low high. choice_levels t a b f levels test.built (omega (arith, first, low)) (λ p e. x.built p (omega (arith, first, low, e)) (omega (arith, high, e))) (y.built levels (omega (arith, second, low)) high);
    formed = subst IsTrue (sym (formed_rolled u who (unit_layer.Choice t a b)))
        (both_true (formed.is_condition (alone u) 0 (at_work who) t) (is_formed u who a && is_formed u who b) test.formed (both_true (is_formed u who a) (is_formed u who b) x.formed y.formed));
  }

module _ (named : Named) (numbers : Numbers) (u : SourceUnit) (who : Option ℕ) where
  -- ---- a name by itself that has a value, or is a place

  may_have_value : (n : RawName) (r : Reading) (s : Used named numbers u who n (form.Reference r 0)) → AsValue named r (Some n) → IsTrue (is_reference s.named_kind 0 || is_procedure s.named_kind)
  may_have_value n reading.Value s h = either (is_reference s.named_kind 0) (answers s.named_kind) s.fits_use (λ x. or_left (is_reference s.named_kind 0) (is_procedure s.named_kind) x) (λ x. or_right (is_reference s.named_kind 0) (is_procedure s.named_kind) (answering s.named_kind x))
  may_have_value n reading.Target s h = or_left (is_reference s.named_kind 0) (is_procedure s.named_kind) s.fits_use
  may_have_value n reading.Whole s h = or_left (is_reference s.named_kind 0) (is_procedure s.named_kind) (parts (is_reference s.named_kind 0) (not (is_part s.named_kind)) s.fits_use).0
  may_have_value n reading.Argument s h =
      either (is_word_item_if (kind_of named n)) (answers_alone (signature_of named n)) h
      (λ x. or_left (is_reference s.named_kind 0) (is_procedure s.named_kind) (word_is_read s.named_kind (subst (λ (o : Option NameKind). IsTrue (is_word_item_if o)) s.is_kind x)))
      (λ x. or_right (is_reference s.named_kind 0) (is_procedure s.named_kind) (s.called x))

  is_place_of : (n : RawName) (r : Reading) (s : Used named numbers u who n (form.Reference r 0)) → IsTrue (is_placed r) → IsTrue (is_reference s.named_kind 0)
  is_place_of n reading.Value s h = no h
  is_place_of n reading.Target s h = s.fits_use
  is_place_of n reading.Whole s h = (parts (is_reference s.named_kind 0) (not (is_part s.named_kind)) s.fits_use).0
  is_place_of n reading.Argument s h = no h

  name_handed : (n : RawName) (r : Reading) → Used named numbers u who n (form.Reference r 0) → HandedOn u who named numbers r (Some n) (handed (kind_of named n) (number_of named numbers n))
  name_handed n r s x e =
      subst (λ (z : RawName). Used named numbers u who z (form.Reference r 0) × (handed (kind_of named n) (number_of named numbers n) ≡ handed (kind_of named z) (number_of named numbers z))) (same_Some n x e) (s, refl)

  -- ---- places with indexes

  indexed_good : (n : RawName) (r : Reading) (e : Expr) → Used named numbers u who n (form.Reference (uses.indexed r) 1) → BuiltAt u who most_levels 0 e → BuiltPlace u who (indexed_place named numbers n e)
  indexed_good n r e k x =
      place_good u who (indexed_spot named numbers (kind_of named n) (item_of named numbers n) e) (fraction_of_kind (kind_of named n)) (field_of (kind_of named n))
      (subst (λ (o : Option NameKind). Place u who (indexed_spot named numbers o (item_of named numbers n) e)) (sym k.is_kind)
      (one_place u who named numbers k.named_kind n e k.stands_as (indexed_reading r 1 k.named_kind refl k.fits_use) x))

  twice_indexed_good : (n : RawName) (r : Reading) (e g : Expr) → Used named numbers u who n (form.Reference (uses.indexed r) 2) → BuiltAt u who most_levels 0 e → BuiltAt u who most_levels 0 g → BuiltPlace u who (twice_indexed_place named numbers n e g)
  twice_indexed_good n r e g k x y =
      place_good u who (twice_indexed_spot (kind_of named n) (item_of named numbers n) e g) (fraction_of_kind (kind_of named n)) (field_of (kind_of named n))
      (subst (λ (o : Option NameKind). Place u who (twice_indexed_spot o (item_of named numbers n) e g)) (sym k.is_kind)
      (two_place u who named numbers k.named_kind n e g k.stands_as (indexed_reading r 2 k.named_kind refl k.fits_use) x y))

  pub built_kept : IsKept named numbers u who (built_well u who)
  built_kept = record {
    more = λ l k f e low h. record { built = λ levels x y. h.built levels (omega (arith, low, x)) y; formed = h.formed };
    nothing_result = nothing_result u who;
    logic_result = logic_result u who;
    bits_result = λ t b f a part h. bits_result u who t b f a h;
    times_result = multiplied_result u who mul.Times;
    over_result = λ f a b may h k. multiplied_result u who mul.Divide f a b h k;
    added_addend = added_addend u who;
    minus_addend = minus_addend u who;
    whole_part_is = whole_part_is u who;
    number_good = number_good u who named;
    constant_result = constant_result u who;
    string_result = string_result u who;
    locate_result = locate_result u who;
    force_result = force_result u who;
    called_result = λ f n args c gs. let g = all_given u who gs in called_result named numbers u who f n args c g.built g.kinds;
    choice_natural = λ t a b. ap (λ (v : BuiltValue). v.natural) (value_rolled u who (unit_layer.Choice t a b));
    choice_operand = λ t a b. ap (λ (v : BuiltValue). v.operand) (value_rolled u who (unit_layer.Choice t a b));
    choice_at = choice_at u who;
    both_tests = both_tests u who;
    either_test = either_test u who;
    comparison_test = comparison_test u who;
    nothing_handed = λ r n e. something n (sym e);
    name_handed = name_handed;
    name_result = λ f n r s h free. name_value named numbers u who f n s.named_kind s.is_kind s.stands_as (may_have_value n r s h) free;
    name_place = λ n r s placed. place_good u who (named_spot (kind_of named n) (item_of named numbers n)) (fraction_of_kind (kind_of named n)) (field_of (kind_of named n)) (name_good named numbers u who n s.named_kind s.is_kind s.stands_as (is_place_of n r s placed));
    place_scale = place_scale u who;
    read_result = read_result u who;
    bare_place = λ e x. place_good u who (roll-Spot (unit_layer.Bare e)) 0 None (bare_place u who e x);
    one_place = indexed_good;
    two_place = twice_indexed_good;
    value_given = λ at t e h. value_given u who e (fraction_of t) (type_small t) h;
    place_given = λ at t e x is h. read_given u who e x (fraction_of t) is h;
    plain_given = plain_by_name u who named numbers;
    procedure_given = λ answer at params. procedure_by_name u who named numbers answer params;
  }
