-- The parts of statements that are expressions, conditions, references, calls and jumps.
use Rattle.std.proofs.Common.{ℕ, ◌≤◌, List, [], ◌∷◌, ◌++◌, map, Bool, IsTrue, ◌&&◌, nat_le, Option, refl, arith, Some}
use Rattle.cw_tree.specs.declared.leaf.Position.{Position}
use Rattle.cw_tree.specs.declared.leaf.RawName.{RawName}
use Rattle.cw_tree.specs.declared.expression.RawExpr.{RawExpr}
use Rattle.cw_tree.specs.declared.expression.RawCond.{RawCond}
use Rattle.cw_tree.specs.declared.expression.RawRef.{RawRef}
use Rattle.cw_tree.specs.declared.statement.RawFelem.{RawFelem}
use Rattle.cw_tree.specs.declared.statement.RawFelem.TheVariants as felem
use Rattle.cw_facts.specs.declared.fact.Form.TheVariants as form
use Rattle.cw_facts.specs.declared.fact.Reading.{Reading}
use Rattle.cw_facts.specs.declared.fact.Reading.TheVariants as reading
use Rattle.cw_facts.specs.Uses.{uses_of, argument_uses, expression_uses, condition_uses, reference_uses}
use Rattle.cw_facts.specs.Facts.{felem_facts, felems_facts}
use Rattle.cw_scope.specs.declared.resolve.Named.{Named}
use Rattle.cw_scale.specs.Faults.{both as judged_both}
use Rattle.cw_scale.specs.Kinds.{signature_of}
use Rattle.cw_scale.specs.TypeRules.{expression, condition, reference, call_faults}
use Rattle.cw_judge.specs.Operators.{few_operators, few_each, expression_operators, condition_operators, reference_operators}
use Rattle.cw_judge.specs.Judged.{expression_judged, condition_judged, reference_judged, felem_judged, felems_judged}
use Rattle.cw_number.specs.declared.numbered.Numbered.{Numbered}
use Rattle.cw_make_expr.specs.Parts.{Numbers}
use Rattle.cw_make_expr.specs.Made.{expression_of, condition_of, reference_of, call_of}
use Rattle.cw_make_stmt.specs.Made.{line_of, goal_of, switch_of, felem_of}
use Rattle.cw_unit.specs.declared.unit.Unit.{Unit as SourceUnit}
use Rattle.cw_unit.specs.declared.unit.Expr.{Expr}
use Rattle.cw_gen_expr.specs.BuiltExpressions.{most_levels}
use Rattle.cw_writable.specs.Coded.RangedExpressions.{all_ranged, ranged_value, is_ranged_expression, is_ranged_condition, is_ranged_argument, ranged_reference}
use Rattle.cw_writable.specs.Coded.RangedUnits.{is_line, is_ranged_jump, is_ranged_element, are_ranged_elements}
use Rattle.cw_sound.specs.Uses.Stands.{FactsStand}
use Rattle.cw_sound.specs.Expressions.Levels.{largest, then_levels, condition_levels, reference_levels}
use Rattle.cw_sound.specs.Expressions.Readings.{is_placed}
use Rattle.cw_sound.specs.Expressions.Regular.{all, is_regular, is_regular_condition, is_regular_reference}
use Rattle.cw_sound.proofs.Expressions.Truth.{both, parts, le_true, lt_true}
use Rattle.cw_sound.proofs.Expressions.Judging.{NoFault, keeps_both, both_free}
use Rattle.cw_sound.proofs.Expressions.Standing.{split}
use Rattle.cw_sound.proofs.Expressions.Whole.{expression_good, condition_good, reference_good, call_good}
use Rattle.cw_sound.specs.Ranges.Declared.{DeclarationsInRange}
use Rattle.cw_sound.proofs.Ranges.InRanges.{in_ranges}
use Rattle.cw_sound.proofs.Ranges.Given.{all_in_ranges}
use Rattle.cw_sound.proofs.Ranges.RangedTrees.{ranged_kept}
use Rattle.cw_sound.specs.Statements.Levels.{element_levels}
use Rattle.cw_sound.specs.Statements.Regular.{is_regular_element}
use Rattle.cw_sound.proofs.Statements.Elements.{step_parts}
use Rattle.cw_sound.proofs.Statements.Keeping.{whole_keeps, test_keeps, elements_keep}
use Rattle.cw_sound.proofs.Items.Keeping.{keeps_few, keeps_few_each}
use Rattle.cw_number.specs.declared.numbered.Numbered.TheVariants as numbered

-- ---- lines

pub line_good : (at : Position) → IsTrue (is_line (line_of at))
line_good at = lt_true (line_of at) 65536 (omega arith)

-- ---- jumps

pub jump_ranged : (u : SourceUnit) (number : Option Numbered) → IsTrue (is_ranged_jump u (goal_of number))
jump_ranged u (Some (numbered.Label l)) = refl
jump_ranged u _ = refl

pub switch_ranged : (u : SourceUnit) (e : Expr) → IsTrue (is_ranged_expression u e 0) → (number : Option Numbered) → IsTrue (is_ranged_jump u (switch_of number e))
switch_ranged u e h (Some (numbered.Switch s)) = h
switch_ranged u e h _ = h

module _ (named : Named) (numbers : Numbers) (u : SourceUnit) (who : Option ℕ) (declared : DeclarationsInRange named) where
  abbrev pub ranged_at : RawExpr → ℕ → Bool
  ranged_at e f = is_ranged_expression u (expression_of named numbers e) f

  abbrev pub ranged_test : RawCond → Bool
  ranged_test c = is_ranged_condition u (condition_of named numbers c)

  abbrev pub ranged_place : RawRef → Bool
  ranged_place r = (ranged_reference u (reference_of named numbers r)).good

  -- ---- expressions

  pub expression_ranged : (e : RawExpr) (f : ℕ) → IsTrue (is_regular e) → FactsStand named numbers u (expression_uses e reading.Value) who → NoFault (expression_judged named f e) → f ≤ 15 → then_levels e ≤ most_levels → IsTrue (ranged_at e f)
  expression_ranged e f regular facts free small few =
      let calm = (both_free ((expression named e).faults f) (few_operators (expression_operators e)) (keeps_few (expression_operators e)) free).0 in
      both (nat_le f 15) ((ranged_value u (expression_of named numbers e)).at f) (le_true f 15 small) (expression_good named numbers u who (in_ranges u) (ranged_kept named numbers u who declared) reading.Value e f regular refl facts calm small few).at

  pub test_ranged : (c : RawCond) → IsTrue (is_regular_condition c) → FactsStand named numbers u (condition_uses c reading.Value) who → NoFault (condition_judged named c) → condition_levels c ≤ most_levels → IsTrue (ranged_test c)
  test_ranged c regular facts free few =
      let calm = (both_free ((condition named c).faults 0) (few_operators (condition_operators c)) (keeps_few (condition_operators c)) free).0 in
      condition_good named numbers u who (in_ranges u) (ranged_kept named numbers u who declared) reading.Value c 0 regular facts calm few

  pub place_ranged : (r : RawRef) (x : Reading) → IsTrue (is_placed x) → IsTrue (is_regular_reference r) → FactsStand named numbers u (reference_uses r x) who → NoFault (reference_judged named r) → reference_levels r ≤ most_levels → IsTrue (ranged_place r)
  place_ranged r x placed regular facts free few =
      let calm = (both_free ((reference named r).faults 0) (few_each (reference_operators r)) (keeps_few_each (reference_operators r)) free).0 in
      reference_good named numbers u who (in_ranges u) (ranged_kept named numbers u who declared) x r 0 regular placed facts calm few

  pub call_ranged : (n : RawName) (es : List RawExpr) → IsTrue (all (map is_regular es)) → FactsStand named numbers u (uses_of n form.Call ++ argument_uses es) who → NoFault (call_faults named (signature_of named n) n (map (expression named) es)) → largest (map then_levels es) ≤ most_levels
      → IsTrue (all_ranged (map (is_ranged_argument u) (call_of named numbers n es).1))
  call_ranged n es regular facts free few = all_in_ranges u (call_good named numbers u who (in_ranges u) (ranged_kept named numbers u who declared) n es regular facts free few).1

  -- ---- the elements of a FOR

  element_ranged : (e : RawFelem) (f : ℕ) → f ≤ 15 → IsTrue (is_regular_element e) → FactsStand named numbers u (felem_facts e) who → NoFault (felem_judged named f e) → element_levels e ≤ most_levels → IsTrue (is_ranged_element u f (felem_of named numbers e))
  element_ranged (felem.One e) f small regular facts free few = expression_ranged e f regular facts free small (omega (arith, few))
  element_ranged (felem.While e c) f small regular facts free few =
      let ok = parts (is_regular e) (is_regular_condition c) regular in
      let sides = split named numbers u who (expression_uses e reading.Value) (condition_uses c reading.Value) facts in
      let calm = both_free (expression_judged named f e) (condition_judged named c) (test_keeps named c) free in
      both (ranged_at e f) (ranged_test c) (expression_ranged e f ok.0 sides.0 calm.0 small (omega (arith, few))) (test_ranged c ok.1 sides.1 calm.1 (omega (arith, few)))
  element_ranged (felem.Step a b d) f small regular facts free few =
      let p = step_parts named numbers u who a b d f regular facts free in
      both (ranged_at a f) (ranged_at b f && ranged_at d f) (expression_ranged a f p.0.regular p.0.facts p.0.free small (omega (arith, few)))
      (both (ranged_at b f) (ranged_at d f) (expression_ranged b f p.1.regular p.1.facts p.1.free small (omega (arith, few))) (expression_ranged d f p.2.regular p.2.facts p.2.free small (omega (arith, few))))

  pub elements_ranged : (es : List RawFelem) (f : ℕ) → f ≤ 15 → IsTrue (all (map is_regular_element es)) → FactsStand named numbers u (felems_facts es) who → NoFault (felems_judged named f es) → largest (map element_levels es) ≤ most_levels → IsTrue (are_ranged_elements u f (map (felem_of named numbers) es))
  elements_ranged [] f small regular facts free few = refl
  elements_ranged (e ∷ es) f small regular facts free few =
      let ok = parts (is_regular_element e) (all (map is_regular_element es)) regular in
      let sides = split named numbers u who (felem_facts e) (felems_facts es) facts in
      let calm = both_free (felem_judged named f e) (felems_judged named f es) (elements_keep named f es) free in
      both (is_ranged_element u f (felem_of named numbers e)) (are_ranged_elements u f (map (felem_of named numbers) es)) (element_ranged e f small ok.0 sides.0 calm.0 (omega (arith, few))) (elements_ranged es f small ok.1 sides.1 calm.1 (omega (arith, few)))
