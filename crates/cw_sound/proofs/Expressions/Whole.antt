-- Whole expressions, conditions, references and calls.
use Rattle.std.proofs.Common.{ℕ, ◌≤◌, List, ◌++◌, map, false, IsTrue, Option, refl}
use Rattle.cw_tree.specs.declared.leaf.RawName.{RawName}
use Rattle.cw_tree.specs.declared.expression.RawExpr.{RawExpr}
use Rattle.cw_tree.specs.declared.expression.RawCond.{RawCond}
use Rattle.cw_tree.specs.declared.expression.RawRef.{RawRef}
use Rattle.cw_facts.specs.declared.fact.Kind.{Kind as NameKind}
use Rattle.cw_facts.specs.declared.fact.Kind.TheVariants as kind
use Rattle.cw_facts.specs.declared.fact.Form.TheVariants as form
use Rattle.cw_facts.specs.declared.fact.Reading.{Reading}
use Rattle.cw_facts.specs.declared.fact.Reading.TheVariants as reading
use Rattle.cw_facts.specs.Uses.{expression_uses, condition_uses, reference_uses, argument_uses, uses_of}
use Rattle.cw_scope.specs.declared.resolve.Named.{Named}
use Rattle.cw_scope.specs.NameRules.{is_procedure}
use Rattle.cw_scale.specs.Kinds.{signature_of}
use Rattle.cw_scale.specs.TypeRules.{expression, condition, reference, call_faults}
use Rattle.cw_make_expr.specs.Parts.{Numbers}
use Rattle.cw_make_expr.specs.Made.{expression_made, condition_of, reference_of, arguments}
use Rattle.cw_unit.specs.declared.unit.Unit.{Unit as SourceUnit}
use Rattle.cw_gen_expr.specs.BuiltExpressions.{most_levels}
use Rattle.cw_sound.specs.Uses.Stands.{FactsStand}
use Rattle.cw_sound.specs.Expressions.Readings.{is_evaluated, is_placed}
use Rattle.cw_sound.specs.Expressions.Levels.{largest, then_levels, condition_levels, reference_levels}
use Rattle.cw_sound.specs.Expressions.Regular.{all, is_regular, is_regular_condition, is_regular_reference}
use Rattle.cw_sound.proofs.Expressions.Truth.{no}
use Rattle.cw_sound.proofs.Expressions.Judging.{NoFault}
use Rattle.cw_sound.proofs.Expressions.Standing.{split, use_stands}
use Rattle.cw_sound.proofs.Expressions.Parts.{Sense, AsValue, Good, EachGiven}
use Rattle.cw_sound.proofs.Expressions.Senses.{IsKept}
use Rattle.cw_sound.proofs.Expressions.Calls.{is_callable, Callable, may_be_called}
use Rattle.cw_sound.proofs.Expressions.Arguments.{call_given}
use Rattle.cw_sound.proofs.Expressions.Rules.{sounds}
use Rattle.cw_sound.proofs.Expressions.Trees.{expression_is_right, condition_is_right, reference_is_right, each_right}

any_called : (k : NameKind) → IsTrue (is_procedure k) → IsTrue (is_callable false k)
any_called (kind.Proc t) h = refl
any_called (kind.ProcParam t) h = refl
any_called kind.ReadByte h = refl
any_called kind.WriteByte h = refl
any_called _ h = no h

pub as_value : (named : Named) (r : Reading) (b : Option RawName) → IsTrue (is_evaluated r) → AsValue named r b
as_value named reading.Argument b h = no h
as_value named _ b h = tt

module _ (named : Named) (numbers : Numbers) (u : SourceUnit) (who : Option ℕ) (sense : Sense) (kept : IsKept named numbers u who sense) where
  pub expression_good : (r : Reading) (e : RawExpr) (f : ℕ) → IsTrue (is_regular e) → IsTrue (is_evaluated r) → FactsStand named numbers u (expression_uses e r) who → NoFault ((expression named e).faults f) → f ≤ 15 → then_levels e ≤ most_levels
      → Good sense (expression named e) (expression_made named numbers e) (then_levels e) f
  expression_good r e f regular wanted facts free small few =
      ((expression_is_right named numbers u who sense kept e regular r facts).valued (as_value named r (expression named e).shape.bare wanted)).good f small few free

  pub condition_good : (r : Reading) (c : RawCond) (f : ℕ) → IsTrue (is_regular_condition c) → FactsStand named numbers u (condition_uses c r) who → NoFault ((condition named c).faults f) → condition_levels c ≤ most_levels → sense.Test (condition_of named numbers c)
  condition_good r c f regular facts free few = (condition_is_right named numbers u who sense kept c regular r facts).good f few free

  pub reference_good : (r : Reading) (x : RawRef) (f : ℕ) → IsTrue (is_regular_reference x) → IsTrue (is_placed r) → FactsStand named numbers u (reference_uses x r) who → NoFault ((reference named x).faults f) → reference_levels x ≤ most_levels → sense.Place (reference_of named numbers x)
  reference_good r x f regular placed facts free few = ((reference_is_right named numbers u who sense kept x regular).located r placed facts).good f few free

  pub call_good : (n : RawName) (es : List RawExpr) → IsTrue (all (map is_regular es)) → FactsStand named numbers u (uses_of n form.Call ++ argument_uses es) who → NoFault (call_faults named (signature_of named n) n (map (expression named) es)) → largest (map then_levels es) ≤ most_levels
      → (c : Callable named numbers u who false n) × EachGiven sense c.params (arguments named numbers n (map (expression_made named numbers) es))
  call_good n es regular facts free few =
      let halves = split named numbers u who (uses_of n form.Call) (argument_uses es) facts in
      let s = use_stands named numbers u who n form.Call halves.0 in
      let c : Callable named numbers u who false n = may_be_called named numbers u who false s.named_kind n s.is_kind s.stands_as (any_called s.named_kind s.fits_use) in
      (c, call_given named numbers u who sense kept false n c (sounds named numbers u who sense kept (each_right named numbers u who sense kept es regular) halves.1) few free)
