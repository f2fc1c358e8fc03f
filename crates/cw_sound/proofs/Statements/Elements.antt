-- What is so of the three expressions of an element of a FOR that steps, where it is so of the element.
use Rattle.std.proofs.Common.{ℕ, ◌++◌, ◌&&◌, IsTrue, Option}
use Rattle.cw_tree.specs.declared.expression.RawExpr.{RawExpr}
use Rattle.cw_facts.specs.declared.fact.Reading.TheVariants as reading
use Rattle.cw_facts.specs.Uses.{expression_uses}
use Rattle.cw_scope.specs.declared.resolve.Named.{Named}
use Rattle.cw_scale.specs.Faults.{both}
use Rattle.cw_judge.specs.Judged.{expression_judged}
use Rattle.cw_make_expr.specs.Parts.{Numbers}
use Rattle.cw_unit.specs.declared.unit.Unit.{Unit as SourceUnit}
use Rattle.cw_sound.specs.Uses.Stands.{FactsStand}
use Rattle.cw_sound.specs.Expressions.Regular.{is_regular}
use Rattle.cw_sound.proofs.Expressions.Truth.{parts}
use Rattle.cw_sound.proofs.Expressions.Judging.{NoFault, keeps_both, both_free}
use Rattle.cw_sound.proofs.Expressions.Standing.{split}
use Rattle.cw_sound.proofs.Statements.Keeping.{whole_keeps}

module _ (named : Named) (numbers : Numbers) (u : SourceUnit) (who : Option ℕ) where
  -- an expression that is regular, whose names stand for right things, and whose types have no fault
  pub record Part (e : RawExpr) (f : ℕ) : Type 0 where
    pub regular : IsTrue (is_regular e)
    pub facts : FactsStand named numbers u (expression_uses e reading.Value) who
    pub free : NoFault (expression_judged named f e)

  pub step_parts : (a b d : RawExpr) (f : ℕ) → IsTrue (is_regular a && (is_regular b && is_regular d)) → FactsStand named numbers u (expression_uses a reading.Value ++ (expression_uses b reading.Value ++ expression_uses d reading.Value)) who
      → NoFault (both (expression_judged named f a) (both (expression_judged named f b) (expression_judged named f d))) → Part a f × Part b f × Part d f
  step_parts a b d f regular facts free =
      let ok = parts (is_regular a) (is_regular b && is_regular d) regular in
      let oks = parts (is_regular b) (is_regular d) ok.1 in
      let first = split named numbers u who (expression_uses a reading.Value) (expression_uses b reading.Value ++ expression_uses d reading.Value) facts in
      let rest = split named numbers u who (expression_uses b reading.Value) (expression_uses d reading.Value) first.1 in
      let calm = both_free (expression_judged named f a) (both (expression_judged named f b) (expression_judged named f d)) (keeps_both (whole_keeps named f b) (whole_keeps named f d)) free in
      let calms = both_free (expression_judged named f b) (expression_judged named f d) (whole_keeps named f d) calm.1 in
      (record { regular = ok.0; facts = first.0; free = calm.0 }, record { regular = oks.0; facts = rest.0; free = calms.0 }, record { regular = oks.1; facts = rest.1; free = calms.1 })
