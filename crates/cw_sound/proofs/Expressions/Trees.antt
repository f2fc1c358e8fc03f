-- Every tree is right: by induction over all rules of expressions.
use Rattle.std.proofs.Common.{ℕ, List, map, IsTrue, Option}
use Rattle.cw_tree.specs.declared.expression.RawExpr.{RawExpr}
use Rattle.cw_tree.specs.declared.expression.RawRef.{RawRef}
use Rattle.cw_tree.specs.declared.expression.RawCond.{RawCond}
use Rattle.cw_facts.specs.Uses.{Uses, expression_uses, reference_uses, condition_uses}
use Rattle.cw_scope.specs.declared.resolve.Named.{Named}
use Rattle.cw_scale.specs.TypeRules.{Judged, expression, reference, condition}
use Rattle.cw_make_expr.specs.Parts.{Numbers}
use Rattle.cw_make_expr.specs.Made.{Made, Placed, expression_made, reference_made, condition_made}
use Rattle.cw_unit.specs.declared.unit.Unit.{Unit as SourceUnit}
use Rattle.cw_unit.specs.declared.unit.Cond.{Cond}
use Rattle.cw_sound.specs.Expressions.Levels.{then_levels, reference_levels, condition_levels}
use Rattle.cw_sound.specs.Expressions.Regular.{all, is_regular, is_regular_reference, is_regular_condition}
use Rattle.cw_sound.proofs.Expressions.Parts.{Sense, Right, RightTest, RightPlace}
use Rattle.cw_sound.proofs.Expressions.Senses.{IsKept}
use Rattle.cw_sound.proofs.Expressions.Rules.{logic_right, prim_right, term_right, sum_right}
use Rattle.cw_sound.proofs.Expressions.Primaries.{number_right, octal_right, literal_right, string_right, location_right, forced_right, bracket_right, call_right, choice_right}
use Rattle.cw_sound.proofs.Expressions.References.{name_right, one_right, two_right, bare_right}
use Rattle.cw_sound.proofs.Expressions.Conditions.{conjunction_right, condition_right, comparison_right}
use Rattle.cw_sound.proofs.Expressions.Lists.{Each}
use Rattle.cw_sound.proofs.Expressions.Induction as induction

module _ (named : Named) (numbers : Numbers) (u : SourceUnit) (who : Option ℕ) (sense : Sense) (kept : IsKept named numbers u who sense) where
  abbrev Value : Judged → Made → Uses → ℕ → Type 0
  Value = Right named numbers u who sense

  abbrev Test : Judged → Cond → Uses → ℕ → Type 0
  Test = RightTest named numbers u who sense

  abbrev Place : Judged → Placed → Uses → ℕ → Type 0
  Place = RightPlace named numbers u who sense

  rules : induction.RightRules named numbers Value Test Place
  rules = record {
    value_of_place = λ j p x l s. s.sound;
    logic_right = logic_right named numbers u who sense kept;
    prim_right = prim_right named numbers u who sense kept;
    term_right = term_right named numbers u who sense kept;
    sum_right = sum_right named numbers u who sense kept;
    number_right = number_right named numbers u who sense kept;
    octal_right = octal_right named numbers u who sense kept;
    literal_right = literal_right named numbers u who sense kept;
    string_right = string_right named numbers u who sense kept;
    location_right = location_right named numbers u who sense kept;
    forced_right = forced_right named numbers u who sense kept;
    bracket_right = bracket_right named numbers u who sense kept;
    call_right = call_right named numbers u who sense kept;
    choice_right = choice_right named numbers u who sense kept;
    name_right = name_right named numbers u who sense kept;
    one_right = one_right named numbers u who sense kept;
    two_right = two_right named numbers u who sense kept;
    bare_right = bare_right named numbers u who sense kept;
    conjunction_right = conjunction_right named numbers u who sense kept;
    condition_right = condition_right named numbers u who sense kept;
    comparison_right = comparison_right named numbers u who sense kept;
  }

  pub expression_is_right : (x : RawExpr) → IsTrue (is_regular x) → Value (expression named x) (expression_made named numbers x) (expression_uses x) (then_levels x)
  expression_is_right = induction.expression_is_right named numbers Value Test Place rules

  pub reference_is_right : (x : RawRef) → IsTrue (is_regular_reference x) → Place (reference named x) (reference_made named numbers x) (reference_uses x) (reference_levels x)
  reference_is_right = induction.reference_is_right named numbers Value Test Place rules

  pub condition_is_right : (x : RawCond) → IsTrue (is_regular_condition x) → Test (condition named x) (condition_made named numbers x) (condition_uses x) (condition_levels x)
  condition_is_right = induction.condition_is_right named numbers Value Test Place rules

  pub each_right : (es : List RawExpr) → IsTrue (all (map is_regular es))
      → Each Made Value (map (expression named) es) (map (expression_made named numbers) es) (map expression_uses es) (map then_levels es)
  each_right = induction.each_right named numbers Value Test Place rules
