-- Trees are right in that their numbers are in range.
use Rattle.std.proofs.Common.{ℕ, Bool, IsTrue, ◌&&◌, nat_le}
use Rattle.cw_unit.specs.declared.unit.Unit.{Unit as SourceUnit}
use Rattle.cw_unit.specs.declared.unit.Expr.{Expr}
use Rattle.cw_writable.specs.Coded.RangedExpressions.{RangedValue, in_range, ranged_value, is_ranged_condition, is_ranged_argument, ranged_reference}
use Rattle.cw_sound.proofs.Expressions.Truth.{both, le_true}
use Rattle.cw_sound.proofs.Expressions.Parts.{Sense, Ready}

module _ (u : SourceUnit) where
  abbrev pub value : Expr → RangedValue
  value = ranged_value u

  abbrev pub in_ranges : Sense
  in_ranges = record {
    natural = λ e. (value e).natural;
    operand = λ e. (value e).operand;
    At = λ l f e. IsTrue ((value e).at f);
    Test = λ c. IsTrue (is_ranged_condition u c);
    scale = λ r. (ranged_reference u r).scale;
    Place = λ r. IsTrue (ranged_reference u r).good;
    Handed = λ named numbers r b a. IsTrue (is_ranged_argument u a);
    Given = λ p a. IsTrue (is_ranged_argument u a);
  }

  pub ready_range : (e : Expr) → Ready in_ranges e → IsTrue (in_range (value e) (value e).operand)
  ready_range e h = both (nat_le (value e).operand 15) ((value e).at (value e).operand) (le_true (value e).operand 15 h.small) h.at
