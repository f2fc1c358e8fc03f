-- What is known of each tree, at its scale.
use Rattle.std.proofs.Common.{nat_le}
use Rattle.cw_make_expr.specs.Made.{expression_of}
use Rattle.cw_writable.specs.Coded.RangedExpressions.{ranged_value}
use Rattle.cw_sound.proofs.Expressions.Truth.{both, le_true}
use Rattle.cw_sound.proofs.Expressions.Whole.{expression_good, condition_good, reference_good, call_good}
use Rattle.cw_sound.proofs.Ranges.InRanges.{in_ranges}
use Rattle.cw_sound.proofs.Ranges.Given.{all_in_ranges}
use Rattle.cw_sound.proofs.Ranges.RangedTrees.{ranged_kept}
use Rattle.cw_sound.proofs.laws.expressions.expressions.Goals as goal

pub returns-clause-expression : goal.returns-clause-expression
returns-clause-expression c named numbers u who r e f declared regular wanted facts free small few =
    both (nat_le f 15) ((ranged_value u (expression_of named numbers e)).at f) (le_true f 15 small) (expression_good named numbers u who (in_ranges u) (ranged_kept named numbers u who declared) r e f regular wanted facts free small few).at

pub returns-clause-condition : goal.returns-clause-condition
returns-clause-condition c named numbers u who r t f declared regular facts free few = condition_good named numbers u who (in_ranges u) (ranged_kept named numbers u who declared) r t f regular facts free few

pub returns-clause-reference : goal.returns-clause-reference
returns-clause-reference c named numbers u who r x f declared regular placed facts free few = reference_good named numbers u who (in_ranges u) (ranged_kept named numbers u who declared) r x f regular placed facts free few

pub returns-clause-call : goal.returns-clause-call
returns-clause-call c named numbers u who n es declared regular facts free few = all_in_ranges u (call_good named numbers u who (in_ranges u) (ranged_kept named numbers u who declared) n es regular facts free few).1
