-- What is known of each tree, at its scale and within its levels.
use Rattle.std.proofs.Common.{nat_le, arith}
use Rattle.cw_make_expr.specs.Made.{expression_of}
use Rattle.cw_sound.proofs.Expressions.Truth.{both, le_true}
use Rattle.cw_sound.proofs.Expressions.Built.{value, built_well}
use Rattle.cw_sound.proofs.Expressions.BuiltTrees.{built_kept}
use Rattle.cw_sound.proofs.Expressions.Given.{all_given}
use Rattle.cw_sound.proofs.Expressions.Trees.{reference_is_right}
use Rattle.cw_sound.proofs.Expressions.Whole.{expression_good, condition_good, reference_good, call_good}
use Rattle.cw_sound.proofs.laws.expressions.built.Goals as goal

pub returns-clause-expression : goal.returns-clause-expression
returns-clause-expression c named numbers u who r e f levels regular wanted facts free small low high =
    let g = expression_good named numbers u who (built_well u who) (built_kept named numbers u who) r e f regular wanted facts free small (omega (arith, low, high)) in
    both (nat_le f 15) ((value u who (expression_of named numbers e)).at f levels) (le_true f 15 small) (g.at.built levels low high)

pub returns-clause-condition : goal.returns-clause-condition
returns-clause-condition c named numbers u who r t f regular facts free few = (condition_good named numbers u who (built_well u who) (built_kept named numbers u who) r t f regular facts free few).built

pub returns-clause-reference : goal.returns-clause-reference
returns-clause-reference c named numbers u who r x f regular placed facts free few = (reference_good named numbers u who (built_well u who) (built_kept named numbers u who) r x f regular placed facts free few).built

pub returns-clause-scale : goal.returns-clause-scale
returns-clause-scale c named numbers u who x regular = (reference_is_right named numbers u who (built_well u who) (built_kept named numbers u who) x regular).scale

pub returns-clause-call : goal.returns-clause-call
returns-clause-call c named numbers u who n es regular facts free few = (all_given u who (call_good named numbers u who (built_well u who) (built_kept named numbers u who) n es regular facts free few).1).built
