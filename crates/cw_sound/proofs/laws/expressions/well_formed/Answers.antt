-- What is known of each tree.
use Rattle.std.proofs.Common.{false, IsTrue, Option, List, sym, subst}
use Rattle.cw_make_expr.specs.Made.{target}
use Rattle.cw_safety.specs.Kinds.{Kind}
use Rattle.cw_safety.specs.WellFormed as formed
use Rattle.cw_built.specs.Built.{alone, at_work}
use Rattle.cw_sound.proofs.Expressions.Built.{built_well}
use Rattle.cw_sound.proofs.Expressions.BuiltTrees.{built_kept}
use Rattle.cw_sound.proofs.Expressions.Given.{all_given}
use Rattle.cw_sound.proofs.Expressions.Whole.{expression_good, condition_good, reference_good, call_good}
use Rattle.cw_sound.proofs.laws.expressions.well_formed.Goals as goal

pub returns-clause-expression : goal.returns-clause-expression
returns-clause-expression c named numbers u who r e f regular wanted facts free small few = (expression_good named numbers u who (built_well u who) (built_kept named numbers u who) r e f regular wanted facts free small few).at.formed

pub returns-clause-condition : goal.returns-clause-condition
returns-clause-condition c named numbers u who r t f regular facts free few = (condition_good named numbers u who (built_well u who) (built_kept named numbers u who) r t f regular facts free few).formed

pub returns-clause-reference : goal.returns-clause-reference
returns-clause-reference c named numbers u who r x f regular placed facts free few = (reference_good named numbers u who (built_well u who) (built_kept named numbers u who) r x f regular placed facts free few).formed

pub returns-clause-call : goal.returns-clause-call
returns-clause-call c named numbers u who n es regular facts free few =
    let g = call_good named numbers u who (built_well u who) (built_kept named numbers u who) n es regular facts free few in
    subst (λ (ks : Option (List Kind)). IsTrue (formed.is_call (alone u) 0 (at_work who) false (target named numbers n) ks)) (sym (all_given u who g.1).kinds) g.0.call
