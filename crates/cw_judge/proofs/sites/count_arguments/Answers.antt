use Rattle.std.proofs.Common.{refl}
use Rattle.cw_judge.specs.Judged.{arguments_counted}
use Rattle.cw_judge.specs.Operators.{expression_operators, few_operators}
use Rattle.cw_judge.proofs.Joining.{one_more, no_more}
use Rattle.cw_judge.proofs.sites.count_arguments.Goals as goal

pub loop-argument-preserved : goal.loop-argument-preserved
loop-argument-preserved c =
    one_more arguments_counted (λ e. few_operators (expression_operators e)) (λ x xs o. refl) c.args.arguments.now c.loop-argument.argument-index c.argument-item.result
    c.loop-argument.first c.count_expression.new.first _ c.loop-argument-test.true c.argument-item.is c.count_expression.ensures c.loop-argument.invariant

pub returns : goal.returns
returns c =
    no_more arguments_counted (λ e. few_operators (expression_operators e)) (λ o. refl) c.args.arguments.now c.loop-argument.argument-index c.loop-argument.first _
    c.loop-argument-test.false c.loop-argument.invariant
