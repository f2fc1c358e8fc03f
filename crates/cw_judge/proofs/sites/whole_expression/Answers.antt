use Rattle.cw_scale.specs.TypeRules.{expression}
use Rattle.cw_judge.specs.Operators.{expression_operators, few_operators}
use Rattle.cw_judge.proofs.Joining.{one_then_other}
use Rattle.cw_judge.proofs.sites.whole_expression.Goals as goal

pub returns : goal.returns
returns c =
    one_then_other ((expression c.args.named.now c.args.e.now).faults c.args.scale) (few_operators (expression_operators c.args.e.now))
    c.args.first.now c.judge_expression.new.first c.count_expression.new.first c.judge_expression.ensures c.count_expression.ensures
