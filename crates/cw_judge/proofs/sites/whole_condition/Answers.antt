use Rattle.cw_scale.specs.TypeRules.{condition}
use Rattle.cw_judge.specs.Operators.{condition_operators, few_operators}
use Rattle.cw_judge.proofs.Joining.{one_then_other}
use Rattle.cw_judge.proofs.sites.whole_condition.Goals as goal

pub returns : goal.returns
returns c =
    one_then_other ((condition c.args.named.now c.args.c.now).faults 0) (few_operators (condition_operators c.args.c.now))
    c.args.first.now c.judge_condition.new.first c.count_condition.new.first c.judge_condition.ensures c.count_condition.ensures
