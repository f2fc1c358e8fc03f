use Rattle.cw_scale.specs.TypeRules.{reference}
use Rattle.cw_judge.specs.Operators.{reference_operators, few_each}
use Rattle.cw_judge.proofs.Joining.{one_then_other}
use Rattle.cw_judge.proofs.sites.whole_reference.Goals as goal

pub returns : goal.returns
returns c =
    one_then_other ((reference c.args.named.now c.args.r.now).faults 0) (few_each (reference_operators c.args.r.now))
    c.args.first.now c.judge_reference.new.first c.count_indexes.new.first c.judge_reference.ensures c.count_indexes.ensures
