use Rattle.cw_judge.specs.Declarations.{declared_judged, common_base_judged, common_overlaid_judged}
use Rattle.cw_judge.proofs.Joining.{one_then_other}
use Rattle.cw_judge.proofs.declared.judge_common_overlaid.Goals as goal

pub returns : goal.returns
unfolding common_overlaid_judged
returns c =
    one_then_other (common_base_judged c.args.named.now c.args.absolute.now c.args.base.now) (declared_judged c.args.sites.now c.args.items.now)
    c.args.first.now c.judge_common_base.new.first c.judge_declared.new.first c.judge_common_base.ensures c.judge_declared.ensures
