use Rattle.std.proofs.Common.{refl}
use Rattle.cw_judge.specs.Judged.{communicator_judged, communicators_judged}
use Rattle.cw_judge.proofs.Joining.{one_more}
use Rattle.cw_judge.proofs.text.judge_communicators.Goals as goal

pub loop-list-preserved : goal.loop-list-preserved
loop-list-preserved c =
    one_more (communicators_judged c.args.by.named.now c.args.by.sites.now c.args.by.absolute.now) (communicator_judged c.args.by.named.now c.args.by.sites.now
    c.args.by.absolute.now) (λ x xs o. refl) c.args.lists.now c.loop-list.list-index c.list-item.result
    c.loop-list.first c.judge_communicator.new.first _ c.loop-list-test.true c.list-item.is c.judge_communicator.ensures c.loop-list.invariant
