use Rattle.std.proofs.Common.{refl}
use Rattle.cw_data.specs.Data.{group_judged, groups_judged}
use Rattle.cw_data.proofs.Each.{goes_on}
use Rattle.cw_data.proofs.data.judge_groups.Goals as goal

pub loop-group-preserved : goal.loop-group-preserved
loop-group-preserved c =
    goes_on group_judged groups_judged (λ x xs. refl) c.args.groups.now c.loop-group.group-index c.group-item.result c.loop-group.first c.judge_group.new.first _
    c.loop-group-test.true c.group-item.is c.judge_group.ensures c.loop-group.invariant
