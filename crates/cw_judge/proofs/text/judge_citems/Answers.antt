use Rattle.std.proofs.Common.{refl}
use Rattle.cw_judge.specs.Judged.{citem_judged, citems_judged}
use Rattle.cw_judge.proofs.Joining.{one_more}
use Rattle.cw_judge.proofs.text.judge_citems.Goals as goal

pub loop-item-preserved : goal.loop-item-preserved
loop-item-preserved c =
    one_more (citems_judged c.args.by.named.now c.args.by.sites.now c.args.by.absolute.now) (citem_judged c.args.by.named.now c.args.by.sites.now c.args.by.absolute.now)
    (λ x xs o. refl) c.args.items.now c.loop-item.item-index c.item-item.result
    c.loop-item.first c.judge_citem.new.first _ c.loop-item-test.true c.item-item.is c.judge_citem.ensures c.loop-item.invariant
