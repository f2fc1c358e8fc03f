use Rattle.std.proofs.Common.{refl}
use Rattle.cw_judge.specs.Judged.{felem_judged, felems_judged}
use Rattle.cw_judge.proofs.Joining.{one_more, no_more}
use Rattle.cw_judge.proofs.statements.judge_felems.Goals as goal

pub loop-element-preserved : goal.loop-element-preserved
loop-element-preserved c =
    one_more (felems_judged c.args.named.now c.args.scale) (felem_judged c.args.named.now c.args.scale) (λ x xs o. refl) c.args.elements.now c.loop-element.element-index
    c.element-item.result
    c.loop-element.first c.judge_felem.new.first _ c.loop-element-test.true c.element-item.is c.judge_felem.ensures c.loop-element.invariant

pub returns : goal.returns
returns c =
    no_more (felems_judged c.args.named.now c.args.scale) (felem_judged c.args.named.now c.args.scale) (λ o. refl) c.args.elements.now c.loop-element.element-index
    c.loop-element.first _
    c.loop-element-test.false c.loop-element.invariant
