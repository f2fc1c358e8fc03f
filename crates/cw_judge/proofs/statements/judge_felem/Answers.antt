use Rattle.cw_judge.proofs.Forms.{one_judged, while_judged, step_judged}
use Rattle.cw_judge.proofs.statements.judge_felem.Goals as goal

pub returns-in-One : goal.returns-in-One
returns-in-One c =
    one_judged c.args.named.now c.args.scale c.args.element.now c.in-One.e c.get.result.now c.args.first.now c.whole_expression.new.first c.in-One.is c.get.ensures
    c.whole_expression.ensures

pub returns-in-While : goal.returns-in-While
returns-in-While c =
    while_judged c.args.named.now c.args.scale c.args.element.now c.in-While.e c.get-in-While.result.now c.in-While.test c.get-in-While-2.result.now c.args.first.now
    c.whole_expression-in-While.new.first
    c.whole_condition.new.first c.in-While.is c.get-in-While.ensures c.get-in-While-2.ensures c.whole_expression-in-While.ensures c.whole_condition.ensures

pub returns-in-Step : goal.returns-in-Step
returns-in-Step c =
    step_judged c.args.named.now c.args.scale c.args.element.now c.in-Step.start c.get-in-Step.result.now c.in-Step.step c.get-in-Step-2.result.now c.in-Step.last
    c.get-in-Step-3.result.now
    c.args.first.now c.whole_expression-in-Step.new.first c.whole_expression-in-Step-2.new.first c.whole_expression-in-Step-3.new.first
    c.in-Step.is c.get-in-Step.ensures c.get-in-Step-2.ensures c.get-in-Step-3.ensures c.whole_expression-in-Step.ensures c.whole_expression-in-Step-2.ensures
    c.whole_expression-in-Step-3.ensures
