use Rattle.std.proofs.Common.{◌∙◌}
use Rattle.cw_make_stmt.proofs.Arms.{one_made, while_made, step_made}
use Rattle.cw_make_stmt.proofs.parts.felem_of.Goals as goal

pub returns-in_ok-value-in-One : goal.returns-in_ok-value-in-One
returns-in_ok-value-in-One c =
    one_made c.args.text.named.now c.args.text.numbers.now c.args.element.now c.in-One.e c.get.result.now c.into_inner.result c.in-One.is c.get.ensures
    (c.into_inner.ensures ∙ c.in_ok-value-in-One.ensures)

pub returns-in_ok-test-in-While : goal.returns-in_ok-test-in-While
returns-in_ok-test-in-While c =
    while_made c.args.text.named.now c.args.text.numbers.now c.args.element.now c.in-While.e c.get-in-While.result.now c.in-While.test c.get-in-While-2.result.now
    c.in_ok-value-in-While.value c.into_inner-in-While.result c.into_inner-in-While-2.result
    c.in-While.is c.get-in-While.ensures c.get-in-While-2.ensures c.in_ok-value-in-While.ensures c.into_inner-in-While.ensures
    (c.into_inner-in-While-2.ensures ∙ c.in_ok-test-in-While.ensures)

pub returns-in_ok-last-in-Step : goal.returns-in_ok-last-in-Step
returns-in_ok-last-in-Step c =
    step_made c.args.text.named.now c.args.text.numbers.now c.args.element.now c.in-Step.first c.get-in-Step.result.now c.in-Step.step c.get-in-Step-2.result.now c.in-Step.last
    c.get-in-Step-3.result.now
    c.in_ok-first-in-Step.first c.into_inner-in-Step.result c.in_ok-step-in-Step.step c.into_inner-in-Step-2.result c.into_inner-in-Step-3.result
    c.in-Step.is c.get-in-Step.ensures c.get-in-Step-2.ensures c.get-in-Step-3.ensures c.in_ok-first-in-Step.ensures c.into_inner-in-Step.ensures
    c.in_ok-step-in-Step.ensures c.into_inner-in-Step-2.ensures (c.into_inner-in-Step-3.ensures ∙ c.in_ok-last-in-Step.ensures)
