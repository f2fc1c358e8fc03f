use Rattle.std.proofs.Common.{ap, ◌∙◌}
use Rattle.std.proofs.lemmas.Result.{IfOk-weaker}
use Rattle.cw_make_stmt.specs.Made.{row, statement_of}
use Rattle.cw_make_stmt.proofs.Arms.{one_more_made, none_more_made, statement_made, simple_form_made, if_made, if_else_made, for_made, empty_made, assign_made}
use Rattle.cw_make_stmt.proofs.Arms.{assign_bits_made, goto_made, goto_switch_made, call_made, answer_made, inner_block_made, block_made}
use Rattle.cw_make_stmt.proofs.statements.+made.Goals as goal

pub make_statement-returns : goal.make_statement-returns
make_statement-returns t c =
    IfOk-weaker c.marked.result _ _ (λ z h. statement_made c.args.text.named.now c.args.text.numbers.now c.args.s.now c.get.result.now c.as_slice.result.now c.in_ok-form.form z
    c.get.ensures c.as_slice.ensures c.in_ok-form.ensures h) c.marked.ensures

pub make_form-returns-in-Simple : goal.make_form-returns-in-Simple
make_form-returns-in-Simple t c =
    IfOk-weaker c.make_simple.result _ _ (λ z h. simple_form_made c.args.text.named.now c.args.text.numbers.now c.args.form.now c.in-Simple.s c.get.result.now z c.in-Simple.is
    c.get.ensures h) c.make_simple.ensures

pub make_form-returns-in_ok-other-in-None : goal.make_form-returns-in_ok-other-in-None
make_form-returns-in_ok-other-in-None t c =
    IfOk-weaker c.conditional.result _ _ (λ z h. if_made c.args.text.named.now c.args.text.numbers.now c.args.form.now c.in-If.at c.in-If.test c.get-in-If.result.now c.in-If.labels
    c.as_slice.result.now
    c.in-If.first c.get-in-If-2.result.now c.in-If.second c.in_ok-test-in-If.test c.in_ok-arm-in-If.arm c.in_ok-arm-in-If-2.arm c.in_ok-other-in-None.other c.line_of.result z
    c.in-If.is c.in-None.is c.get-in-If.ensures c.as_slice.ensures c.get-in-If-2.ensures c.in_ok-test-in-If.ensures c.in_ok-arm-in-If.ensures c.in_ok-arm-in-If-2.ensures
    (c.in_ok-other-in-None.ensures ∙ c.row.ensures ∙ ap row c.new.ensures) c.line_of.ensures h) c.conditional.ensures

pub make_form-returns-in_ok-other-in-Some : goal.make_form-returns-in_ok-other-in-Some
make_form-returns-in_ok-other-in-Some t c =
    IfOk-weaker c.conditional-in-Some.result _ _ (λ z h. if_else_made c.args.text.named.now c.args.text.numbers.now c.args.form.now c.in-If.at c.in-If.test c.get-in-If.result.now
    c.in-If.labels c.as_slice.result.now
    c.in-If.first c.get-in-If-2.result.now c.in-If.second c.in-Some.s c.get-in-Some.result.now c.in_ok-test-in-If.test c.in_ok-arm-in-If.arm c.in_ok-arm-in-If-2.arm
    c.in_ok-other-in-Some.other c.line_of-in-Some.result z
    c.in-If.is c.in-Some.is c.get-in-If.ensures c.as_slice.ensures c.get-in-If-2.ensures c.get-in-Some.ensures c.in_ok-test-in-If.ensures c.in_ok-arm-in-If.ensures
    c.in_ok-arm-in-If-2.ensures
    c.in_ok-other-in-Some.ensures c.line_of-in-Some.ensures h) c.conditional-in-Some.ensures

pub make_form-returns-in_ok-body-in-For : goal.make_form-returns-in_ok-body-in-For
make_form-returns-in_ok-body-in-For t c =
    IfOk-weaker c.repetition.result _ _ (λ z h. for_made c.args.text.named.now c.args.text.numbers.now c.args.form.now c.in-For.at c.in-For.variable c.get-in-For.result.now
    c.in-For.elems c.as_slice-in-For.result.now
    c.in-For.body c.get-in-For-2.result.now c.item_here-item.result c.line_of-in-For.result c.in_ok-variable-in-For.variable c.in_ok-elements-in-For.elements
    c.in_ok-body-in-For.body z
    c.in-For.is c.get-in-For.ensures c.as_slice-in-For.ensures c.get-in-For-2.ensures c.item_here-item.ensures c.in_ok-variable-in-For.ensures c.in_ok-elements-in-For.ensures
    c.in_ok-body-in-For.ensures c.line_of-in-For.ensures h) c.repetition.ensures

pub make_simple-returns-in-Empty : goal.make_simple-returns-in-Empty
make_simple-returns-in-Empty t c =
    IfOk-weaker c.new-in-Empty.result _ _ (λ z h. empty_made c.args.text.named.now c.args.text.numbers.now c.args.s.now z c.in-Empty.is (h ∙ c.row.ensures ∙ ap row c.new.ensures))
    c.new-in-Empty.ensures

pub make_simple-returns-in-Assign : goal.make_simple-returns-in-Assign
make_simple-returns-in-Assign t c =
    IfOk-weaker c.assignment.result _ _ (λ z h. assign_made c.args.text.named.now c.args.text.numbers.now c.args.s.now c.in-Assign.r c.get.result.now c.in-Assign.e
    c.get-in-Assign.result.now z
    c.in-Assign.is c.get.ensures c.get-in-Assign.ensures h) c.assignment.ensures

pub make_simple-returns-in-AssignBits : goal.make_simple-returns-in-AssignBits
make_simple-returns-in-AssignBits t c =
    IfOk-weaker c.bits_assignment.result _ _ (λ z h. assign_bits_made c.args.text.named.now c.args.text.numbers.now c.args.s.now c.in-AssignBits.bits
    c.get-in-AssignBits.result.now c.in-AssignBits.r c.get-in-AssignBits-2.result.now c.in-AssignBits.e c.get-in-AssignBits-3.result.now z
    c.in-AssignBits.is c.get-in-AssignBits.ensures c.get-in-AssignBits-2.ensures c.get-in-AssignBits-3.ensures h) c.bits_assignment.ensures

pub make_simple-returns-in-Goto : goal.make_simple-returns-in-Goto
make_simple-returns-in-Goto t c =
    IfOk-weaker c.new-in-Goto.result _ _ (λ z h. goto_made c.args.text.named.now c.args.text.numbers.now c.args.s.now c.in-Goto.at c.in-Goto.name c.jump.result z c.in-Goto.is
    (rw c.get-in-Goto.ensures at c.jump.ensures) h) c.new-in-Goto.ensures

pub make_simple-returns-in-GotoSwitch : goal.make_simple-returns-in-GotoSwitch
make_simple-returns-in-GotoSwitch t c =
    IfOk-weaker c.switch_jump.result _ _ (λ z h. goto_switch_made c.args.text.named.now c.args.text.numbers.now c.args.s.now c.in-GotoSwitch.at c.in-GotoSwitch.name
    c.in-GotoSwitch.index
    c.get-in-GotoSwitch-2.result.now z
    c.in-GotoSwitch.is c.get-in-GotoSwitch-2.ensures h) (rw c.get-in-GotoSwitch.ensures at c.switch_jump.ensures)

pub make_simple-returns-in-Call : goal.make_simple-returns-in-Call
make_simple-returns-in-Call t c =
    IfOk-weaker c.call_statement.result _ _ (λ z h. call_made c.args.text.named.now c.args.text.numbers.now c.args.s.now c.in-Call.name c.in-Call.arguments c.as_slice.result.now z
    c.in-Call.is c.as_slice.ensures h) (rw c.get-in-Call.ensures at c.call_statement.ensures)

pub make_simple-returns-in-Answer : goal.make_simple-returns-in-Answer
make_simple-returns-in-Answer t c =
    IfOk-weaker c.answer.result _ _ (λ z h. answer_made c.args.text.named.now c.args.text.numbers.now c.args.s.now c.in-Answer.at c.in-Answer.e c.get-in-Answer.result.now z
    c.in-Answer.is c.get-in-Answer.ensures h)
    c.answer.ensures

pub make_simple-returns-in_ok-statements-in-Block : goal.make_simple-returns-in_ok-statements-in-Block
make_simple-returns-in_ok-statements-in-Block t c =
    IfOk-weaker c.new-in-Block.result _ _ (λ z h. inner_block_made c.args.text.named.now c.args.text.numbers.now c.args.s.now c.in-Block.block c.get-in-Block.result.now
    c.in_ok-statements-in-Block.statements z
    c.in-Block.is c.get-in-Block.ensures c.in_ok-statements-in-Block.ensures h) c.new-in-Block.ensures

pub make_block-loop-statement-preserved : goal.make_block-loop-statement-preserved
make_block-loop-statement-preserved t c =
    one_more_made (statement_of c.args.text.named.now c.args.text.numbers.now) c.as_slice-statement-items.result.now c.loop-statement.statement-index c.statement-item.result
    c.in_ok-next.next c.into_inner.result
    c.loop-statement.all c.push.new.self _ c.loop-statement-test.true c.statement-item.is c.in_ok-next.ensures c.into_inner.ensures c.in_ok-push.ensures.ok
    c.loop-statement.invariant

pub make_block-returns : goal.make_block-returns
make_block-returns t c =
    block_made c.args.text.named.now c.args.text.numbers.now c.args.block.now c.as_slice-statement-items.result.now c.loop-statement.all c.row.result
    c.as_slice-statement-items.ensures
    (none_more_made (statement_of c.args.text.named.now c.args.text.numbers.now) c.as_slice-statement-items.result.now c.loop-statement.statement-index c.loop-statement.all _
    c.loop-statement-test.false c.loop-statement.invariant)
    c.row.ensures
