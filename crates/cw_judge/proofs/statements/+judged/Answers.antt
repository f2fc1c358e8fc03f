use Rattle.std.proofs.Common.{List, map, refl}
use Rattle.cw_tree.specs.declared.statement.RawDecl.{RawDecl}
use Rattle.cw_tree.specs.declared.statement.RawStmt.{RawStmt}
use Rattle.cw_judge.specs.Judged.{all_judged, declaration_judged, statement_judged}
use Rattle.cw_judge.proofs.Joining.{one_more}
use Rattle.cw_judge.proofs.Forms.{simple_form, if_form, if_else_form, for_form, assign, assign_bits, goto_switch, call, answer, inner_block, statement, declared_data, overlay, switch, inner_procedure, procedure, block}
use Rattle.cw_judge.proofs.statements.+judged.Goals as goal

pub judge_statement-returns : goal.judge_statement-returns
judge_statement-returns t c =
    statement c.args.named.now c.args.sites.now c.args.s.now c.get.result.now c.args.first.now c.judge_form.new.first c.get.ensures c.judge_form.ensures

pub judge_form-returns-in-Simple : goal.judge_form-returns-in-Simple
judge_form-returns-in-Simple t c =
    simple_form c.args.named.now c.args.sites.now c.args.form.now c.in-Simple.s c.get.result.now c.args.first.now c.judge_simple.new.first c.in-Simple.is c.get.ensures
    c.judge_simple.ensures

pub judge_form-returns-in-None : goal.judge_form-returns-in-None
judge_form-returns-in-None t c =
    if_form c.args.named.now c.args.sites.now c.args.form.now c.in-If.at c.in-If.test c.get-in-If.result.now c.in-If.labels c.in-If.arm c.get-in-If-2.result.now c.in-If.second
    c.args.first.now c.whole_condition.new.first c.judge_simple-in-If.new.first
    c.in-If.is c.get-in-If.ensures c.get-in-If-2.ensures c.in-None.is c.whole_condition.ensures c.judge_simple-in-If.ensures

pub judge_form-returns-in-Some : goal.judge_form-returns-in-Some
judge_form-returns-in-Some t c =
    if_else_form c.args.named.now c.args.sites.now c.args.form.now c.in-If.at c.in-If.test c.get-in-If.result.now c.in-If.labels c.in-If.arm c.get-in-If-2.result.now
    c.in-If.second c.in-Some.s c.get-in-Some.result.now
    c.args.first.now c.whole_condition.new.first c.judge_simple-in-If.new.first c.judge_statement.new.first
    c.in-If.is c.get-in-If.ensures c.get-in-If-2.ensures c.in-Some.is c.get-in-Some.ensures c.whole_condition.ensures c.judge_simple-in-If.ensures c.judge_statement.ensures

pub judge_form-returns-in-For : goal.judge_form-returns-in-For
judge_form-returns-in-For t c =
    for_form c.args.named.now c.args.sites.now c.args.form.now c.in-For.at c.in-For.variable c.get-variable.result.now c.in-For.elems c.as_slice.result.now c.in-For.body
    c.get-in-For.result.now c.scale_of.result
    c.args.first.now c.whole_reference.new.first c.judge_felems.new.first c.judge_statement-in-For.new.first
    c.in-For.is c.get-variable.ensures c.as_slice.ensures c.get-in-For.ensures c.scale_of.ensures c.whole_reference.ensures c.judge_felems.ensures c.judge_statement-in-For.ensures

pub judge_simple-returns-in-Assign : goal.judge_simple-returns-in-Assign
judge_simple-returns-in-Assign t c =
    assign c.args.named.now c.args.sites.now c.args.s.now c.in-Assign.r c.get-r.result.now c.in-Assign.e c.get.result.now c.scale_of.result c.args.first.now
    c.whole_reference.new.first c.whole_expression.new.first
    c.in-Assign.is c.get-r.ensures c.get.ensures c.scale_of.ensures c.whole_reference.ensures c.whole_expression.ensures

pub judge_simple-returns-in-AssignBits : goal.judge_simple-returns-in-AssignBits
judge_simple-returns-in-AssignBits t c =
    assign_bits c.args.named.now c.args.sites.now c.args.s.now c.in-AssignBits.bits c.get-in-AssignBits.result.now c.in-AssignBits.r c.get-in-AssignBits-2.result.now
    c.in-AssignBits.e c.get-in-AssignBits-3.result.now
    c.args.first.now c.judge_bits.new.first c.whole_reference-in-AssignBits.new.first c.whole_expression-in-AssignBits.new.first
    c.in-AssignBits.is c.get-in-AssignBits.ensures c.get-in-AssignBits-2.ensures c.get-in-AssignBits-3.ensures c.judge_bits.ensures c.whole_reference-in-AssignBits.ensures
    c.whole_expression-in-AssignBits.ensures

pub judge_simple-returns-in-GotoSwitch : goal.judge_simple-returns-in-GotoSwitch
judge_simple-returns-in-GotoSwitch t c =
    goto_switch c.args.named.now c.args.sites.now c.args.s.now c.in-GotoSwitch.field-0 c.in-GotoSwitch.field-1 c.in-GotoSwitch.index c.get-in-GotoSwitch.result.now c.args.first.now
    c.whole_expression-in-GotoSwitch.new.first c.in-GotoSwitch.is c.get-in-GotoSwitch.ensures c.whole_expression-in-GotoSwitch.ensures

pub judge_simple-returns-in-Call : goal.judge_simple-returns-in-Call
judge_simple-returns-in-Call t c =
    call c.args.named.now c.args.sites.now c.args.s.now c.in-Call.name c.in-Call.arguments c.as_slice-arguments.result.now c.args.first.now c.judge_call.new.first
    c.count_arguments.new.first
    c.in-Call.is c.as_slice-arguments.ensures (rw c.get-in-Call.ensures at c.judge_call.ensures) c.count_arguments.ensures

pub judge_simple-returns-in-Answer : goal.judge_simple-returns-in-Answer
judge_simple-returns-in-Answer t c =
    answer c.args.named.now c.args.sites.now c.args.s.now c.in-Answer.at c.in-Answer.e c.get-in-Answer.result.now c.answer_name.result c.name_fraction-scale.result c.args.first.now
    c.whole_expression-in-Answer.new.first c.in-Answer.is c.get-in-Answer.ensures c.answer_name.ensures c.name_fraction-scale.ensures c.whole_expression-in-Answer.ensures

pub judge_simple-returns-in-Block : goal.judge_simple-returns-in-Block
judge_simple-returns-in-Block t c =
    inner_block c.args.named.now c.args.sites.now c.args.s.now c.in-Block.block c.get-in-Block.result.now c.args.first.now c.judge_block.new.first c.in-Block.is
    c.get-in-Block.ensures c.judge_block.ensures

pub judge_block-loop-declaration-preserved : goal.judge_block-loop-declaration-preserved
judge_block-loop-declaration-preserved t c =
    one_more (λ (l : List RawDecl). all_judged (map (declaration_judged c.args.named.now c.args.sites.now) l)) (declaration_judged c.args.named.now c.args.sites.now)
    (λ x xs o. refl)
    c.as_slice-declaration-items.result.now c.loop-declaration.declaration-index c.declaration-item.result c.loop-declaration.first c.judge_declaration.new.first _
    c.loop-declaration-test.true c.declaration-item.is c.judge_declaration.ensures c.loop-declaration.invariant

pub judge_block-loop-statement-preserved : goal.judge_block-loop-statement-preserved
judge_block-loop-statement-preserved t c =
    one_more (λ (l : List RawStmt). all_judged (map (statement_judged c.args.named.now c.args.sites.now) l)) (statement_judged c.args.named.now c.args.sites.now) (λ x xs o. refl)
    c.as_slice-statement-items.result.now c.loop-statement.statement-index c.statement-item.result c.loop-statement.first c.judge_statement.new.first _
    c.loop-statement-test.true c.statement-item.is c.judge_statement.ensures c.loop-statement.invariant

pub judge_block-returns : goal.judge_block-returns
judge_block-returns t c =
    block c.args.named.now c.args.sites.now c.args.block.now c.as_slice-declaration-items.result.now c.as_slice-statement-items.result.now c.loop-declaration.declaration-index
    c.loop-statement.statement-index
    c.args.first.now c.loop-declaration.first c.loop-statement.first
    c.as_slice-declaration-items.ensures c.as_slice-statement-items.ensures c.loop-declaration-test.false c.loop-statement-test.false c.loop-declaration.invariant
    c.loop-statement.invariant

pub judge_declaration-returns-in-Data : goal.judge_declaration-returns-in-Data
judge_declaration-returns-in-Data t c =
    declared_data c.args.named.now c.args.sites.now c.args.d.now c.in-Data.items c.args.first.now c.judge_declared.new.first c.in-Data.is c.judge_declared.ensures

pub judge_declaration-returns-in-Overlay : goal.judge_declaration-returns-in-Overlay
judge_declaration-returns-in-Overlay t c =
    overlay c.args.named.now c.args.sites.now c.args.d.now c.in-Overlay.field-0 c.in-Overlay.base c.in-Overlay.items c.args.first.now c.judge_overlaid.new.first c.in-Overlay.is
    c.judge_overlaid.ensures

pub judge_declaration-returns-in-Switch : goal.judge_declaration-returns-in-Switch
judge_declaration-returns-in-Switch t c =
    switch c.args.named.now c.args.sites.now c.args.d.now c.in-Switch.field-0 c.in-Switch.name c.in-Switch.labels c.as_slice.result.now c.args.first.now c.judge_switch.new.first
    c.in-Switch.is c.as_slice.ensures c.judge_switch.ensures

pub judge_declaration-returns-in-Proc : goal.judge_declaration-returns-in-Proc
judge_declaration-returns-in-Proc t c =
    inner_procedure c.args.named.now c.args.sites.now c.args.d.now c.in-Proc.procedure c.get.result.now c.args.first.now c.judge_procedure.new.first c.in-Proc.is c.get.ensures
    c.judge_procedure.ensures

pub judge_procedure-returns : goal.judge_procedure-returns
judge_procedure-returns t c =
    procedure c.args.named.now c.args.sites.now c.args.p.now c.as_slice.result.now c.get.result.now c.args.first.now c.judge_heading.new.first c.judge_statement.new.first
    c.as_slice.ensures c.get.ensures c.judge_heading.ensures c.judge_statement.ensures
