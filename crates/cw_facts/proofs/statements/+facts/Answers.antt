use Rattle.std.proofs.lemmas.Result.{on_ok_weaker}
use Rattle.cw_facts.specs.Facts.{declaration_facts, statement_facts}
use Rattle.cw_facts.proofs.Stating.{one_joined, parts_done, data_more, overlay_more, switch_more, procedure_more, statement_more, simple_more, if_more, if_else_more, for_more}
use Rattle.cw_facts.proofs.Stating.{assign_more, assign_bits_more, goto_more, goto_switch_more, call_statement_more, answer_more}
use Rattle.cw_facts.proofs.statements.+facts.Goals as goal

pub statement_facts-returns : goal.statement_facts-returns
statement_facts-returns t c =
    on_ok_weaker c.form_facts.result
    (statement_more c.args.s.now c.as_slice.result.now c.get.result.now c.args.out.now c.declare_each.new.out c.form_facts.new.out c.as_slice.ensures c.get.ensures
    c.in_ok-declare_each.ensures)
    c.form_facts.ensures

pub form_facts-returns-in-Simple : goal.form_facts-returns-in-Simple
form_facts-returns-in-Simple t c =
    on_ok_weaker c.simple_facts.result
    (simple_more c.args.form.now c.in-Simple.s c.get.result.now c.args.out.now c.simple_facts.new.out c.in-Simple.is c.get.ensures)
    c.simple_facts.ensures

pub form_facts-returns-in-None : goal.form_facts-returns-in-None
form_facts-returns-in-None t c =
    if_more c.args.form.now c.in-If.at c.in-If.test c.get-in-If.result.now c.in-If.labels c.as_slice.result.now c.in-If.first c.get-in-If-2.result.now c.in-If.second
    c.args.out.now c.condition_uses.new.out c.declare_each.new.out c.simple_facts-in-If.new.out
    c.in-If.is c.in-None.is c.get-in-If.ensures c.as_slice.ensures c.get-in-If-2.ensures c.in_ok-condition_uses-in-If.ensures c.in_ok-declare_each-in-If.ensures
    c.in_ok-simple_facts-in-If.ensures

pub form_facts-returns-in-Some : goal.form_facts-returns-in-Some
form_facts-returns-in-Some t c =
    on_ok_weaker c.statement_facts.result
    (if_else_more c.args.form.now c.in-If.at c.in-If.test c.get-in-If.result.now c.in-If.labels c.as_slice.result.now c.in-If.first c.get-in-If-2.result.now c.in-If.second
    c.in-Some.s c.get-in-Some.result.now
    c.args.out.now c.condition_uses.new.out c.declare_each.new.out c.simple_facts-in-If.new.out c.statement_facts.new.out
    c.in-If.is c.in-Some.is c.get-in-If.ensures c.as_slice.ensures c.get-in-If-2.ensures c.get-in-Some.ensures c.in_ok-condition_uses-in-If.ensures
    c.in_ok-declare_each-in-If.ensures c.in_ok-simple_facts-in-If.ensures)
    c.statement_facts.ensures

pub form_facts-returns-in_ok-felems-in-For : goal.form_facts-returns-in_ok-felems-in-For
form_facts-returns-in_ok-felems-in-For t c =
    on_ok_weaker c.statement_facts-in-For.result
    (for_more c.args.form.now c.in-For.at c.in-For.variable c.get-in-For.result.now c.in-For.elems c.as_slice-in-For.result.now c.in-For.body c.get-in-For-2.result.now
    c.args.out.now c.push.new.self c.reference_uses.new.out c.felems.new.out c.statement_facts-in-For.new.out
    c.in-For.is c.get-in-For.ensures c.as_slice-in-For.ensures c.get-in-For-2.ensures c.in_ok-push-in-For.ensures.ok c.in_ok-reference_uses-in-For.ensures
    c.in_ok-felems-in-For.ensures)
    c.statement_facts-in-For.ensures

pub simple_facts-returns-in_ok-reference_uses-in-Assign : goal.simple_facts-returns-in_ok-reference_uses-in-Assign
simple_facts-returns-in_ok-reference_uses-in-Assign t c =
    on_ok_weaker c.expression_uses.result
    (assign_more c.args.s.now c.in-Assign.reference c.get.result.now c.in-Assign.e c.get-in-Assign.result.now c.args.out.now c.reference_uses.new.out c.expression_uses.new.out
    c.in-Assign.is c.get.ensures c.get-in-Assign.ensures c.in_ok-reference_uses-in-Assign.ensures)
    c.expression_uses.ensures

pub simple_facts-returns-in_ok-reference_uses-in-AssignBits : goal.simple_facts-returns-in_ok-reference_uses-in-AssignBits
simple_facts-returns-in_ok-reference_uses-in-AssignBits t c =
    on_ok_weaker c.expression_uses-in-AssignBits.result
    (assign_bits_more c.args.s.now c.in-AssignBits.field-0 c.in-AssignBits.reference c.get-in-AssignBits.result.now c.in-AssignBits.e c.get-in-AssignBits-2.result.now
    c.args.out.now c.reference_uses-in-AssignBits.new.out c.expression_uses-in-AssignBits.new.out
    c.in-AssignBits.is c.get-in-AssignBits.ensures c.get-in-AssignBits-2.ensures c.in_ok-reference_uses-in-AssignBits.ensures)
    c.expression_uses-in-AssignBits.ensures

pub simple_facts-returns-in-Goto : goal.simple_facts-returns-in-Goto
simple_facts-returns-in-Goto t c =
    on_ok_weaker c.note.result (goto_more c.args.s.now c.in-Goto.field-0 c.in-Goto.name c.args.out.now c.note.new.out c.in-Goto.is)
    (rw c.get-in-Goto.ensures at c.note.ensures)

pub simple_facts-returns-in_ok-note-in-GotoSwitch : goal.simple_facts-returns-in_ok-note-in-GotoSwitch
simple_facts-returns-in_ok-note-in-GotoSwitch t c =
    on_ok_weaker c.expression_uses-in-GotoSwitch.result
    (goto_switch_more c.args.s.now c.in-GotoSwitch.field-0 c.in-GotoSwitch.name c.in-GotoSwitch.index c.get-in-GotoSwitch-2.result.now c.args.out.now
    c.note-in-GotoSwitch.new.out c.expression_uses-in-GotoSwitch.new.out
    c.in-GotoSwitch.is c.get-in-GotoSwitch-2.ensures (rw c.get-in-GotoSwitch.ensures at c.in_ok-note-in-GotoSwitch.ensures))
    c.expression_uses-in-GotoSwitch.ensures

pub simple_facts-returns-in_ok-note-in-Call : goal.simple_facts-returns-in_ok-note-in-Call
simple_facts-returns-in_ok-note-in-Call t c =
    on_ok_weaker c.argument_uses.result
    (call_statement_more c.args.s.now c.in-Call.name c.in-Call.arguments c.as_slice.result.now c.args.out.now c.note-in-Call.new.out c.argument_uses.new.out
    c.in-Call.is c.as_slice.ensures (rw c.get-in-Call.ensures at c.in_ok-note-in-Call.ensures))
    c.argument_uses.ensures

pub simple_facts-returns-in_ok-note-in-Answer : goal.simple_facts-returns-in_ok-note-in-Answer
simple_facts-returns-in_ok-note-in-Answer t c =
    on_ok_weaker c.expression_uses-in-Answer.result
    (answer_more c.args.s.now c.in-Answer.at c.answer_name.result c.in-Answer.e c.get-in-Answer.result.now c.args.out.now c.note-in-Answer.new.out
    c.expression_uses-in-Answer.new.out
    c.in-Answer.is c.answer_name.ensures c.get-in-Answer.ensures c.in_ok-note-in-Answer.ensures)
    c.expression_uses-in-Answer.ensures

pub parts_facts-loop-declaration-preserved : goal.parts_facts-loop-declaration-preserved
parts_facts-loop-declaration-preserved t c =
    one_joined declaration_facts c.as_slice-declaration-items.result.now c.loop-declaration.declaration-index c.declaration-item.result c.args.out.now
    c.loop-declaration.out c.declaration_facts.new.out
    c.loop-declaration-test.true c.declaration-item.is c.in_ok-declaration_facts.ensures c.loop-declaration.invariant

pub parts_facts-loop-statement-preserved : goal.parts_facts-loop-statement-preserved
parts_facts-loop-statement-preserved t c =
    one_joined statement_facts c.as_slice-statement-items.result.now c.loop-statement.statement-index c.statement-item.result c.loop-declaration.out c.loop-statement.out
    c.statement_facts.new.out
    c.loop-statement-test.true c.statement-item.is c.in_ok-statement_facts.ensures c.loop-statement.invariant

pub parts_facts-returns : goal.parts_facts-returns
parts_facts-returns t c =
    parts_done c.args.block.now c.as_slice-declaration-items.result.now c.as_slice-statement-items.result.now c.loop-declaration.declaration-index
    c.loop-statement.statement-index
    c.args.out.now c.loop-declaration.out c.loop-statement.out c.as_slice-declaration-items.ensures c.as_slice-statement-items.ensures
    c.loop-declaration-test.false c.loop-statement-test.false c.loop-declaration.invariant c.loop-statement.invariant

pub declaration_facts-returns-in-Data : goal.declaration_facts-returns-in-Data
declaration_facts-returns-in-Data t c =
    on_ok_weaker c.data_facts.result (data_more c.args.d.now _ c.args.out.now c.data_facts.new.out c.in-Data.is) c.data_facts.ensures

pub declaration_facts-returns-in_ok-base_facts-in-Overlay : goal.declaration_facts-returns-in_ok-base_facts-in-Overlay
declaration_facts-returns-in_ok-base_facts-in-Overlay t c =
    on_ok_weaker c.data_facts-in-Overlay.result
    (overlay_more c.args.d.now _ _ _ c.args.out.now c.base_facts.new.out c.data_facts-in-Overlay.new.out c.in-Overlay.is c.in_ok-base_facts-in-Overlay.ensures)
    c.data_facts-in-Overlay.ensures

pub declaration_facts-returns-in_ok-declare-in-Switch : goal.declaration_facts-returns-in_ok-declare-in-Switch
declaration_facts-returns-in_ok-declare-in-Switch t c =
    on_ok_weaker c.use_each.result
    (switch_more c.args.d.now c.in-Switch.field-0 c.in-Switch.name c.in-Switch.labels c.as_slice.result.now c.args.out.now c.declare.new.out c.use_each.new.out
    c.in-Switch.is c.as_slice.ensures c.in_ok-declare-in-Switch.ensures)
    c.use_each.ensures

pub declaration_facts-returns-in-Proc : goal.declaration_facts-returns-in-Proc
declaration_facts-returns-in-Proc t c =
    on_ok_weaker c.procedure_facts.result
    (procedure_more c.args.d.now c.in-Proc.procedure c.get.result.now c.args.out.now c.procedure_facts.new.out c.in-Proc.is c.get.ensures)
    c.procedure_facts.ensures
