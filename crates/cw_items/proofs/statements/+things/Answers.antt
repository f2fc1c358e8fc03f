use Rattle.std.proofs.lemmas.Result.{on_ok_weaker}
use Rattle.cw_items.specs.Things.{declaration_things, simple_things, statement_things}
use Rattle.cw_items.proofs.Storing.{nothing_more, one_joined, data_more, overlay_more, switch_stores, procedure_more, owned_more, statement_more, simple_more}
use Rattle.cw_items.proofs.Storing.{if_more, if_else_more, for_more, empty_stores, goto_stores, assign_more, assign_bits_more, goto_switch_more, call_statement_more}
use Rattle.cw_items.proofs.Storing.{answer_more, block_more, block_done}
use Rattle.cw_items.proofs.statements.+things.Goals as goal

pub statement_things-returns : goal.statement_things-returns
statement_things-returns t c =
    on_ok_weaker c.form_things.result
    (statement_more c.args.named.now c.args.s.now c.args.owner.now c.get.result.now c.args.out.now c.form_things.new.out c.get.ensures)
    c.form_things.ensures

pub form_things-returns-in-Simple : goal.form_things-returns-in-Simple
form_things-returns-in-Simple t c =
    on_ok_weaker c.simple_things.result
    (simple_more c.args.named.now c.args.form.now c.args.owner.now c.in-Simple.s c.get.result.now c.args.out.now c.simple_things.new.out c.in-Simple.is c.get.ensures)
    c.simple_things.ensures

pub form_things-returns-in-None : goal.form_things-returns-in-None
form_things-returns-in-None t c =
    if_more c.args.named.now c.args.form.now c.args.owner.now c.in-If.at c.in-If.test c.get-in-If.result.now c.in-If.labels c.in-If.first c.get-in-If-2.result.now
    c.in-If.second
    c.args.out.now c.condition_texts.new.out c.simple_things-in-If.new.out
    c.in-If.is c.in-None.is c.get-in-If.ensures c.get-in-If-2.ensures c.in_ok-condition_texts-in-If.ensures c.in_ok-simple_things-in-If.ensures

pub form_things-returns-in-Some : goal.form_things-returns-in-Some
form_things-returns-in-Some t c =
    on_ok_weaker c.statement_things.result
    (if_else_more c.args.named.now c.args.form.now c.args.owner.now c.in-If.at c.in-If.test c.get-in-If.result.now c.in-If.labels c.in-If.first c.get-in-If-2.result.now
    c.in-If.second
    c.in-Some.s c.get-in-Some.result.now c.args.out.now c.condition_texts.new.out c.simple_things-in-If.new.out c.statement_things.new.out
    c.in-If.is c.in-Some.is c.get-in-If.ensures c.get-in-If-2.ensures c.get-in-Some.ensures c.in_ok-condition_texts-in-If.ensures c.in_ok-simple_things-in-If.ensures)
    c.statement_things.ensures

pub form_things-returns-in_ok-felems_things-in-For : goal.form_things-returns-in_ok-felems_things-in-For
form_things-returns-in_ok-felems_things-in-For t c =
    on_ok_weaker c.statement_things-in-For.result
    (for_more c.args.named.now c.args.form.now c.args.owner.now c.in-For.at c.in-For.variable c.get-in-For.result.now c.in-For.elems c.as_slice.result.now c.in-For.body
    c.get-in-For-2.result.now
    c.args.out.now c.store.new.out c.reference_texts.new.out c.felems_things.new.out c.statement_things-in-For.new.out
    c.in-For.is c.get-in-For.ensures c.as_slice.ensures c.get-in-For-2.ensures c.in_ok-store-in-For.ensures c.in_ok-reference_texts-in-For.ensures
    c.in_ok-felems_things-in-For.ensures)
    c.statement_things-in-For.ensures

pub simple_things-returns-in-Empty : goal.simple_things-returns-in-Empty
simple_things-returns-in-Empty t c =
    nothing_more (simple_things c.args.named.now c.args.s.now c.args.owner.now) c.args.out.now (empty_stores c.args.named.now c.args.s.now c.args.owner.now c.in-Empty.is)

pub simple_things-returns-in-Assign : goal.simple_things-returns-in-Assign
simple_things-returns-in-Assign t c =
    on_ok_weaker c.assigned_texts.result
    (assign_more c.args.named.now c.args.s.now c.args.owner.now c.in-Assign.r c.get.result.now c.in-Assign.e c.get-in-Assign.result.now c.args.out.now c.assigned_texts.new.out
    c.in-Assign.is c.get.ensures c.get-in-Assign.ensures)
    c.assigned_texts.ensures.target

pub simple_things-returns-in-AssignBits : goal.simple_things-returns-in-AssignBits
simple_things-returns-in-AssignBits t c =
    on_ok_weaker c.assigned_texts-in-AssignBits.result
    (assign_bits_more c.args.named.now c.args.s.now c.args.owner.now c.in-AssignBits.field-0 c.in-AssignBits.r c.get-in-AssignBits.result.now c.in-AssignBits.e
    c.get-in-AssignBits-2.result.now
    c.args.out.now c.assigned_texts-in-AssignBits.new.out c.in-AssignBits.is c.get-in-AssignBits.ensures c.get-in-AssignBits-2.ensures)
    c.assigned_texts-in-AssignBits.ensures.whole

pub simple_things-returns-in-Goto : goal.simple_things-returns-in-Goto
simple_things-returns-in-Goto t c =
    nothing_more (simple_things c.args.named.now c.args.s.now c.args.owner.now) c.args.out.now (goto_stores c.args.named.now c.args.s.now c.args.owner.now _ _ c.in-Goto.is)

pub simple_things-returns-in-GotoSwitch : goal.simple_things-returns-in-GotoSwitch
simple_things-returns-in-GotoSwitch t c =
    on_ok_weaker c.expression_texts.result
    (goto_switch_more c.args.named.now c.args.s.now c.args.owner.now c.in-GotoSwitch.field-0 c.in-GotoSwitch.field-1 c.in-GotoSwitch.index c.get-in-GotoSwitch.result.now
    c.args.out.now c.expression_texts.new.out c.in-GotoSwitch.is c.get-in-GotoSwitch.ensures)
    c.expression_texts.ensures

pub simple_things-returns-in-Call : goal.simple_things-returns-in-Call
simple_things-returns-in-Call t c =
    on_ok_weaker c.argument_strings.result
    (call_statement_more c.args.named.now c.args.s.now c.args.owner.now c.in-Call.field-0 c.in-Call.arguments c.as_slice.result.now c.args.out.now
    c.argument_strings.new.out c.in-Call.is c.as_slice.ensures)
    c.argument_strings.ensures

pub simple_things-returns-in-Answer : goal.simple_things-returns-in-Answer
simple_things-returns-in-Answer t c =
    on_ok_weaker c.expression_texts-in-Answer.result
    (answer_more c.args.named.now c.args.s.now c.args.owner.now c.in-Answer.field-0 c.in-Answer.e c.get-in-Answer.result.now c.args.out.now c.expression_texts-in-Answer.new.out
    c.in-Answer.is c.get-in-Answer.ensures)
    c.expression_texts-in-Answer.ensures

pub simple_things-returns-in-Block : goal.simple_things-returns-in-Block
simple_things-returns-in-Block t c =
    on_ok_weaker c.block_things.result
    (block_more c.args.named.now c.args.s.now c.args.owner.now c.in-Block.block c.get-in-Block.result.now c.args.out.now c.block_things.new.out c.in-Block.is
    c.get-in-Block.ensures)
    c.block_things.ensures

pub block_things-loop-declaration-preserved : goal.block_things-loop-declaration-preserved
block_things-loop-declaration-preserved t c =
    one_joined (declaration_things c.args.named.now) c.as_slice-declaration-items.result.now c.loop-declaration.declaration-index c.declaration-item.result c.args.owner.now
    c.args.out.now c.loop-declaration.out c.declaration_things.new.out
    c.loop-declaration-test.true c.declaration-item.is c.in_ok-declaration_things.ensures c.loop-declaration.invariant

pub block_things-loop-statement-preserved : goal.block_things-loop-statement-preserved
block_things-loop-statement-preserved t c =
    one_joined (statement_things c.args.named.now) c.as_slice-statement-items.result.now c.loop-statement.statement-index c.statement-item.result c.args.owner.now
    c.loop-declaration.out c.loop-statement.out c.statement_things.new.out
    c.loop-statement-test.true c.statement-item.is c.in_ok-statement_things.ensures c.loop-statement.invariant

pub block_things-returns : goal.block_things-returns
block_things-returns t c =
    block_done c.args.named.now c.args.block.now c.args.owner.now c.as_slice-declaration-items.result.now c.as_slice-statement-items.result.now
    c.loop-declaration.declaration-index
    c.loop-statement.statement-index c.args.out.now c.loop-declaration.out c.loop-statement.out c.as_slice-declaration-items.ensures c.as_slice-statement-items.ensures
    c.loop-declaration-test.false c.loop-statement-test.false c.loop-declaration.invariant c.loop-statement.invariant

pub declaration_things-returns-in-Data : goal.declaration_things-returns-in-Data
declaration_things-returns-in-Data t c =
    on_ok_weaker c.data_things.result
    (data_more c.args.named.now c.args.d.now c.args.owner.now c.in-Data.items c.args.out.now c.data_things.new.out c.in-Data.is)
    c.data_things.ensures

pub declaration_things-returns-in-Overlay : goal.declaration_things-returns-in-Overlay
declaration_things-returns-in-Overlay t c =
    on_ok_weaker c.data_things-in-Overlay.result
    (overlay_more c.args.named.now c.args.d.now c.args.owner.now c.in-Overlay.field-0 c.in-Overlay.base c.in-Overlay.items c.base_at.result c.args.out.now
    c.data_things-in-Overlay.new.out
    c.in-Overlay.is c.base_at.ensures)
    c.data_things-in-Overlay.ensures

pub declaration_things-returns-in-Switch : goal.declaration_things-returns-in-Switch
declaration_things-returns-in-Switch t c =
    nothing_more (declaration_things c.args.named.now c.args.d.now c.args.owner.now) c.args.out.now (switch_stores c.args.named.now c.args.d.now c.args.owner.now _ _ _
    c.in-Switch.is)

pub declaration_things-returns-in-Proc : goal.declaration_things-returns-in-Proc
declaration_things-returns-in-Proc t c =
    on_ok_weaker c.procedure_things.result
    (procedure_more c.args.named.now c.args.d.now c.args.owner.now c.in-Proc.procedure c.get.result.now c.args.out.now c.procedure_things.new.out c.in-Proc.is c.get.ensures)
    c.procedure_things.ensures

pub procedure_things-returns : goal.procedure_things-returns
procedure_things-returns t c =
    on_ok_weaker c.statement_things.result
    (owned_more c.args.named.now c.args.p.now c.args.around.now c.is_recursive.result c.get.result.now c.as_slice.result.now c.args.out.now c.parameters_things.new.out
    c.statement_things.new.out
    c.is_recursive.ensures c.as_slice.ensures c.get.ensures c.in_ok-parameters_things.ensures)
    c.statement_things.ensures
