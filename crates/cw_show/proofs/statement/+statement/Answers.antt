use Rattle.std.proofs.Common.{refl, sym}
use Rattle.cw_tree.proofs.Statements.{of_declaration-Data, of_declaration-Overlay, of_declaration-Proc, of_declaration-Switch, of_form-For, of_form-If-None, of_form-If-Some, of_form-Simple, of_simple-Answer, of_simple-Assign, of_simple-AssignBits, of_simple-Block, of_simple-Call, of_simple-Empty, of_simple-Goto, of_simple-GotoSwitch}
use Rattle.cw_show.specs.Canonical.{semicolon}
use Rattle.cw_show.specs.StatementTokens.{decl_tokens, stmt_tokens}
use Rattle.cw_show.proofs.Adding.{nothing, in_order, becomes, begun, one_more_behind, none_between, all_between, one_more_ended, none_more_ended, behind_first}
use Rattle.cw_show.proofs.StatementLayers.{steps, block-layer, proc-layer, stmt-layer}
use Rattle.cw_show.proofs.statement.+statement.Goals as goal

pub put_stmt-returns : goal.put_stmt-returns
put_stmt-returns t c = becomes (in_order c.put_labels.ensures c.put_form.ensures) (rw (c.as_slice.ensures, c.get.ensures) (sym (stmt-layer c.args.stmt.now)))

pub put_form-returns-in-Simple : goal.put_form-returns-in-Simple
put_form-returns-in-Simple t c = becomes c.put_simple.ensures (rw (c.in-Simple.is, c.get.ensures) (sym (of_form-Simple steps c.in-Simple.simple)))

pub put_form-returns-in-None : goal.put_form-returns-in-None
put_form-returns-in-None t c = becomes (in_order c.put_word.ensures (in_order c.put_cond.ensures
    (in_order c.put_word-in-If.ensures (in_order c.put_labels.ensures (in_order c.put_simple-in-If.ensures (nothing c.put_simple-in-If.new.out))))))
    (rw (c.in-If.is, c.get-in-If.ensures, c.as_slice.ensures, c.get-in-If-2.ensures, c.in-None.is)
    (sym (of_form-If-None steps c.in-If.at c.in-If.test c.in-If.labels c.in-If.first)))

pub put_form-returns-in-Some : goal.put_form-returns-in-Some
put_form-returns-in-Some t c = becomes (in_order c.put_word.ensures (in_order c.put_cond.ensures
    (in_order c.put_word-in-If.ensures (in_order c.put_labels.ensures (in_order c.put_simple-in-If.ensures c.put_else.ensures)))))
    (rw (c.in-If.is, c.get-in-If.ensures, c.as_slice.ensures, c.get-in-If-2.ensures, c.in-Some.is, c.get-in-Some.ensures)
    (sym (of_form-If-Some steps c.in-If.at c.in-If.test c.in-If.labels c.in-If.first c.in-Some.second)))

pub put_form-returns-in-For : goal.put_form-returns-in-For
put_form-returns-in-For t c = becomes (in_order c.put_control.ensures c.put_stmt.ensures)
    (rw (c.in-For.is, c.get-in-For.ensures, c.as_slice-in-For.ensures, c.get-in-For-2.ensures) (sym (of_form-For steps c.in-For.at c.in-For.variable c.in-For.elems c.in-For.body)))

pub put_else-returns : goal.put_else-returns
put_else-returns t c = in_order c.put_word.ensures c.put_stmt.ensures

pub put_simple-returns-in-Empty : goal.put_simple-returns-in-Empty
put_simple-returns-in-Empty t c = becomes (nothing c.args.out.now) (rw c.in-Empty.is (sym (of_simple-Empty steps)))

pub put_simple-returns-in-Assign : goal.put_simple-returns-in-Assign
put_simple-returns-in-Assign t c = becomes c.put_assignment.ensures (rw (c.in-Assign.is, c.get.ensures, c.get-in-Assign.ensures)
    (sym (of_simple-Assign steps c.in-Assign.place c.in-Assign.value)))

pub put_simple-returns-in-AssignBits : goal.put_simple-returns-in-AssignBits
put_simple-returns-in-AssignBits t c = becomes (in_order c.put_bits.ensures c.put_assignment-in-AssignBits.ensures)
    (rw (c.in-AssignBits.is, c.get-in-AssignBits.ensures, c.get-in-AssignBits-2.ensures, c.get-in-AssignBits-3.ensures)
    (sym (of_simple-AssignBits steps c.in-AssignBits.bits c.in-AssignBits.place c.in-AssignBits.value)))

pub put_simple-returns-in-Goto : goal.put_simple-returns-in-Goto
put_simple-returns-in-Goto t c = becomes (in_order c.put_word.ensures c.put_name.ensures)
    (rw (c.in-Goto.is, c.get-in-Goto.ensures) (sym (of_simple-Goto steps c.in-Goto.field-0 c.in-Goto.label)))

pub put_simple-returns-in-GotoSwitch : goal.put_simple-returns-in-GotoSwitch
put_simple-returns-in-GotoSwitch t c = becomes (in_order c.put_word-in-GotoSwitch.ensures (in_order c.put_name-in-GotoSwitch.ensures c.put_index.ensures))
    (rw (c.in-GotoSwitch.is, c.get-in-GotoSwitch.ensures, c.get-in-GotoSwitch-2.ensures)
    (sym (of_simple-GotoSwitch steps c.in-GotoSwitch.field-0 c.in-GotoSwitch.switch c.in-GotoSwitch.index)))

pub put_simple-returns-in-Call : goal.put_simple-returns-in-Call
put_simple-returns-in-Call t c = becomes (in_order c.put_name-in-Call.ensures c.put_call.ensures)
    (rw (c.in-Call.is, c.get-in-Call.ensures, c.as_slice.ensures) (sym (of_simple-Call steps c.in-Call.name c.in-Call.arguments)))

pub put_simple-returns-in-Answer : goal.put_simple-returns-in-Answer
put_simple-returns-in-Answer t c = becomes (in_order c.put_word-in-Answer.ensures c.put_expr.ensures)
    (rw (c.in-Answer.is, c.get-in-Answer.ensures) (sym (of_simple-Answer steps c.in-Answer.field-0 c.in-Answer.value)))

pub put_simple-returns-in-Block : goal.put_simple-returns-in-Block
put_simple-returns-in-Block t c = becomes c.put_block.ensures (rw (c.in-Block.is, c.get-in-Block.ensures) (sym (of_simple-Block steps c.in-Block.block)))

pub put_block-returns : goal.put_block-returns
put_block-returns t c = becomes (in_order c.put_word.ensures (in_order c.put_decls.ensures (in_order c.put_stmts.ensures c.put_word-2.ensures)))
    (rw (c.as_slice.ensures, c.as_slice-2.ensures) (sym (block-layer c.args.block.now)))

pub put_decl-returns-in-Data : goal.put_decl-returns-in-Data
put_decl-returns-in-Data t c = becomes c.put_data.ensures (rw c.in-Data.is (sym (of_declaration-Data steps c.in-Data.data)))

pub put_decl-returns-in-Overlay : goal.put_decl-returns-in-Overlay
put_decl-returns-in-Overlay t c = becomes c.put_overlay.ensures (rw c.in-Overlay.is (sym (of_declaration-Overlay steps c.in-Overlay.field-0 c.in-Overlay.base c.in-Overlay.data)))

pub put_decl-returns-in-Switch : goal.put_decl-returns-in-Switch
put_decl-returns-in-Switch t c = becomes c.put_switch.ensures (rw (c.in-Switch.is, c.as_slice.ensures)
    (sym (of_declaration-Switch steps c.in-Switch.field-0 c.in-Switch.name c.in-Switch.goals)))

pub put_decl-returns-in-Proc : goal.put_decl-returns-in-Proc
put_decl-returns-in-Proc t c = becomes c.put_proc.ensures (rw (c.in-Proc.is, c.get.ensures) (sym (of_declaration-Proc steps c.in-Proc.proc)))

pub put_proc-returns : goal.put_proc-returns
put_proc-returns t c = becomes (in_order c.put_head.ensures c.put_stmt.ensures) (rw (c.as_slice.ensures, c.get.ensures) (sym (proc-layer c.args.proc.now)))

pub put_stmts-returns-in-empty : goal.put_stmts-returns-in-empty
put_stmts-returns-in-empty t c = none_between semicolon stmt_tokens c.args.stmts.now c.args.stmts.now c.args.out.now refl refl c.in-empty.len_below

pub put_stmts-loop-stmt-init : goal.put_stmts-loop-stmt-init
put_stmts-loop-stmt-init t c = begun _ _

pub put_stmts-loop-stmt-preserved : goal.put_stmts-loop-stmt-preserved
put_stmts-loop-stmt-preserved t c =
    one_more_behind semicolon stmt_tokens (behind_first c.args.stmts.now) c.loop-stmt.stmt-index c.stmt-item.result
    c.loop-stmt-test.true c.stmt-item.is c.loop-stmt.invariant c.put_symbol.ensures c.put_stmt-in-loop-stmt.ensures

pub put_stmts-returns-after-loop-stmt : goal.put_stmts-returns-after-loop-stmt
put_stmts-returns-after-loop-stmt t c =
    all_between semicolon stmt_tokens c.args.stmts.now c.args.stmts.now c.first-item.result c.loop-stmt.stmt-index
    refl refl c.in-len1-up.len_at_least c.first-item.is c.loop-stmt-test.false c.put_stmt.ensures c.loop-stmt.invariant

pub put_decls-loop-decl-init : goal.put_decls-loop-decl-init
put_decls-loop-decl-init t c = begun _ _

pub put_decls-loop-decl-preserved : goal.put_decls-loop-decl-preserved
put_decls-loop-decl-preserved t c =
    one_more_ended decl_tokens c.args.decls.now c.loop-decl.decl-index c.decl-item.result
    c.loop-decl-test.true c.decl-item.is c.loop-decl.invariant c.put_decl.ensures c.put_symbol.ensures

pub put_decls-returns : goal.put_decls-returns
put_decls-returns t c = none_more_ended decl_tokens c.args.decls.now c.loop-decl.decl-index c.loop-decl-test.false c.loop-decl.invariant
