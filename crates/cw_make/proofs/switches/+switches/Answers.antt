use Rattle.std.proofs.Common.{List, map, refl}
use Rattle.std.proofs.lemmas.Result.{on_ok_weaker}
use Rattle.cw_tree.specs.declared.statement.RawDecl.{RawDecl}
use Rattle.cw_tree.specs.declared.statement.RawStmt.{RawStmt}
use Rattle.cw_make.specs.Switches.{joined, declaration_switches, statement_switches}
use Rattle.cw_make.proofs.Adding.{one_more}
use Rattle.cw_make.proofs.Listing.{statement_more, simple_form_more, if_more, if_else_more, for_more, inner_block_more, switch_more, inner_procedure_more, procedure_more, block_more}
use Rattle.cw_make.proofs.switches.+switches.Goals as goal

pub statement_switches-returns : goal.statement_switches-returns
statement_switches-returns t c =
    on_ok_weaker c.form_switches.result (statement_more c.args.text.named.now c.args.text.numbers.now c.args.proc c.args.s.now c.get.result.now c.args.out.now
    c.form_switches.new.out c.get.ensures) c.form_switches.ensures

pub form_switches-returns-in-Simple : goal.form_switches-returns-in-Simple
form_switches-returns-in-Simple t c =
    on_ok_weaker c.simple_switches.result (simple_form_more c.args.text.named.now c.args.text.numbers.now c.args.proc c.args.form.now c.in-Simple.s c.get.result.now
    c.args.out.now c.simple_switches.new.out c.in-Simple.is c.get.ensures) c.simple_switches.ensures

pub form_switches-returns-in-None : goal.form_switches-returns-in-None
form_switches-returns-in-None t c =
    if_more c.args.text.named.now c.args.text.numbers.now c.args.proc c.args.form.now c.in-If.at c.in-If.test c.in-If.labels c.in-If.first c.get-in-If.result.now c.in-If.second
    c.args.out.now c.simple_switches-in-If.new.out
    c.in-If.is c.get-in-If.ensures c.in-None.is c.in_ok-simple_switches-in-If.ensures

pub form_switches-returns-in-Some : goal.form_switches-returns-in-Some
form_switches-returns-in-Some t c =
    on_ok_weaker c.statement_switches.result
    (if_else_more c.args.text.named.now c.args.text.numbers.now c.args.proc c.args.form.now c.in-If.at c.in-If.test c.in-If.labels c.in-If.first c.get-in-If.result.now
    c.in-If.second c.in-Some.s c.get-in-Some.result.now
    c.args.out.now c.simple_switches-in-If.new.out c.statement_switches.new.out c.in-If.is c.get-in-If.ensures c.in-Some.is c.get-in-Some.ensures
    c.in_ok-simple_switches-in-If.ensures)
    c.statement_switches.ensures

pub form_switches-returns-in-For : goal.form_switches-returns-in-For
form_switches-returns-in-For t c =
    on_ok_weaker c.statement_switches-in-For.result (for_more c.args.text.named.now c.args.text.numbers.now c.args.proc c.args.form.now c.in-For.at c.in-For.variable
    c.in-For.elems c.in-For.body c.get-in-For.result.now c.args.out.now c.statement_switches-in-For.new.out c.in-For.is c.get-in-For.ensures) c.statement_switches-in-For.ensures

pub simple_switches-returns-in-Block : goal.simple_switches-returns-in-Block
simple_switches-returns-in-Block t c =
    on_ok_weaker c.block_switches.result (inner_block_more c.args.text.named.now c.args.text.numbers.now c.args.proc c.args.s.now c.in-Block.block c.get.result.now c.args.out.now
    c.block_switches.new.out c.in-Block.is c.get.ensures) c.block_switches.ensures

pub block_switches-loop-declaration-preserved : goal.block_switches-loop-declaration-preserved
block_switches-loop-declaration-preserved t c =
    one_more (λ (l : List RawDecl). joined (map (declaration_switches c.args.text.named.now c.args.text.numbers.now) l) c.args.proc)
    (λ x. declaration_switches c.args.text.named.now c.args.text.numbers.now x c.args.proc) (λ x xs. refl)
    c.as_slice-declaration-items.result.now c.loop-declaration.declaration-index c.declaration-item.result c.loop-declaration.out c.declaration_switches.new.out _
    c.loop-declaration-test.true c.declaration-item.is c.in_ok-declaration_switches.ensures c.loop-declaration.invariant

pub block_switches-loop-statement-preserved : goal.block_switches-loop-statement-preserved
block_switches-loop-statement-preserved t c =
    one_more (λ (l : List RawStmt). joined (map (statement_switches c.args.text.named.now c.args.text.numbers.now) l) c.args.proc)
    (λ x. statement_switches c.args.text.named.now c.args.text.numbers.now x c.args.proc) (λ x xs. refl)
    c.as_slice-statement-items.result.now c.loop-statement.statement-index c.statement-item.result c.loop-statement.out c.statement_switches.new.out _
    c.loop-statement-test.true c.statement-item.is c.in_ok-statement_switches.ensures c.loop-statement.invariant

pub block_switches-returns : goal.block_switches-returns
block_switches-returns t c =
    block_more c.args.text.named.now c.args.text.numbers.now c.args.proc c.args.block.now c.as_slice-declaration-items.result.now c.as_slice-statement-items.result.now
    c.loop-declaration.declaration-index c.loop-statement.statement-index
    c.args.out.now c.loop-declaration.out c.loop-statement.out c.as_slice-declaration-items.ensures c.as_slice-statement-items.ensures
    c.loop-declaration-test.false c.loop-statement-test.false c.loop-declaration.invariant c.loop-statement.invariant

pub declaration_switches-returns-in_ok-list-in-Switch : goal.declaration_switches-returns-in_ok-list-in-Switch
declaration_switches-returns-in_ok-list-in-Switch t c =
    on_ok_weaker c.push.result
    (switch_more c.args.text.named.now c.args.text.numbers.now c.args.proc c.args.d.now c.in-Switch.field-0 c.in-Switch.field-1 c.in-Switch.labels c.as_slice.result.now
    c.in_ok-list-in-Switch.list c.args.out.now c.push.new.self
    c.in-Switch.is c.as_slice.ensures c.in_ok-list-in-Switch.ensures)
    c.push.ensures.ok

pub declaration_switches-returns-in-Proc : goal.declaration_switches-returns-in-Proc
declaration_switches-returns-in-Proc t c =
    on_ok_weaker c.procedure_switches.result (inner_procedure_more c.args.text.named.now c.args.text.numbers.now c.args.proc c.args.d.now c.in-Proc.procedure c.get.result.now
    c.args.out.now c.procedure_switches.new.out c.in-Proc.is c.get.ensures) c.procedure_switches.ensures

pub procedure_switches-returns : goal.procedure_switches-returns
procedure_switches-returns t c =
    on_ok_weaker c.statement_switches.result (procedure_more c.args.text.named.now c.args.text.numbers.now c.args.around c.args.p.now c.get.result.now c.proc_here.result
    c.args.out.now c.statement_switches.new.out c.get.ensures c.proc_here.ensures) c.statement_switches.ensures
