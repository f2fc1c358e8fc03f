use Rattle.std.proofs.Common.{refl, sym, ap, ◌∙◌}
use Rattle.std.proofs.lemmas.Result.{on_ok_weaker}
use Rattle.cw_make.specs.Procedures.{declaration_procs, form_procs, simple_procs, block_procs, procedure_procs, statement_procs}
use Rattle.cw_make.proofs.Adding.{passed_on, one_more}
use Rattle.cw_make.proofs.Parts.{all_declared, all_in, block_done, proc_more, if_done, if_else_done, nothing_more, declaration_alone, simple_alone, of_statement, of_simple_form, of_for, of_inner_block, of_procedure}
use Rattle.cw_make.proofs.procedures.+procedures.Goals as goal

pub block_procs-returns : goal.block_procs-returns
block_procs-returns t c =
    block_done c.args.text.named.now c.args.text.numbers.now c.args.block.now c.as_slice-declaration-items.result.now c.as_slice-statement-items.result.now
    c.loop-declaration.declaration-index
    c.loop-statement.statement-index c.args.out.now c.loop-declaration.out c.loop-statement.out c.as_slice-declaration-items.ensures c.as_slice-statement-items.ensures
    c.loop-declaration-test.false c.loop-statement-test.false c.loop-declaration.invariant c.loop-statement.invariant

pub declaration_procs-returns-in_ok-push-in-Proc : goal.declaration_procs-returns-in_ok-push-in-Proc
declaration_procs-returns-in_ok-push-in-Proc t c =
    on_ok_weaker c.procedure_procs.result
    (proc_more c.args.text.named.now c.args.text.numbers.now c.args.d.now c.in-Proc.procedure c.get.result.now c.get-in-Proc.result.now c.in_ok-made-in-Proc.made c.args.out.now
    c.push.new.self c.procedure_procs.new.out
    c.in-Proc.is c.get.ensures c.get-in-Proc.ensures c.in_ok-made-in-Proc.ensures c.in_ok-push-in-Proc.ensures.ok)
    c.procedure_procs.ensures

pub form_procs-returns-in-None : goal.form_procs-returns-in-None
form_procs-returns-in-None t c =
    if_done c.args.text.named.now c.args.text.numbers.now c.args.form.now c.in-If.at c.in-If.test c.in-If.labels c.in-If.first c.get-in-If.result.now c.in-If.second
    c.args.out.now c.simple_procs-in-If.new.out
    c.in-If.is c.in-None.is c.get-in-If.ensures c.in_ok-simple_procs-in-If.ensures

pub form_procs-returns-in-Some : goal.form_procs-returns-in-Some
form_procs-returns-in-Some t c =
    on_ok_weaker c.statement_procs.result
    (if_else_done c.args.text.named.now c.args.text.numbers.now c.args.form.now c.in-If.at c.in-If.test c.in-If.labels c.in-If.first c.get-in-If.result.now c.in-If.second
    c.in-Some.s c.get-in-Some.result.now
    c.args.out.now c.simple_procs-in-If.new.out c.statement_procs.new.out c.in-If.is c.in-Some.is c.get-in-If.ensures c.get-in-Some.ensures c.in_ok-simple_procs-in-If.ensures)
    c.statement_procs.ensures

pub declaration_procs-returns-in_default : goal.declaration_procs-returns-in_default
declaration_procs-returns-in_default t c =
    nothing_more (declaration_procs c.args.text.named.now c.args.text.numbers.now c.args.d.now) c.args.out.now
    (declaration_alone c.args.text.named.now c.args.text.numbers.now c.args.d.now c.in_default.not-Proc)

pub simple_procs-returns-in_default : goal.simple_procs-returns-in_default
simple_procs-returns-in_default t c =
    nothing_more (simple_procs c.args.text.named.now c.args.text.numbers.now c.args.s.now) c.args.out.now
    (simple_alone c.args.text.named.now c.args.text.numbers.now c.args.s.now c.in_default.not-Block)

pub statement_procs-returns : goal.statement_procs-returns
statement_procs-returns t c =
    passed_on c.form_procs.result (statement_procs c.args.text.named.now c.args.text.numbers.now c.args.s.now)
    (form_procs c.args.text.named.now c.args.text.numbers.now c.get.result.now) c.args.out.now c.form_procs.new.out
    (of_statement c.args.text.named.now c.args.text.numbers.now c.args.s.now ∙ ap (form_procs c.args.text.named.now c.args.text.numbers.now) (sym c.get.ensures))
    c.form_procs.ensures

pub form_procs-returns-in-Simple : goal.form_procs-returns-in-Simple
form_procs-returns-in-Simple t c =
    passed_on c.simple_procs.result (form_procs c.args.text.named.now c.args.text.numbers.now c.args.form.now)
    (simple_procs c.args.text.named.now c.args.text.numbers.now c.get.result.now) c.args.out.now c.simple_procs.new.out
    (ap (form_procs c.args.text.named.now c.args.text.numbers.now) c.in-Simple.is ∙ of_simple_form c.args.text.named.now c.args.text.numbers.now c.in-Simple.s
    ∙ ap (simple_procs c.args.text.named.now c.args.text.numbers.now) (sym c.get.ensures)) c.simple_procs.ensures

pub form_procs-returns-in-For : goal.form_procs-returns-in-For
form_procs-returns-in-For t c =
    passed_on c.statement_procs-in-For.result (form_procs c.args.text.named.now c.args.text.numbers.now c.args.form.now)
    (statement_procs c.args.text.named.now c.args.text.numbers.now c.get-in-For.result.now) c.args.out.now c.statement_procs-in-For.new.out
    (ap (form_procs c.args.text.named.now c.args.text.numbers.now) c.in-For.is ∙ of_for c.args.text.named.now c.args.text.numbers.now c.in-For.at c.in-For.variable c.in-For.elems
    c.in-For.body ∙ ap (statement_procs c.args.text.named.now c.args.text.numbers.now) (sym c.get-in-For.ensures)) c.statement_procs-in-For.ensures

pub simple_procs-returns-in-Block : goal.simple_procs-returns-in-Block
simple_procs-returns-in-Block t c =
    passed_on c.block_procs.result (simple_procs c.args.text.named.now c.args.text.numbers.now c.args.s.now)
    (block_procs c.args.text.named.now c.args.text.numbers.now c.get.result.now) c.args.out.now c.block_procs.new.out
    (ap (simple_procs c.args.text.named.now c.args.text.numbers.now) c.in-Block.is ∙ of_inner_block c.args.text.named.now c.args.text.numbers.now c.in-Block.block
    ∙ ap (block_procs c.args.text.named.now c.args.text.numbers.now) (sym c.get.ensures)) c.block_procs.ensures

pub procedure_procs-returns : goal.procedure_procs-returns
procedure_procs-returns t c =
    passed_on c.statement_procs.result (procedure_procs c.args.text.named.now c.args.text.numbers.now c.args.p.now)
    (statement_procs c.args.text.named.now c.args.text.numbers.now c.get.result.now) c.args.out.now c.statement_procs.new.out
    (of_procedure c.args.text.named.now c.args.text.numbers.now c.args.p.now ∙ ap (statement_procs c.args.text.named.now c.args.text.numbers.now) (sym c.get.ensures))
    c.statement_procs.ensures

pub block_procs-loop-declaration-preserved : goal.block_procs-loop-declaration-preserved
block_procs-loop-declaration-preserved t c =
    one_more (all_declared c.args.text.named.now c.args.text.numbers.now) (declaration_procs c.args.text.named.now c.args.text.numbers.now) (λ x xs. refl)
    c.as_slice-declaration-items.result.now c.loop-declaration.declaration-index c.declaration-item.result c.loop-declaration.out c.declaration_procs.new.out _
    c.loop-declaration-test.true c.declaration-item.is c.in_ok-declaration_procs.ensures c.loop-declaration.invariant

pub block_procs-loop-statement-preserved : goal.block_procs-loop-statement-preserved
block_procs-loop-statement-preserved t c =
    one_more (all_in c.args.text.named.now c.args.text.numbers.now) (statement_procs c.args.text.named.now c.args.text.numbers.now) (λ x xs. refl)
    c.as_slice-statement-items.result.now c.loop-statement.statement-index c.statement-item.result c.loop-statement.out c.statement_procs.new.out _
    c.loop-statement-test.true c.statement-item.is c.in_ok-statement_procs.ensures c.loop-statement.invariant
