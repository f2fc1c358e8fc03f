use Rattle.std.proofs.Common.{List, map, ◌||◌, true, false, None, refl, sym, ap, ap₂, ◌∙◌}
use Rattle.cw_unit.specs.declared.unit.Felem.{Felem}
use Rattle.cw_unit.specs.declared.unit.Stmt.{Stmt}
use Rattle.cw_unit.specs.declared.unit.Stmt.TheOpen as statement
use Rattle.cw_unit.specs.declared.unit.Stmt.TheVariants as stmt
use Rattle.cw_gen_expr.specs.Pieces.{plain, sequence, with_labels}
use Rattle.cw_gen_expr.specs.ReferenceExpressions.{scope_with, at_line, condition_piece}
use Rattle.cw_gen_expr.proofs.Adding.{◌⨟◌, also, lost, next_comes, last_came}
use Rattle.cw_gen_unit.specs.ReferenceStatements.{begun_loop, loop_piece, jump_past, statement_step, statement_piece}
use Rattle.cw_gen_unit.specs.Endings.{list_ends, comes_to_end}
use Rattle.cw_gen_unit.specs.SimpleLoops.{simple_step}
use Rattle.cw_gen_unit.proofs.Layers.{with_ends}
use Rattle.cw_gen_unit.proofs.Chains.{chosen, looped, by_statement, by_ending, next_ending, last_ending}
use Rattle.cw_gen_unit.proofs.statements.+statements.Goals as goal

pub put_statement-returns-in-Put : goal.put_statement-returns-in-Put
put_statement-returns-in-Put t c =
    let s = scope_with c.args.unit.now c.args.layout.now c.args.parameters.now in
    let who = c.args.who in
    let answer = c.args.answer in
    let d = c.in-Put in
    let top = statement.Put d.line d.reference d.e in
    let is = d.is ∙ sym (stmt.rolls-Put d.line d.reference d.e) in
    record {
      orders = by_statement s who answer c.args.statement.now top is c.put_assignment.ensures;
      ends = by_ending c.args.statement.now top true is refl;
    }

pub put_statement-returns-in-PutBits : goal.put_statement-returns-in-PutBits
put_statement-returns-in-PutBits t c =
    let s = scope_with c.args.unit.now c.args.layout.now c.args.parameters.now in
    let who = c.args.who in
    let answer = c.args.answer in
    let d = c.in-PutBits in
    let top = statement.PutBits d.line d.t d.b d.reference d.e in
    let is = d.is ∙ sym (stmt.rolls-PutBits d.line d.t d.b d.reference d.e) in
    record {
      orders = by_statement s who answer c.args.statement.now top is c.put_bits.ensures;
      ends = by_ending c.args.statement.now top true is refl;
    }

pub put_statement-returns-in-Go : goal.put_statement-returns-in-Go
put_statement-returns-in-Go t c =
    let s = scope_with c.args.unit.now c.args.layout.now c.args.parameters.now in
    let who = c.args.who in
    let answer = c.args.answer in
    let d = c.in-Go in
    let top = statement.Go d.line d.dest in
    let is = d.is ∙ sym (stmt.rolls-Go d.line d.dest) in
    record {
      orders = by_statement s who answer c.args.statement.now top is c.put_go.ensures;
      ends = by_ending c.args.statement.now top false is refl;
    }

pub put_statement-returns-in-Call : goal.put_statement-returns-in-Call
put_statement-returns-in-Call t c =
    let s = scope_with c.args.unit.now c.args.layout.now c.args.parameters.now in
    let who = c.args.who in
    let answer = c.args.answer in
    let d = c.in-Call in
    let top = statement.Call d.line d.target d.arguments in
    let is = d.is ∙ sym (stmt.rolls-Call d.line d.target d.arguments) in
    record {
      orders = by_statement s who answer c.args.statement.now top is (also (λ l. statement_step s None 0 (statement.Call d.line d.target l)) c.as_slice.ensures c.put_call_statement.ensures);
      ends = by_ending c.args.statement.now top true is refl;
    }

pub put_statement-returns-in-Answer : goal.put_statement-returns-in-Answer
put_statement-returns-in-Answer t c =
    let s = scope_with c.args.unit.now c.args.layout.now c.args.parameters.now in
    let who = c.args.who in
    let answer = c.args.answer in
    let d = c.in-Answer in
    let top = statement.Answer d.line d.e in
    let is = d.is ∙ sym (stmt.rolls-Answer d.line d.e) in
    record {
      orders = by_statement s who answer c.args.statement.now top is c.put_answer.ensures;
      ends = by_ending c.args.statement.now top false is refl;
    }

pub put_statement-returns-in-If : goal.put_statement-returns-in-If
put_statement-returns-in-If t c =
    let s = scope_with c.args.unit.now c.args.layout.now c.args.parameters.now in
    let who = c.args.who in
    let answer = c.args.answer in
    let d = c.in-If in
    let top = statement.If d.line d.condition d.holds d.fails in
    let is = d.is ∙ sym (stmt.rolls-If d.line d.condition d.holds d.fails) in
    let piece = statement_piece s who answer in
    let jump = also (λ v. plain (jump_past (comes_to_end d.holds) v c.reserve-end.result)) c.inner-fails.ensures
    (also (λ b. plain (jump_past b c.inner-fails.result.now c.reserve-end.result)) (c.put_statement-first.ensures.ends ∙ ap comes_to_end c.inner-holds.ensures) c.put_jump_past.ensures) in
    record {
      orders = by_statement s who answer c.args.statement.now top is
          (c.put_begin.ensures
          ⨟ chosen (condition_piece (at_line d.line s) d.condition) (jump_past (comes_to_end d.holds) d.fails) (piece d.holds) (piece d.fails) c.reserve-end.ensures c.reserve-other.ensures c.put_condition.ensures (also piece c.inner-holds.ensures c.put_statement-first.ensures.orders)
          jump c.put_mark.ensures (also piece c.inner-fails.ensures c.put_statement-second.ensures.orders) c.put_mark-in-If.ensures);
      ends = by_ending c.args.statement.now top c.one_ends.result is (c.one_ends.ensures ∙ ap₂ (λ a b. a || b) (c.put_statement-first.ensures.ends ∙ ap comes_to_end c.inner-holds.ensures) (c.put_statement-second.ensures.ends ∙ ap comes_to_end c.inner-fails.ensures));
    }

pub put_statement-returns-in-For : goal.put_statement-returns-in-For
put_statement-returns-in-For t c =
    let s = scope_with c.args.unit.now c.args.layout.now c.args.parameters.now in
    let who = c.args.who in
    let answer = c.args.answer in
    let d = c.in-For in
    let top = statement.For d.line d.looped d.reference d.elements d.body in
    let is = d.is ∙ sym (stmt.rolls-For d.line d.looped d.reference d.elements d.body) in
    let loop = λ (es : List Felem) (body : Stmt). loop_piece (at_line d.line s) d.looped d.reference es (statement_piece s who answer body) in
    record {
      orders = by_statement s who answer c.args.statement.now top is (also (loop d.elements) c.inner.ensures (also (λ es. loop es c.inner.result.now) c.as_slice-in-For.ensures c.put_loop.ensures));
      ends = by_ending c.args.statement.now top true is refl;
    }

pub put_statement-returns-in-Seq : goal.put_statement-returns-in-Seq
put_statement-returns-in-Seq t c =
    let s = scope_with c.args.unit.now c.args.layout.now c.args.parameters.now in
    let who = c.args.who in
    let answer = c.args.answer in
    let d = c.in-Seq in
    let top = statement.Seq d.statements in
    let is = d.is ∙ sym (stmt.rolls-Seq d.statements) in
    record {
      orders = by_statement s who answer c.args.statement.now top is (also (λ l. sequence (map (statement_piece s who answer) l)) c.members.ensures c.put_row.ensures.orders);
      ends = by_ending c.args.statement.now top c.put_row.result is (c.put_row.ensures.ends ∙ ap (λ l. list_ends true (with_ends l)) c.members.ensures);
    }

pub put_statement-returns-in-Mark : goal.put_statement-returns-in-Mark
put_statement-returns-in-Mark t c =
    let s = scope_with c.args.unit.now c.args.layout.now c.args.parameters.now in
    let who = c.args.who in
    let answer = c.args.answer in
    let d = c.in-Mark in
    let top = statement.Mark d.labels d.statement in
    let is = d.is ∙ sym (stmt.rolls-Mark d.labels d.statement) in
    record {
      orders = by_statement s who answer c.args.statement.now top is (also with_labels c.as_slice-in-Mark.ensures c.put_labels.ensures ⨟ also (statement_piece s who answer) c.inner-in-Mark.ensures c.put_statement.ensures.orders);
      ends = by_ending c.args.statement.now top c.put_statement.result is (c.put_statement.ensures.ends ∙ ap comes_to_end c.inner-in-Mark.ensures);
    }

pub put_loop-returns-in-Ok : goal.put_loop-returns-in-Ok
put_loop-returns-in-Ok t c =
    let s = scope_with c.args.unit.now c.args.layout.now c.args.parameters.now in
    let r = c.args.reference.now in
    let es = c.args.elements.now in
    let loop = begun_loop (at_line c.args.line s) (simple_step s.layout c.args.looped r es) c.args.looped r es in
    c.put_begin.ensures ⨟ looped loop (statement_piece s c.args.who c.args.answer c.args.body.now) c.in-Ok.ensures c.put_statement.ensures.orders c.end_loop.ensures

pub put_loop-returns-in-Err : goal.put_loop-returns-in-Err
put_loop-returns-in-Err t c =
    lost c.fail.ensures

pub put_row-loop-member-init : goal.put_row-loop-member-init
put_row-loop-member-init t c = (record { come = λ z rest. rest }, refl)

pub put_row-loop-member-preserved : goal.put_row-loop-member-preserved
put_row-loop-member-preserved t c =
    let piece = statement_piece (scope_with c.args.unit.now c.args.layout.now c.args.parameters.now) c.args.who c.args.answer in
    let ss = c.args.statements.now in
    let l = c.loop-member in
    let i = l.member-index in
    let e = c.put_statement-ends.ensures in (
      next_comes piece ss (sequence (map piece ss)) i c.member-item.result c.loop-member-test.true c.member-item.is l.invariant.0 e.orders,
      next_ending ss i c.member-item.result l.before c.put_statement-ends.result c.ends_behind-before.result (list_ends true (with_ends ss)) c.loop-member-test.true c.member-item.is e.ends c.ends_behind-before.ensures l.invariant.1,
    )

pub put_row-returns : goal.put_row-returns
put_row-returns t c =
    let piece = statement_piece (scope_with c.args.unit.now c.args.layout.now c.args.parameters.now) c.args.who c.args.answer in
    let ss = c.args.statements.now in
    let l = c.loop-member in
    record {
      orders = last_came piece ss (sequence (map piece ss)) l.member-index c.loop-member-test.false l.invariant.0;
      ends = last_ending ss ss l.member-index l.before refl c.loop-member-test.false l.invariant.1;
    }
