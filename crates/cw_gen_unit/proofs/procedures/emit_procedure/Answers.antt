use Rattle.std.proofs.Common.{◌≡◌, ◌∷◌, Some, sym, ap, ap₂, ◌∙◌}
use Rattle.std.proofs.lemmas.Result.{on_ok_weaker}
use Rattle.std.specs.Prelude.{slice_index}
use Rattle.cw_unit.specs.Configuration.{fraction_of_answer}
use Rattle.cw_order.specs.declared.order.Order.TheVariants as order
use Rattle.cw_gen_expr.specs.Pieces.{plain, followed_by}
use Rattle.cw_gen_expr.specs.Output.{made, added}
use Rattle.cw_gen_expr.specs.ReferenceExpressions.{scope_with}
use Rattle.cw_gen_expr.specs.ReferenceEntries.{scope_of, parameters_in, bind_orders}
use Rattle.cw_gen_unit.specs.ReferenceStatements.{statement_piece}
use Rattle.cw_gen_unit.specs.ReferenceUnits.{answer_of, entry_orders, leave_with, leave_orders}
use Rattle.cw_gen_expr.proofs.Making.{two_steps}
use Rattle.cw_gen_unit.proofs.procedures.emit_procedure.Goals as goal

pub returns : goal.returns
returns c =
    let u = c.args.unit.now in
    let p = c.args.number in
    let q = c.args.procedure.now in
    let x = made c.args.out.now in
    let x1 = made c.emit_entry.new.out in
    let x2 = made c.emit_statement.new.out in
    let x3 = made c.emit_leave.new.out in
    let scope : scope_with u c.args.layout.now c.as_slice-parameters.result.now ≡ scope_of u (Some p) = ap₂ (scope_with u) c.requires.of_unit (c.as_slice-parameters.ensures ∙ ap parameters_in (sym c.requires.numbered)) in
    let answer : c.answer_scale.result ≡ answer_of u (Some p) = c.answer_scale.ensures ∙ ap fraction_of_answer (sym c.requires.numbered) in
    let entry : made c.emit_entry.new.out ≡ added (plain (entry_orders u p q)) x =
    c.in_ok-emit_entry.ensures ∙ ap₂ (λ l ps. added (plain (order.Enter (slice_index l.frames p) ∷ bind_orders l ps)) x) c.requires.of_unit c.as_slice-parameters.ensures in
    let body = statement_piece (scope_of u (Some p)) (Some p) (answer_of u (Some p)) q.body in
    let ended = plain (leave_orders q) in
    on_ok_weaker c.emit_leave.result
    (λ h. two_steps (plain (entry_orders u p q)) (followed_by body ended) x x1 x3 entry
    (two_steps body ended x1 x2 x3 (c.in_ok-ends.ensures.orders ∙ ap₂ (λ s a. added (statement_piece s (Some p) a q.body) x1) scope answer) (h ∙ ap₂ (λ e ps. added (plain (leave_with e ps)) x2) c.in_ok-ends.ensures.ends c.as_slice-parameters.ensures)))
    c.emit_leave.ensures
