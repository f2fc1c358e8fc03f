use Rattle.std.proofs.Common.{ℕ, [], ◌∷◌, length, sym, ap, ◌∙◌, length-append}
use Rattle.cw_order.specs.declared.order.Order.TheVariants as order
use Rattle.cw_gen_expr.specs.Pieces.{plain, followed_by, with_end}
use Rattle.cw_gen_expr.specs.ReferenceExpressions.{scope_with, at_line, expression_piece}
use Rattle.cw_gen_unit.specs.ReferenceStatements.{number_orders, bump_orders, turn_piece, while_values, step_values, way_mark, element_piece}
use Rattle.cw_gen_expr.proofs.Adding.{◌⨟◌, also, ending, nothing}
use Rattle.cw_gen_unit.proofs.Chains.{middle}
use Rattle.cw_gen_unit.proofs.elements.put_element.Goals as goal

pub returns-in-One : goal.returns-in-One
returns-in-One c =
    let s = at_line c.args.line (scope_with c.args.unit.now c.args.layout.now c.args.parameters.now) in
    let f = c.args.scale in
    let body = c.put_number.ensures ⨟ c.put_expression.ensures.orders ⨟ c.put.ensures in
    record {
      way = λ h. c.reserve-next.ensures.next (body.held (c.put_mark.ensures.held h)) ∙ ap (λ e. way_mark e (length c.args.out.now.marks.items)) (sym c.in-One.is);
      orders = also (element_piece s c.args.looped f c.args.set c.args.body c.args.number) (sym c.in-One.is)
          (ending (λ k. followed_by (plain (number_orders s.layout c.args.looped c.args.number)) (followed_by (expression_piece s c.in-One.e f) (plain (order.Jump c.args.set ∷ [])))) c.reserve-next.ensures body c.put_mark.ensures);
    }

pub returns-in-While : goal.returns-in-While
returns-in-While c =
    let s = at_line c.args.line (scope_with c.args.unit.now c.args.layout.now c.args.parameters.now) in
    let d = c.in-While in
    let values = λ (k : ℕ). while_values s c.args.looped c.args.scale c.args.body k c.args.number d.e d.condition in
    let behind = ending values c.reserve-next-in-While.ensures c.put_while.ensures c.put_mark-in-While-2.ensures in
    record {
      way = λ h. c.reserve-own.ensures.next (c.put_mark-in-While.ensures.held (behind.held h)) ∙ ap (λ e. way_mark e (length c.args.out.now.marks.items)) (sym d.is);
      orders = also (element_piece s c.args.looped c.args.scale c.args.set c.args.body c.args.number) (sym d.is)
          (middle (λ k. plain []) (λ k. with_end values) c.reserve-own.ensures nothing c.put_mark-in-While.ensures behind);
    }

pub returns-in-Step : goal.returns-in-Step
returns-in-Step c =
    let s = at_line c.args.line (scope_with c.args.unit.now c.args.layout.now c.args.parameters.now) in
    let d = c.in-Step in
    let ms = c.args.out.now.marks.items in
    let values = λ (k : ℕ). step_values s c.args.looped c.args.scale k c.args.number d.first d.step d.limit in
    let first = λ (k : ℕ). followed_by (with_end (λ b. values k)) (plain (bump_orders s.layout c.args.line c.args.looped)) in
    let bumped = ending (λ b. values c.reserve-turn.result) c.reserve-bump.ensures c.put_step.ensures c.put_mark-in-Step.ensures ⨟ c.put_bump.ensures in
    record {
      way = λ h.
          let g = bumped.held (c.put_mark-in-Step-2.ensures.held (c.put_turn.ensures.held h)) in
          let k = c.put_step.ensures.held (c.put_mark-in-Step.ensures.held (c.put_bump.ensures.held (c.put_mark-in-Step-2.ensures.held (c.put_turn.ensures.held h)))) in
          c.reserve-bump.ensures.next k ∙ ap (λ z. length z.marks) (c.reserve-turn.ensures.is g) ∙ length-append ms (0 ∷ [])
          ∙ ap (λ e. way_mark e (length ms)) (sym d.is);
      orders = also (element_piece s c.args.looped c.args.scale c.args.set c.args.body c.args.number) (sym d.is)
          (middle first (λ k. turn_piece s.layout c.args.line c.args.looped c.args.body) c.reserve-turn.ensures bumped c.put_mark-in-Step-2.ensures c.put_turn.ensures);
    }
