use Rattle.std.proofs.Common.{rules, ◌≡◌, ◌+◌, ◌++◌, length, drop, ap, ◌∙◌, arith}
use Rattle.cw_gen_expr.specs.ReferenceExpressions.{scope_with, at_line}
use Rattle.cw_gen_unit.specs.ReferenceStatements.{elements_piece, element_ways}
use Rattle.cw_gen_unit.proofs.Chains.{next_element, next_way}
use Rattle.cw_gen_unit.proofs.elements.put_elements.Goals as goal

pub loop-element-preserved : goal.loop-element-preserved
loop-element-preserved c =
    let s = at_line c.args.line (scope_with c.args.unit.now c.args.layout.now c.args.parameters.now) in
    let item = c.args.looped in
    let f = c.args.scale in
    let set = c.args.set in
    let body = c.args.body in
    let es = c.args.elements.now in
    let l = c.loop-element in
    let i = l.element-index in
    let n = c.in_ok-number.number in
    let next : n ≡ l.number + 1 = search rules in
    let counted : n ≡ i + 1 = omega (arith, next, l.invariant.counted) in
    let e = c.element-item.result in
    let lt = c.loop-element-test.true in
    let at = c.element-item.is in
    let added = c.put_element-way.ensures in
    let x = c.put_element-way.new.out in
    record {
      counted = counted;
      ways = λ h.
          ap (λ w. w ++ element_ways s item f set body (i + 1 + 1) (drop (i + 1) es) (length x.orders) (length x.marks.items)) c.in_ok-push.ensures.ok
          ∙ next_way s item f set body es i n e lt at counted l.out x l.ways (element_ways s item f set body 1 es (length c.args.out.now.orders) (length c.args.out.now.marks.items)) c.put_element-way.result h (added.way h) added.orders
          (l.invariant.ways (added.orders.held h));
      orders = next_element s item f set body es i n e lt at counted (elements_piece s item f set body 1 es) l.invariant.orders added.orders;
    }
