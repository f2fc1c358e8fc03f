use Rattle.cw_gen_expr.specs.Pieces.{plain}
use Rattle.cw_gen_expr.specs.ReferenceExpressions.{scope_with, at_line}
use Rattle.cw_gen_expr.proofs.Adding.{◌⨟◌, also}
use Rattle.cw_gen_unit.proofs.Chains.{address}
use Rattle.cw_gen_unit.proofs.statements.put_assignment.Goals as goal

pub returns : goal.returns
returns c =
    let s = at_line c.args.line (scope_with c.args.unit.now c.args.layout.now c.args.parameters.now) in
    let all = c.put_begin.ensures ⨟ c.put_expression.ensures.orders ⨟ c.put.ensures ⨟ address s c.args.reference.now c.put_address.ensures ⨟ also plain c.store_order.ensures c.put-2.ensures in
    all
