use Rattle.cw_gen_expr.proofs.expressions.emit_expression.Goals as goal

pub returns-clause-orders : goal.returns-clause-orders
returns-clause-orders c = c.put_expression-known.ensures.orders.is c.in_ok-outcome.ensures

pub returns-clause-known : goal.returns-clause-known
returns-clause-known c = c.put_expression-known.ensures.known c.in_ok-outcome.ensures
