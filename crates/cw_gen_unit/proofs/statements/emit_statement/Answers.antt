use Rattle.cw_gen_unit.proofs.statements.emit_statement.Goals as goal

pub returns-clause-orders : goal.returns-clause-orders
returns-clause-orders c = c.put_statement-ends.ensures.orders.is c.in_ok-outcome.ensures

pub returns-clause-ends : goal.returns-clause-ends
returns-clause-ends c = c.put_statement-ends.ensures.ends
