use Rattle.cw_gen_expr.proofs.Adding.{◌⨟◌}
use Rattle.cw_gen_unit.proofs.elements.put_while.Goals as goal

pub returns : goal.returns
returns c = let all = c.put_number.ensures ⨟ c.put_expression.ensures.orders ⨟ c.put_set.ensures ⨟ c.put_condition.ensures ⨟ c.put.ensures in all
