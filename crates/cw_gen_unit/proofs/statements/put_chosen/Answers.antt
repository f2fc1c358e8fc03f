use Rattle.cw_gen_expr.proofs.Adding.{◌⨟◌}
use Rattle.cw_gen_unit.proofs.statements.put_chosen.Goals as goal

pub returns : goal.returns
returns c = let all = c.put_expression.ensures.orders ⨟ c.put.ensures in all
