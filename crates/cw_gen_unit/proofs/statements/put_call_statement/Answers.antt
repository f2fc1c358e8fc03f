use Rattle.cw_gen_expr.proofs.Adding.{◌⨟◌}
use Rattle.cw_gen_unit.proofs.statements.put_call_statement.Goals as goal

pub returns : goal.returns
returns c = let all = c.put_begin.ensures ⨟ c.put_arguments.ensures ⨟ c.put_call.ensures ⨟ c.put_after_call.ensures in all
