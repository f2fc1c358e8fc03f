use Rattle.std.proofs.lemmas.Result.{on_ok_weaker}
use Rattle.cw_gen_expr.proofs.expressions.emit_condition.Goals as goal

pub returns : goal.returns
returns c = on_ok_weaker c.outcome.result c.put_condition.ensures.is c.outcome.ensures
