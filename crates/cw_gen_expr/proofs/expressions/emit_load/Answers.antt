use Rattle.std.proofs.lemmas.Result.{on_ok_weaker}
use Rattle.cw_gen_expr.proofs.expressions.emit_load.Goals as goal

pub returns : goal.returns
returns c = on_ok_weaker c.outcome.result c.put_load.ensures.is c.outcome.ensures
