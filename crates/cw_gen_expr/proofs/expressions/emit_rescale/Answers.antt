use Rattle.std.proofs.lemmas.Result.{on_ok_weaker}
use Rattle.cw_gen_expr.proofs.expressions.emit_rescale.Goals as goal

pub returns : goal.returns
returns c = on_ok_weaker c.outcome.result c.put_rescale.ensures.is c.outcome.ensures
