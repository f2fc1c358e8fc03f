use Rattle.std.proofs.Common.{sym, ◌∙◌}
use Rattle.cw_make_expr.proofs.handed.expression_handed.Goals as goal

pub returns-in-None : goal.returns-in-None
returns-in-None c = c.no_argument.ensures ∙ sym (c.in-None.ensures c.args.named.now c.args.numbers.now)
