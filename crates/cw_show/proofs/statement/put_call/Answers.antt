use Rattle.cw_show.specs.Canonical.{comma}
use Rattle.cw_show.specs.ExpressionTokens.{expr_tokens}
use Rattle.cw_show.proofs.Adding.{none_listed, some_listed}
use Rattle.cw_show.proofs.statement.put_call.Goals as goal

pub returns-in-empty : goal.returns-in-empty
returns-in-empty c = none_listed comma expr_tokens c.args.arguments.now c.args.out.now c.in-empty.len_below

pub returns-in-len1-up : goal.returns-in-len1-up
returns-in-len1-up c = some_listed comma expr_tokens c.args.arguments.now c.in-len1-up.len_at_least c.put_arguments.ensures
