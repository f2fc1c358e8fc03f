use Rattle.cw_gen_expr.proofs.Adding.{◌⨟◌}
use Rattle.cw_gen_expr.proofs.output.Output.put_two.Goals as goal

pub returns : goal.returns
returns c = let both = c.put.ensures ⨟ c.put-2.ensures in both
