use Rattle.cw_assemble.proofs.Composed.{◌⨟◌}
use Rattle.cw_assemble.proofs.arithmetic.put_product_down_before.Goals as goal

pub returns : goal.returns
returns c = let all = c.put_all.ensures ⨟ c.put_routine_before.ensures in all
