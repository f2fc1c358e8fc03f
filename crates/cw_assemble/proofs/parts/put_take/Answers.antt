use Rattle.cw_assemble.proofs.Composed.{◌⨟◌}
use Rattle.cw_assemble.proofs.parts.put_take.Goals as goal

pub returns : goal.returns
returns c = let all = c.put_shifted_down.ensures ⨟ c.put_lowest.ensures in all
