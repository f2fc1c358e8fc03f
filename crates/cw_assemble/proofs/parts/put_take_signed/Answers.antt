use Rattle.cw_assemble.proofs.Composed.{◌⨟◌}
use Rattle.cw_assemble.proofs.parts.put_take_signed.Goals as goal

pub returns : goal.returns
returns c = let all = c.put_shifted_up.ensures ⨟ c.put_shifted_down_signed.ensures in all
