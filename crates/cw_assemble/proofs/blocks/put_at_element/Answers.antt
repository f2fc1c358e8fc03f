use Rattle.cw_assemble.proofs.Composed.{◌⨟◌}
use Rattle.cw_assemble.proofs.blocks.put_at_element.Goals as goal

pub returns : goal.returns
returns c = let all = c.put_element_address.ensures ⨟ c.put_all.ensures in all
