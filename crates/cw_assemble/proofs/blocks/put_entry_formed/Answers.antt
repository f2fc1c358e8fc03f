use Rattle.cw_assemble.proofs.Composed.{◌⨟◌}
use Rattle.cw_assemble.proofs.blocks.put_entry_formed.Goals as goal

pub returns : goal.returns
returns c = let all = c.put_times_entry.ensures ⨟ c.put_all.ensures in all
