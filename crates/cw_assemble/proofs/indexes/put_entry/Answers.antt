use Rattle.cw_assemble.proofs.Composed.{◌⨟◌}
use Rattle.cw_assemble.proofs.indexes.put_entry.Goals as goal

pub returns : goal.returns
returns c =
    let all = c.put_base_kept.ensures ⨟ c.put_times_width.ensures ⨟ c.put_plus_word.ensures ⨟ c.put_based.ensures in all
