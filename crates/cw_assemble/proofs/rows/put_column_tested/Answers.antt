use Rattle.cw_assemble.proofs.Composed.{◌⨟◌}
use Rattle.cw_assemble.proofs.rows.put_column_tested.Goals as goal

pub returns : goal.returns
returns c = let all = c.put_column_loaded.ensures ⨟ c.put_column_compared.ensures in all
