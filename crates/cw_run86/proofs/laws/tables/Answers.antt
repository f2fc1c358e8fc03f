use Rattle.cw_run86.proofs.Jumps.{through_table}
use Rattle.cw_run86.proofs.laws.tables.Goals as goal

pub returns : goal.returns
returns c = through_table c.fetching.ensures.finds
