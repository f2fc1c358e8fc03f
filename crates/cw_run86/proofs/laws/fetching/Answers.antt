use Rattle.cw_run86.proofs.Tests.{found, only_found}
use Rattle.cw_run86.proofs.laws.fetching.Goals as goal

pub returns : goal.returns
returns c = record { finds = found c.rows_read_back.ensures; only = only_found }
