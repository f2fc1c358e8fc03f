use Rattle.cw_comm.proofs.Differences.{found}
use Rattle.cw_comm.proofs.laws.first_difference.Goals as goal

pub returns : goal.returns
returns c = found
