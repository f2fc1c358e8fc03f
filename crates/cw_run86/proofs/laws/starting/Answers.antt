use Rattle.cw_run86.proofs.Begins.{begins}
use Rattle.cw_run86.proofs.laws.starting.Goals as goal

pub returns : goal.returns
returns c = begins
