use Rattle.cw_cpu86.proofs.Begins.{starts_same}
use Rattle.cw_cpu86.proofs.laws.one_start.Goals as goal

pub returns : goal.returns
returns c = starts_same
