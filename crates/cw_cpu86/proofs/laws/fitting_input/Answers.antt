use Rattle.cw_cpu86.proofs.Fitting.{fitting}
use Rattle.cw_cpu86.proofs.laws.fitting_input.Goals as goal

pub returns : goal.returns
returns c = fitting
