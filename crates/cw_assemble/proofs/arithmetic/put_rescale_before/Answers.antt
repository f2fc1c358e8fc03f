use Rattle.cw_assemble.proofs.BeforeChecks.{times_as}
use Rattle.cw_assemble.proofs.arithmetic.put_rescale_before.Goals as goal

pub returns : goal.returns
returns c = times_as _ _ _ _ c.power.ensures c.put_times_before.ensures
