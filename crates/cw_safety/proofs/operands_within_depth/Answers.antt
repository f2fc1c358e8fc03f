use Rattle.cw_safety.proofs.Stepping.{depth-kept}
use Rattle.cw_safety.proofs.operands_within_depth.Goals as goal

pub returns : goal.returns
returns c p input m wf = depth-kept p input m wf
