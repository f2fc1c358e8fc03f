use Rattle.cw_safety.proofs.Stepping.{never-stuck}
use Rattle.cw_safety.proofs.never_stuck.Goals as goal

pub returns : goal.returns
returns c p input m wf = never-stuck p input m wf
