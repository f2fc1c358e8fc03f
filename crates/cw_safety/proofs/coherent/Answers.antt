use Rattle.cw_safety.proofs.Coherence.{run-coherent}
use Rattle.cw_safety.proofs.coherent.Goals as goal

pub returns : goal.returns
returns c p input m wf = run-coherent p wf input m
