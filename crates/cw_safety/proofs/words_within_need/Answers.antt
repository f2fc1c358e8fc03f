use Rattle.cw_safety.proofs.Coherence.{run-within}
use Rattle.cw_safety.proofs.words_within_need.Goals as goal

pub returns : goal.returns
returns c p input m wf = run-within p input m wf (c.configurations.ensures.calls p input m)
