use Rattle.cw_unit.proofs.Steps.{memory-length}
use Rattle.cw_unit.proofs.Activations.{few-calls, frames-apart}
use Rattle.cw_unit.proofs.laws.configurations.Goals as goal

pub returns-clause-memory : goal.returns-clause-memory
returns-clause-memory c p input m = memory-length p input m

pub returns-clause-calls : goal.returns-clause-calls
returns-clause-calls c p input m = few-calls p input m

pub returns-clause-frames : goal.returns-clause-frames
returns-clause-frames c p input m = frames-apart p input m
