use Rattle.cw_unit.proofs.Steps.{shows-same, output-grows}
use Rattle.cw_unit.proofs.laws.runs.Goals as goal

pub returns-clause-over : goal.returns-clause-over
returns-clause-over c p input m n h = shows-same p input m n h

pub returns-clause-grows : goal.returns-clause-grows
returns-clause-grows c p input m n = output-grows p input m n
