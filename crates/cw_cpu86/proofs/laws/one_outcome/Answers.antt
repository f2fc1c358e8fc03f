use Rattle.cw_cpu86.proofs.Once.{steps_same}
use Rattle.cw_cpu86.proofs.laws.one_outcome.Goals as goal

pub returns : goal.returns
returns c = steps_same c.no_instruction_begins_another.ensures.front
