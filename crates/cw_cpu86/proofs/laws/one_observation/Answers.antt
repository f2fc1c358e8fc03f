use Rattle.cw_cpu86.proofs.Once.{shows_same}
use Rattle.cw_cpu86.proofs.laws.one_observation.Goals as goal

pub returns : goal.returns
returns c = shows_same c.no_instruction_begins_another.ensures.front
