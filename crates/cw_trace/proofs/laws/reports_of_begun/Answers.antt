use Rattle.cw_trace.proofs.Begun.{tells_of_begun}
use Rattle.cw_trace.proofs.laws.reports_of_begun.Goals as goal

pub returns : goal.returns
returns c = tells_of_begun (record { one = c.no_instruction_begins_another.ensures.front; once = c.one_observation.ensures })
