use Rattle.cw_actions.proofs.Executing.Statuses.{one_status}
use Rattle.cw_actions.proofs.exec.laws.one_status_of_exec.Goals as goal

pub returns : goal.returns
returns c = one_status (record { starts = c.one_start.ensures; once = c.one_observation.ensures })
