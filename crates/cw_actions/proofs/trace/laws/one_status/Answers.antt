use Rattle.cw_actions.proofs.Going.OneStatus.{one_status_of}
use Rattle.cw_actions.proofs.Tracing.OneStatus.{one_status}
use Rattle.cw_actions.proofs.trace.laws.one_status.Goals as goal

pub returns : goal.returns
returns c =
    one_status (one_status_of c.known_texts.ensures.one (record { starts = c.one_start.ensures; once = c.one_observation.ensures }))
