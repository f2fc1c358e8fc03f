use Rattle.cw_actions.proofs.Going.OneStatus.{one_status_of, one_status}
use Rattle.cw_actions.proofs.go.laws.one_status_of_texts.Goals as goal

pub returns : goal.returns
returns c =
    one_status (one_status_of c.known_texts.ensures.one (record { starts = c.one_start.ensures; once = c.one_observation.ensures }))
