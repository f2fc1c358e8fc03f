use Rattle.cw_run86.proofs.Runs.{shows}
use Rattle.cw_run86.proofs.laws.shows_the_run.Goals as goal

pub returns : goal.returns
returns c = shows c.fetching.ensures.finds c.fetching.ensures.only
