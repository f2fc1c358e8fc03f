use Rattle.cw_run86.proofs.Runs.{reaches}
use Rattle.cw_run86.proofs.laws.keeps_to_the_run.Goals as goal

pub returns : goal.returns
returns c = reaches c.fetching.ensures.finds c.fetching.ensures.only
