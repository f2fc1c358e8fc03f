use Rattle.cw_checks_meaning.proofs.Runs.{all-run}
use Rattle.cw_checks_meaning.proofs.counted_steps.Goals as goal

pub returns : goal.returns
returns c = all-run.of_counted
