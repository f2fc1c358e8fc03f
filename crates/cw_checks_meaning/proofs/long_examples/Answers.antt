use Rattle.cw_checks_meaning.proofs.LongRuns.{calls-run, filter-run}
use Rattle.cw_checks_meaning.proofs.long_examples.Goals as goal

pub returns : goal.returns
returns c = record { calls = calls-run; filter = filter-run }
