use Rattle.cw_checks_meaning.proofs.Runs.{all-run}
use Rattle.cw_checks_meaning.proofs.examples.Goals as goal

pub returns : goal.returns
returns c = record { expressions = all-run.of_expressions; addresses = all-run.of_addresses; control = all-run.of_control; procedures = all-run.of_procedures; frames = all-run.of_frames; segments = all-run.of_segments; more = all-run.of_more }
