use Rattle.cw_checks_meaning.proofs.WellFormed.{expressions-formed, addresses-formed, control-formed, procedures-formed, segments-formed, more-formed, frames-formed, calls-formed, filter-formed}
use Rattle.cw_checks_meaning.proofs.well_formed.Goals as goal

pub returns : goal.returns
returns c = record { expressions = expressions-formed; addresses = addresses-formed; control = control-formed; procedures = procedures-formed; segments = segments-formed; more = more-formed; frames = frames-formed; calls = calls-formed; filter = filter-formed }
