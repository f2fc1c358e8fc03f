use Rattle.cw_actions.proofs.Resulting.Steps.{unlinked_is}
use Rattle.cw_actions.proofs.results.unlinking.unlinked.Goals as goal

pub returns-in_default : goal.returns-in_default
returns-in_default c = unlinked_is c.args.fault c.in_default.not-NoMemory
