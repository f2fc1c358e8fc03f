use Rattle.cw_order.proofs.StandingActivations.{step-stands}
use Rattle.cw_order.proofs.laws.activations.Goals as goal

pub returns : goal.returns
returns c p s callable stands = step-stands p callable s stands
