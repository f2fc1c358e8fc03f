use Rattle.cw_built.proofs.OrderCodes.{all-coded}
use Rattle.cw_built.proofs.laws.coded.Goals as goal

pub returns : goal.returns
returns c = all-coded
