use Rattle.cw_keyed.proofs.Numbers.{one_specification}
use Rattle.cw_keyed.proofs.laws.one_specification.Goals as goal

pub returns : goal.returns
returns c = one_specification
