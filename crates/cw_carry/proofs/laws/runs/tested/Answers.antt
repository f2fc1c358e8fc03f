use Rattle.cw_carry.proofs.Runs.Testing.{tested}
use Rattle.cw_carry.proofs.laws.runs.tested.Goals as goal

pub returns : goal.returns
returns c us h = tested us h
