use Rattle.cw_safety.proofs.Testing.{tested}
use Rattle.cw_safety.proofs.tested.Goals as goal

pub returns : goal.returns
returns c p h = tested p h
