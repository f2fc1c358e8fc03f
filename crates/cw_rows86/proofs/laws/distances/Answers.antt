use Rattle.cw_rows86.proofs.Jumping.{forward, backward}
use Rattle.cw_rows86.proofs.laws.distances.Goals as goal

pub returns : goal.returns
returns c = record { forward = forward; backward = backward }
