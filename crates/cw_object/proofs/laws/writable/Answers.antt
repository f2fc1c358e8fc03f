use Rattle.cw_object.proofs.Written.{writable}
use Rattle.cw_object.proofs.laws.writable.Goals as goal

pub returns : goal.returns
returns c = writable
