-- What is stored stands where names ask for it.
use Rattle.cw_sound.proofs.Units.Declared.{items_declared}
use Rattle.cw_sound.proofs.laws.units.items_declared.Goals as goal

pub returns : goal.returns
returns c named resolves stand = items_declared named resolves stand
