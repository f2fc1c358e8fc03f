-- The storage of a unit.
use Rattle.cw_sound.proofs.Storage.Passing.{passes}
use Rattle.cw_sound.proofs.laws.storage.storage_passes.Goals as goal

pub returns : goal.returns
returns c u stands owned fit = passes u stands owned fit
