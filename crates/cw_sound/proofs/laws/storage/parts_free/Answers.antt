-- The parts of a text without faults.
use Rattle.cw_sound.proofs.Items.OnBases.{parts-of-text}
use Rattle.cw_sound.proofs.laws.storage.parts_free.Goals as goal

pub returns : goal.returns
returns c = parts-of-text
