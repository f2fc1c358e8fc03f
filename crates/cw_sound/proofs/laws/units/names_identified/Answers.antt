-- Declared names are identifiers.
use Rattle.cw_sound.proofs.Front.IdentifiedTexts.{all_identified}
use Rattle.cw_sound.proofs.laws.units.names_identified.Goals as goal

pub returns : goal.returns
returns c = all_identified
