-- The words at the start are in the format.
use Rattle.cw_writable.proofs.Front.Families.{presets_set}
use Rattle.cw_writable.proofs.laws.front.presets_set.Goals as goal

pub returns : goal.returns
returns c u fit presets = presets_set u fit presets
