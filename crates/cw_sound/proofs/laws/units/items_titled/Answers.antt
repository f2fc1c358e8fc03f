-- The names of items.
use Rattle.cw_sound.proofs.Written.Titles.{items_titled}
use Rattle.cw_sound.proofs.laws.units.items_titled.Goals as goal

pub returns : goal.returns
returns c named resolves names = items_titled named resolves names
