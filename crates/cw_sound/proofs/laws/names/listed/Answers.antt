use Rattle.std.proofs.Common.{refl}
use Rattle.cw_number.specs.Numbers.{numbers_of}
use Rattle.cw_make.specs.Made.{unit_of}
use Rattle.cw_sound.proofs.Names.ListedStands.{listed_stand}
use Rattle.cw_sound.proofs.laws.names.listed.Goals as goal

pub returns : goal.returns
returns c named resolves placed items = listed_stand named (numbers_of named) (unit_of named) resolves placed items refl refl (c.descriptors_named.ensures named resolves placed)
