use Rattle.cw_number.specs.Numbers.{numbers_of}
use Rattle.cw_make.specs.Made.{unit_of}
use Rattle.cw_sound.proofs.Names.Elements.{elements_stand}
use Rattle.cw_sound.proofs.laws.names.elements.Goals as goal

pub returns : goal.returns
returns c named resolves placed items = elements_stand named (numbers_of named) (unit_of named) resolves placed items
