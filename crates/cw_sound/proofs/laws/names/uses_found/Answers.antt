use Rattle.cw_number.specs.Numbers.{numbers_of}
use Rattle.cw_sound.proofs.Names.UsesFound.{uses_found}
use Rattle.cw_sound.proofs.laws.names.uses_found.Goals as goal

pub returns : goal.returns
returns c named resolves placed = uses_found named resolves placed (numbers_of named)
