-- What is known of what a text declares.
use Rattle.cw_number.specs.Numbers.{numbers_of}
use Rattle.cw_sound.proofs.Ranged.Declared.{declarations_ranged}
use Rattle.cw_sound.proofs.laws.statements.declarations.Goals as goal

pub returns : goal.returns
returns c named resolves fault = declarations_ranged named (numbers_of named) (c.parts_free.ensures named fault) resolves
