use Rattle.cw_number.specs.Numbers.{numbers_of}
use Rattle.cw_items.specs.Things.{text_things}
use Rattle.cw_sound.proofs.Names.BuiltIns.{answers_called}
use Rattle.cw_sound.proofs.laws.names.answers_are_called.Goals as goal

pub returns : goal.returns
returns c named resolves placed = answers_called named (numbers_of named) (text_things named named.raw.now) resolves placed
