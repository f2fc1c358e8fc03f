use Rattle.cw_items.specs.Things.{text_things}
use Rattle.cw_number.specs.Numbers.{numbers_of}
use Rattle.cw_sound.proofs.Names.DescriptorNames.{descriptors_named}
use Rattle.cw_sound.proofs.laws.names.descriptors_named.Goals as goal

pub returns : goal.returns
returns c named resolves placed = descriptors_named named (numbers_of named) (text_things named named.raw.now) resolves placed
