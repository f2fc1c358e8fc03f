-- The definitions of a text.
use Rattle.std.proofs.Common.{refl}
use Rattle.cw_items.specs.Things.{text_things}
use Rattle.cw_number.specs.Numbers.{numbers_of}
use Rattle.cw_make.specs.Made.{unit_of}
use Rattle.cw_sound.proofs.Storage.Meeting.{all_met}
use Rattle.cw_sound.proofs.laws.storage.definitions_met.Goals as goal

pub returns : goal.returns
returns c named resolves fault placed items =
    all_met named (numbers_of named) (unit_of named) resolves placed (c.counts.ensures named resolves placed items) (record { procs = refl; labels = refl; switches = refl; body = refl })
    (c.all_stand.ensures named resolves fault placed items) (text_things named named.raw.now) refl
