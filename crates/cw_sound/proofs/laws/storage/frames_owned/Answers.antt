-- The owners of the items of a text.
use Rattle.std.proofs.Common.{refl, ap, ◌∙◌}
use Rattle.cw_items.specs.Things.{text_things}
use Rattle.cw_unit.specs.declared.unit.Item.{Item}
use Rattle.cw_number.specs.Listed.{listed_of}
use Rattle.cw_number.specs.Numbers.{numbers_of}
use Rattle.cw_make_items.specs.Items.{addresses_of}
use Rattle.cw_preset.specs.Held.{held_of}
use Rattle.cw_make.specs.Made.{unit_of}
use Rattle.cw_sound.proofs.Names.OwnDeclarations.{Made}
use Rattle.cw_sound.proofs.Items.Numbering.{made-of}
use Rattle.cw_sound.proofs.Storage.FramesOwned.{IsProcedure, all_procedures, thing_owned, owner_within}
use Rattle.cw_sound.proofs.laws.storage.frames_owned.Goals as goal

pub returns : goal.returns
returns c named resolves fault placed rising plain items i x q there framed owned =
    let raw = named.raw.now in
    let numbers = numbers_of named in
    let u = unit_of named in
    let counts = c.counts.ensures named resolves placed items in
    let made : Made named numbers u = record { procs = refl; labels = refl; switches = refl; body = refl } in
    let t = made-of named.declarations numbers (listed_of raw) (addresses_of raw.comms) (held_of raw) (text_things named raw) i x there in
    owner_within named numbers u resolves placed counts made t.0 q (thing_owned (IsProcedure numbers u) numbers named (all_procedures named numbers u resolves placed counts made) i t.0 t.1)
    (ap (λ (y : Item). y.owner) t.2 ∙ owned)
