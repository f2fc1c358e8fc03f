-- The items are few and in reach.
use Rattle.cw_sound.proofs.laws.units.items_fit.Goals as goal

pub returns : goal.returns
returns c named resolves fine rising plain =
    let s = c.unit_storable.ensures named.raw.now named resolves fine rising plain in
    record { storable = s.storable; few = s.few; reach = s.reach }
