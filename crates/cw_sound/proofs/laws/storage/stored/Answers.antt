-- The storage of a text's unit.
use Rattle.cw_make.specs.Made.{unit_of}
use Rattle.cw_sound.proofs.laws.storage.stored.Goals as goal

pub returns : goal.returns
returns c named resolves fault placed rising plain items =
    c.storage_passes.ensures (unit_of named) (c.unit_storable.ensures named.raw.now named resolves fault rising plain)
    (c.frames_owned.ensures named resolves fault placed rising plain items) (c.frames_fit.ensures named resolves fault placed rising plain items)
