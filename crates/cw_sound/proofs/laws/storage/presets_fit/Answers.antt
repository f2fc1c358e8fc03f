-- What the items of a text's unit hold.
use Rattle.cw_sound.proofs.Presets.Texts.{text_held}
use Rattle.cw_sound.proofs.Presets.Items.{words_held, framed_empty}
use Rattle.cw_sound.proofs.laws.storage.presets_fit.Goals as goal

pub returns : goal.returns
returns c n ts named d h resolves fine rising plain =
    let free = c.parts_free.ensures named fine in
    let bases = c.bases_stand.ensures named.raw.now named resolves fine rising plain in
    let held = text_held n ts named d h rising bases free in
    record {
      within = (c.unit_storable.ensures named.raw.now named resolves fine rising plain).presets;
      words = words_held named rising bases held;
      apart = framed_empty named rising bases held free;
    }
