-- The frames of a text's unit.
use Rattle.cw_number.specs.Numbers.{numbers_of}
use Rattle.cw_sound.proofs.Items.OnBases.{parts-of-text}
use Rattle.cw_sound.proofs.Storage.ProcedureNumbers.{all_counted}
use Rattle.cw_sound.proofs.Storage.FramesFit.{fits}
use Rattle.cw_sound.proofs.laws.storage.frames_fit.Goals as goal

pub returns : goal.returns
returns c named resolves fault placed rising plain items q within =
    fits named rising (c.bases_stand.ensures named.raw.now named resolves fault rising plain) (parts-of-text named fault).things q
    (all_counted named (numbers_of named) placed (c.counts.ensures named resolves placed items))
