-- The storage of a unit.
use Rattle.std.proofs.Common.{sym, subst}
use Rattle.cw_sound.specs.Items.Derived.{HasRisingTokens}
use Rattle.cw_sound.proofs.Items.OnBases.{parts-of-text}
use Rattle.cw_sound.proofs.Items.Standing.{storage-stands}
use Rattle.cw_sound.proofs.laws.storage.unit_storable.Goals as goal

pub returns : goal.returns
returns c raw named resolves fine rising plain =
    storage-stands named (subst HasRisingTokens (sym resolves.1) rising) (c.bases_stand.ensures raw named resolves fine rising plain) (parts-of-text named fine)
