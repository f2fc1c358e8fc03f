-- Each thing of a text is an item of its unit.
use Rattle.std.proofs.Common.{sym, ap, subst, ◌∙◌}
use Rattle.cw_scope.specs.Text.{declarations_of}
use Rattle.cw_sound.specs.Items.Derived.{HasRisingTokens}
use Rattle.cw_sound.proofs.Items.Standing.{items-stand}
use Rattle.cw_sound.proofs.laws.storage.items_stand.Goals as goal

pub returns : goal.returns
returns c raw named resolves fine rising plain =
    items-stand named (subst HasRisingTokens (sym resolves.1) rising) (c.bases_stand.ensures raw named resolves fine rising plain) (resolves.3 ∙ ap declarations_of (sym resolves.1))
