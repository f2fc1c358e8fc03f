-- What a text overlays stands on things before it.
use Rattle.std.proofs.Common.{sym, subst, ◌∙◌, ap}
use Rattle.cw_scope.specs.Text.{first_name_fault, resolutions_of}
use Rattle.cw_number.specs.Numbers.{numbers_of}
use Rattle.cw_sound.specs.Items.Derived.{HasRisingTokens, HasPlainProcedures}
use Rattle.cw_sound.proofs.Items.OnBases.{bases-stand}
use Rattle.cw_sound.proofs.laws.storage.bases_stand.Goals as goal

pub returns : goal.returns
returns c raw named resolves fine rising plain =
    bases-stand named (ap first_name_fault resolves.1 ∙ resolves.0) (resolves.2 ∙ ap resolutions_of (sym resolves.1)) fine (subst HasRisingTokens (sym resolves.1) rising) (subst HasPlainProcedures (sym resolves.1) plain) (numbers_of named)
