-- What comes of a text is one thing.
use Rattle.std.proofs.Common.{◌≡◌, List, ℕ, refl}
use Rattle.cw_unit.specs.declared.unit.Unit.{Unit as SourceUnit}
use Rattle.cw_make.specs.Made.{unit_of}
use Rattle.cw_compile.specs.declared.fault.Refusal.{Refusal}
use Rattle.cw_compile.specs.Texts.{IsCanonicalOf, IsRefused}
use Rattle.cw_files.specs.Texts.{HasUnit}
use Rattle.cw_actions.specs.Resulting.Texts.{OneOfText}

module _ (given : OneOfText) (text : List ℕ) where
  pub one_unit : (u v : SourceUnit) → HasUnit text u → HasUnit text v → u ≡ v
  one_unit u v x y = given.one_unit text u v x.is_unit y.is_unit

  pub not_refused : (u : SourceUnit) (fault : Refusal) → HasUnit text u → IsRefused text fault → ⊥
  not_refused u fault x y = given.not_both text u fault x.is_unit y

  -- a text that has a canonical text has a unit
  pub shown_not_refused : (shown : List ℕ) (fault : Refusal) → IsCanonicalOf text shown → IsRefused text fault → ⊥
  shown_not_refused shown fault x y = given.not_both text (unit_of x.named) fault (record { named = x.named; has = x.has; unit_is = refl }) y
