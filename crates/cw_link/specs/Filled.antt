-- The words of the data area while presets fill them.
use Rattle.std.specs.Prelude.{◌≡◌, ◌<◌, ℕ, List, length, Option, Some, None, slice_index_or, Bool, true, nat_lt, option_map}
use Rattle.cw_link.specs.Presets.{FilledWord, source_of, first_at, NoPresetClash, IsPresetClash}
use Rattle.cw_link.specs.declared.filled.Filled.{Filled}

abbrev pub TellsClash : List FilledWord → Option (ℕ × ℕ × ℕ) → Type 0
TellsClash ps None = NoPresetClash ps
TellsClash ps (Some c) = IsPresetClash ps c.0 c.1 c.2

-- these presets have filled the words
pub record HasFilled (ps : List FilledWord) (f : Filled) : Type 0 where
  pub words : (a : ℕ) → a < length f.words.items → slice_index_or f.words.items a None ≡ option_map source_of (first_at a ps)
  pub clash : TellsClash ps f.clash

abbrev pub is_lowest : Option (ℕ × ℕ × ℕ) → (address : ℕ) → Bool
is_lowest None a = true
is_lowest (Some c) a = nat_lt a c.0
