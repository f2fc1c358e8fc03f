-- The words that presets fill, and the presets that clash.
use Rattle.std.specs.Prelude.{◌≡◌, ◌<◌, ℕ, nat_eq, not, ◌&&◌, Bool, List, Option, Some, None, option_map, find}

-- a preset of a segment, counted from 1, at its address
pub record FilledWord : Type 0 where
  pub segment : ℕ
  pub address : ℕ
  pub word : ℕ

abbrev pub stands_at : (address : ℕ) → FilledWord → Bool
stands_at a p = nat_eq a p.address

-- what is told of it
abbrev pub source_of : FilledWord → ℕ × ℕ
source_of p = (p.segment, p.word)

-- the first preset of a word
abbrev pub first_at : (address : ℕ) → List FilledWord → Option FilledWord
first_at a ps = find (stands_at a) ps

-- the first preset that gives a word another value than this one
abbrev pub other_at : (address word : ℕ) → List FilledWord → Option FilledWord
other_at a w ps = find (λ p. stands_at a p && not (nat_eq w p.word)) ps

abbrev pub clash_with : (address : ℕ) → List FilledWord → Option FilledWord → Option (ℕ × ℕ)
clash_with a ps None = None
clash_with a ps (Some first) = option_map (λ second. (first.segment, second.segment)) (other_at a first.word ps)

-- the segments of the first preset of a word and of the first that gives it another value, in order of segment and text
abbrev pub clash_at : (address : ℕ) → List FilledWord → Option (ℕ × ℕ)
clash_at a ps = clash_with a ps (first_at a ps)

abbrev pub NoPresetClash : List FilledWord → Type 0
NoPresetClash ps = (a : ℕ) → clash_at a ps ≡ None

-- the lowest word with presets of different values
pub record IsPresetClash (ps : List FilledWord) (address first second : ℕ) : Type 0 where
  pub here : clash_at address ps ≡ Some (first, second)
  pub lowest : (a : ℕ) → a < address → clash_at a ps ≡ None
