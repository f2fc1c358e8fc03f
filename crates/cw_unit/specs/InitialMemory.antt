-- The data words before the first step.
use Rattle.std.specs.Prelude.{ℕ, zero, suc, ◌+◌, nat_eq, ℤ, List, [], ◌∷◌, ◌++◌, map, slice_index, slice_index_or, if◌then◌else◌}
use Rattle.cw_word.specs.Word.{signed}
use Rattle.cw_unit.specs.declared.unit.Unit.{Unit as SourceUnit}
use Rattle.cw_unit.specs.declared.layout.Map.{Map}
use Rattle.cw_unit.specs.declared.layout.Preset.{Preset}
use Rattle.cw_unit.specs.Storage.{layout_of}

-- a preset, a string's length or one of its characters, at its address
abbrev pub filled_at : (addresses : List ℕ) → Preset → ℕ × ℕ
filled_at addresses p = (slice_index addresses p.family + p.offset, p.word)

abbrev pub filled_from : (segment : ℕ) → List SourceUnit → Map → List (ℕ × ℕ)
filled_from g [] m = []
filled_from g (u ∷ us) m = map (filled_at (slice_index_or m.homes g [])) (layout_of u).words ++ filled_from (g + 1) us m

-- the words that are filled, in order of segment and text
abbrev pub filled_words : List SourceUnit → Map → List (ℕ × ℕ)
filled_words us m = filled_from 0 us m

abbrev pub word_filled : (address : ℕ) → List (ℕ × ℕ) → ℕ
word_filled a [] = 0
word_filled a (w ∷ ws) = if nat_eq a w.0 then w.1 else word_filled a ws

-- a word that is filled holds that value, every other holds 0
abbrev pub initial_word : (filled : List (ℕ × ℕ)) → (address : ℕ) → ℤ
initial_word filled a = signed (word_filled a filled)

abbrev pub words_from : (filled : List (ℕ × ℕ)) → (address count : ℕ) → List ℤ
words_from filled a zero = []
words_from filled a (suc n) = initial_word filled a ∷ words_from filled (a + 1) n

abbrev pub initial_memory : List SourceUnit → Map → (area : ℕ) → List ℤ
initial_memory us m area = words_from (filled_words us m) 0 area
