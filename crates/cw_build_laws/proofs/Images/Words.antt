-- The words of the image of units are those that their program begins with.
use Rattle.std.proofs.Common.{◌≡◌, ℕ, zero, suc, ◌+◌, ◌<◌, ◌≤◌, true, false, ℤ, pos, List, [], ◌∷◌, ◌++◌, length, map, Option, None, Some, refl, sym, ap, ap₂, ◌∙◌, subst, arith}
use Rattle.std.specs.Prelude.{All, Bool, cond, if◌then◌else◌, nat_eq, find, slice_index, slice_index_or}
use Rattle.std.proofs.lemmas.Bool.{cases_Bool, eqb-true}
use Rattle.std.proofs.lemmas.List.{map-append}
use Rattle.std.proofs.lemmas.List.Elements.{All-nil, All-cons, All-head, All-tail, All-append, All-map}
use Rattle.cw_word.specs.Word.{signed}
use Rattle.cw_unit.specs.declared.unit.Unit.{Unit as SourceUnit}
use Rattle.cw_unit.specs.declared.layout.Map.{Map}
use Rattle.cw_unit.specs.declared.layout.Preset.{Preset}
use Rattle.cw_unit.specs.Storage.{layout_of}
use Rattle.cw_unit.specs.InitialMemory.{filled_at, word_filled}
use Rattle.cw_unit.specs.InitialMemory as initial
use Rattle.cw_link.specs.Presets.{FilledWord, stands_at, first_at}
use Rattle.cw_link.specs.LinkedImage.{filled_word, presets_from, word_or_zero, words_from, unless_last_zero, without_last_zeros}
use Rattle.cw_build.specs.Compiled.{contents_of_units}

-- ---- the words that presets fill

-- the address and the word of one
abbrev pair : FilledWord → ℕ × ℕ
pair f = (f.address, f.word)

pairs-of : (segment : ℕ) (addresses : List ℕ) (ps : List Preset) → map pair (map (filled_word segment addresses) ps) ≡ map (filled_at addresses) ps
pairs-of g addresses [] = refl
pairs-of g addresses (p ∷ ps) = ap (λ (xs : List (ℕ × ℕ)). filled_at addresses p ∷ xs) (pairs-of g addresses ps)

pairs-from : (g : ℕ) (us : List SourceUnit) (m : Map) → map pair (presets_from g m.homes (contents_of_units us)) ≡ initial.filled_from g us m
pairs-from g [] m = refl
pairs-from g (u ∷ us) m =
    let addresses = slice_index_or m.homes g [] in
    map-append pair (map (filled_word (g + 1) addresses) (layout_of u).words) (presets_from (g + 1) m.homes (contents_of_units us))
    ∙ ap₂ (λ (xs : List (ℕ × ℕ)) (ys : List (ℕ × ℕ)). xs ++ ys) (pairs-of (g + 1) addresses (layout_of u).words) (pairs-from (g + 1) us m)

-- a word has the value of its first preset
chosen : (b : Bool) (f : FilledWord) (o : Option FilledWord) (n : ℕ) → n ≡ word_or_zero o → (if b then f.word else n) ≡ word_or_zero (cond b (Some f) o)
chosen true f o n e = refl
chosen false f o n e = e

first-word : (a : ℕ) (fs : List FilledWord) → word_filled a (map pair fs) ≡ word_or_zero (first_at a fs)
first-word a [] = refl
first-word a (f ∷ fs) = chosen (nat_eq a f.address) f (first_at a fs) (word_filled a (map pair fs)) (first-word a fs)

word-same : (us : List SourceUnit) (m : Map) (a : ℕ) → word_filled a (initial.filled_words us m) ≡ word_or_zero (first_at a (presets_from 0 m.homes (contents_of_units us)))
word-same us m a = ap (word_filled a) (sym (pairs-from 0 us m)) ∙ first-word a (presets_from 0 m.homes (contents_of_units us))

-- ---- the words of the data area

pub memory-long : (filled : List (ℕ × ℕ)) (a n : ℕ) → length (initial.words_from filled a n) ≡ n
memory-long filled a zero = refl
memory-long filled a (suc n) = ap suc (memory-long filled (a + 1) n)

memory-at : (filled : List (ℕ × ℕ)) (a n k : ℕ) → k < n → slice_index_or (initial.words_from filled a n) k (pos 0) ≡ signed (word_filled (a + k) filled)
memory-at filled a zero k lt = absurd (omega (arith, lt))
memory-at filled a (suc n) zero lt = let e : a ≡ a + 0 = omega arith in ap (λ j. signed (word_filled j filled)) e
memory-at filled a (suc n) (suc k) lt =
    let e : a + 1 + k ≡ a + suc k = omega arith in
    memory-at filled (a + 1) n k (omega (arith, lt)) ∙ ap (λ j. signed (word_filled j filled)) e

words-long : (ps : List FilledWord) (a n : ℕ) → length (words_from a n ps) ≡ n
words-long ps a zero = refl
words-long ps a (suc n) = ap suc (words-long ps (a + 1) n)

words-at : (ps : List FilledWord) (a n k : ℕ) → k < n → slice_index (words_from a n ps) k ≡ word_or_zero (first_at (a + k) ps)
words-at ps a zero k lt = absurd (omega (arith, lt))
words-at ps a (suc n) zero lt = let e : a ≡ a + 0 = omega arith in ap (λ j. word_or_zero (first_at j ps)) e
words-at ps a (suc n) (suc k) lt =
    let e : a + 1 + k ≡ a + suc k = omega arith in
    words-at ps (a + 1) n k (omega (arith, lt)) ∙ ap (λ j. word_or_zero (first_at j ps)) e

-- ---- without the last that are 0

-- one word before others
zero-dropped : (w : ℕ) (b : Bool) (k : ℕ) → (b ≡ true → w ≡ 0) → slice_index (if b then [] else (w ∷ [])) k ≡ slice_index (w ∷ []) k
zero-dropped w true zero h = sym (h refl)
zero-dropped w true (suc k) h = refl
zero-dropped w false k h = refl

one-more : (w : ℕ) (vs : List ℕ) (k : ℕ) → slice_index (unless_last_zero w vs) k ≡ slice_index (w ∷ vs) k
one-more w [] k = zero-dropped w (nat_eq w 0) k (eqb-true w 0)
one-more w (v ∷ vs) k = refl

behind : (w : ℕ) (xs ys : List ℕ) (k : ℕ) → ((j : ℕ) → slice_index xs j ≡ slice_index ys j) → slice_index (w ∷ xs) k ≡ slice_index (w ∷ ys) k
behind w xs ys zero h = refl
behind w xs ys (suc k) h = h k

same-words : (ws : List ℕ) (k : ℕ) → slice_index (without_last_zeros ws) k ≡ slice_index ws k
same-words [] k = refl
same-words (w ∷ ws) k = one-more w (without_last_zeros ws) k ∙ behind w (without_last_zeros ws) ws k (same-words ws)

one-long : (w : ℕ) (vs : List ℕ) → length (unless_last_zero w vs) ≤ suc (length vs)
one-long w [] = at-most (nat_eq w 0)
  where
    at-most : (b : Bool) → length (if b then [] else (w ∷ [])) ≤ 1
    at-most true = omega arith
    at-most false = omega arith
one-long w (v ∷ vs) = omega arith

no-longer : (ws : List ℕ) → length (without_last_zeros ws) ≤ length ws
no-longer [] = omega arith
no-longer (w ∷ ws) = let here = one-long w (without_last_zeros ws) in let rest = no-longer ws in omega (arith, here, rest)

-- ---- all are words

abbrev IsSmall : ℕ → Type 0
IsSmall w = w < 65536

one-small : (w : ℕ) (vs : List ℕ) → IsSmall w → All IsSmall vs → All IsSmall (unless_last_zero w vs)
one-small w [] h rest = kept (nat_eq w 0)
  where
    kept : (b : Bool) → All IsSmall (if b then [] else (w ∷ []))
    kept true = All-nil IsSmall
    kept false = All-cons IsSmall w [] h (All-nil IsSmall)
one-small w (v ∷ vs) h rest = All-cons IsSmall w (v ∷ vs) h rest

still-small : (ws : List ℕ) → All IsSmall ws → All IsSmall (without_last_zeros ws)
still-small [] h = All-nil IsSmall
still-small (w ∷ ws) h = one-small w (without_last_zeros ws) (All-head IsSmall w ws h) (still-small ws (All-tail IsSmall w ws h))

abbrev HasWord : FilledWord → Type 0
HasWord f = f.word < 65536

first-small : (a : ℕ) (fs : List FilledWord) → All HasWord fs → IsSmall (word_or_zero (first_at a fs))
first-small a [] h = omega arith
first-small a (f ∷ fs) h = pick (nat_eq a f.address) (first_at a fs) (All-head HasWord f fs h) (first-small a fs (All-tail HasWord f fs h))
  where
    pick : (b : Bool) (o : Option FilledWord) → f.word < 65536 → IsSmall (word_or_zero o) → IsSmall (word_or_zero (cond b (Some f) o))
    pick true o s t = s
    pick false o s t = t

all-small : (fs : List FilledWord) → All HasWord fs → (a n : ℕ) → All IsSmall (words_from a n fs)
all-small fs h a zero = All-nil IsSmall
all-small fs h a (suc n) = All-cons IsSmall (word_or_zero (first_at a fs)) (words_from (a + 1) n fs) (first-small a fs h) (all-small fs h (a + 1) n)

-- the presets of a unit are words
abbrev pub HasPresets : SourceUnit → Type 0
HasPresets u = All (λ (p : Preset). p.word < 65536) (layout_of u).words

presets-small : (g : ℕ) (homes : List (List ℕ)) (us : List SourceUnit) → All HasPresets us → All HasWord (presets_from g homes (contents_of_units us))
presets-small g homes [] h = All-nil HasWord
presets-small g homes (u ∷ us) h =
    let word : Preset → FilledWord = filled_word (g + 1) (slice_index_or homes g []) in
    All-append HasWord (map word (layout_of u).words) (presets_from (g + 1) homes (contents_of_units us))
    (All-map HasWord word (layout_of u).words (All-head HasPresets u us h)) (presets-small (g + 1) homes us (All-tail HasPresets u us h))

-- ---- the whole

module _ (us : List SourceUnit) (m : Map) (area : ℕ) where
  abbrev presets : List FilledWord
  presets = presets_from 0 m.homes (contents_of_units us)

  abbrev pub words : List ℕ
  words = without_last_zeros (words_from 0 area presets)

  pub few : length words ≤ area
  few = let most = no-longer (words_from 0 area presets) in let long = words-long presets 0 area in omega (arith, most, long)

  pub are-words : All HasPresets us → All (λ w. w < 65536) words
  are-words h = still-small (words_from 0 area presets) (all-small presets (presets-small 0 m.homes us h) 0 area)

  pub same : (k : ℕ) → k < area → slice_index_or (initial.initial_memory us m area) k (pos 0) ≡ signed (slice_index words k)
  same k lt =
      memory-at (initial.filled_words us m) 0 area k lt
      ∙ ap signed (word-same us m (0 + k) ∙ sym (words-at presets 0 area k lt) ∙ sym (same-words (words_from 0 area presets) k))
