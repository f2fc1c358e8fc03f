-- The initial memory by its words, and the program of a unit whose items are single words of its own.
use Rattle.std.proofs.Common.{◌≡◌, ℕ, zero, suc, ◌+◌, ◌<◌, pos, List, [], ◌∷◌, ◌++◌, map, length, replicate, All, false, cond, slice_get, slice_index, slice_index_or, refl, ap, ap₂, ◌∙◌, arith}
use Rattle.cw_unit.specs.declared.unit.Unit.{Unit as SourceUnit}
use Rattle.cw_unit.specs.declared.layout.Family.{Family}
use Rattle.cw_unit.specs.declared.layout.Limits.{Limits}
use Rattle.cw_unit.specs.declared.layout.Map.{Map}
use Rattle.cw_unit.specs.InitialMemory.{filled_at, filled_words, initial_word, words_from, initial_memory}
use Rattle.cw_unit.specs.OwnSingles.{IsOwnSingle, numbers_from, own_word}
use Rattle.cw_unit.specs.Words.{word_at}
use Rattle.cw_unit.specs.Program.{is_frame_family, item_address, program_of}
use Rattle.cw_unit.proofs.OwnSingles.{own-layout, own-storage_map}

word-from : (filled : List (ℕ × ℕ)) (a n k : ℕ) → k < n → word_at (words_from filled a n) k ≡ initial_word filled (a + k)
word-from filled a zero k h = absurd (omega (arith, h))
word-from filled a (suc n) zero h = let e : a ≡ a + 0 = omega arith in ap (initial_word filled) e
word-from filled a (suc n) (suc k) h = let e : a + 1 + k ≡ a + suc k = omega arith in word-from filled (a + 1) n k (omega (arith, h)) ∙ ap (initial_word filled) e

pub memory-word : (us : List SourceUnit) (m : Map) (area a : ℕ) → a < area → word_at (initial_memory us m area) a ≡ initial_word (filled_words us m) a
memory-word us m area a h = let e : 0 + a ≡ a = omega arith in word-from (filled_words us m) 0 area a h ∙ ap (initial_word (filled_words us m)) e

zeros-from : (a n : ℕ) → words_from [] a n ≡ replicate n (pos 0)
zeros-from a zero = refl
zeros-from a (suc n) = ap (λ ws. pos 0 ∷ ws) (zeros-from (a + 1) n)

pub own-memory : (u : SourceUnit) (m : Map) (area : ℕ) → All IsOwnSingle u.items → initial_memory (u ∷ []) m area ≡ replicate area (pos 0)
own-memory u m area all =
    let e : filled_words (u ∷ []) m ≡ [] = ap {B = List (ℕ × ℕ)} (λ ps. map (filled_at (slice_index_or m.homes 0 [])) ps ++ []) (ap (λ l. l.words) (own-layout u all)) in
    ap (λ f. words_from f 0 area) e ∙ zeros-from 0 area

number-at : (n count k : ℕ) → k < count → slice_index (numbers_from n count) k ≡ n + k
number-at n zero k h = absurd (omega (arith, h))
number-at n (suc c) zero h = omega arith
number-at n (suc c) (suc k) h = number-at (n + 1) c k (omega (arith, h)) ∙ omega arith

pair-of : ℕ → ℕ × ℕ
pair-of k = (k, 0)

position-at : (n count k : ℕ) → k < count → slice_index_or (map pair-of (numbers_from n count)) k (0, 0) ≡ pair-of (n + k)
unfolding pair-of
position-at n zero k h = absurd (omega (arith, h))
position-at n (suc c) zero h = let e : n ≡ n + 0 = omega arith in ap pair-of e
position-at n (suc c) (suc k) h = let e : n + 1 + k ≡ n + suc k = omega arith in position-at (n + 1) c k (omega (arith, h)) ∙ ap pair-of e

not-in-frame : (count k : ℕ) → is_frame_family (slice_get (replicate count own_word) k) ≡ false
not-in-frame zero k = refl
not-in-frame (suc c) zero = refl
not-in-frame (suc c) (suc k) = not-in-frame c k

address-of : List Family → (addresses : List ℕ) → (base : ℕ) → ℕ × ℕ → ℕ
address-of fs addresses base place = cond (is_frame_family (slice_get fs place.0)) base 0 + (slice_index addresses place.0 + place.1)

own-place : (n k base : ℕ) → k < n → address-of (replicate n own_word) (numbers_from 0 n) base (pair-of k) ≡ k
unfolding address-of pair-of
own-place n k base h =
    let place : slice_index (numbers_from 0 n) k ≡ 0 + k = number-at 0 n k h in
    ap₂ (λ b a. cond b base 0 + (a + 0)) (not-in-frame n k) place ∙ omega arith

pub own-address : (u : SourceUnit) (limits : Limits) (k base : ℕ) → All IsOwnSingle u.items → k < length u.items → item_address (program_of (u ∷ []) limits) 0 k base ≡ k
unfolding address-of pair-of
own-address u limits k base all h =
    let n : ℕ = length u.items in
    let at : 0 + k ≡ k = omega arith in
    ap₂ (λ l m. address-of l.families (slice_index_or m.homes 0 []) base (slice_index_or l.homes k (0, 0))) (own-layout u all) (own-storage_map u all)
    ∙ ap (address-of (replicate n own_word) (numbers_from 0 n) base) (position-at 0 n k h ∙ ap pair-of at)
    ∙ own-place n k base h
