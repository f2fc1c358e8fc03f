-- What flags tell of words, words of numbers, and the words of the data area.
use Rattle.std.proofs.Common.{◌≡◌, ◌≢◌, ℕ, ◌+◌, ◌-◌, ◌*◌, ◌/◌, ◌%◌, ◌<◌, ◌≤◌, Bool, true, false, not, ℤ, pos, negsuc, ◌+ℤ◌, ◌-ℤ◌, List, length, set, refl, sym, ap, ap₂, subst, ◌∙◌, arith, length-set, get_or-set_same, get_or-set_other, inl, inr}
use Rattle.std.specs.Prelude.{◌⊎◌, nat_lt, nat_le, ◌==◌, ◌||◌, ◌&&◌, int_lt, int_le, bit_or}
use Rattle.std.specs.Int.Bits.{or_self}
use Rattle.std.specs.Bool.{beq}
use Rattle.std.proofs.lemmas.Bool.{lt-ltb, le-ltb, cases_eq, ltb-true}
use Rattle.std.proofs.lemmas.Bool.Decides.{nat_tests}
use Rattle.std.proofs.lemmas.Int.{ints}
use Rattle.std.proofs.lemmas.List.Elements.{All-set}
use Rattle.std.proofs.Math.IntN.{+ℤ_idr}
use Rattle.cw_i86.specs.Sums.{signed, overflows, sum_flags, difference_flags, logic_flags, difference_of}
use Rattle.cw_i86.specs.Effect.{holds as meets}
use Rattle.cw_i86.specs.declared.flags.Flags.{Flags}
use Rattle.cw_run86.specs.Views.{put_word, word_sum as sum_of_words}
use Rattle.cw_word.specs.FixedPoint.{FitsWord, fits_word}
use Rattle.cw_word.specs.Word.{signed as signed_of, unsigned, word_sum}
use Rattle.cw_unit.specs.Words.{word_at, number_of, is_below}
use Rattle.cw_routines.specs.WordLaws.{WordLaws}
use Rattle.cw_routines.specs.Results.{Holds}

-- ---- flags

pub not_below : (a b : ℕ) → b ≤ a → meets (difference_flags 32768 a b false) 3 ≡ true
unfolding meets
not_below a b le = let e : b + 0 ≤ a = omega arith in ap not (le-ltb a (b + 0) e)

pub below : (a b : ℕ) → a < b → meets (difference_flags 32768 a b false) 3 ≡ false
unfolding meets
below a b lt = let e : a < b + 0 = omega arith in ap not (lt-ltb a (b + 0) e)

-- the carry, which is the condition of JB
pub carry : (a b : ℕ) → meets (difference_flags 32768 a b false) 2 ≡ nat_lt a b
unfolding meets
carry a b = let e : b + 0 ≡ b = omega arith in ap (nat_lt a) e

same_words : (a b : ℕ) → a < 65536 → b < 65536 → a ≡ b → (difference_of 32768 a b false == 0) ≡ true
same_words a b la lb e = grind (arith, nat_tests)

other_words : (a b : ℕ) → a < 65536 → b < 65536 → a ≢ b → (difference_of 32768 a b false == 0) ≡ false
other_words a b la lb ne = grind (arith, nat_tests)

pub equal : (a b : ℕ) → a < 65536 → b < 65536 → a ≡ b → meets (difference_flags 32768 a b false) 4 ≡ true
unfolding meets
equal a b la lb e = same_words a b la lb e

pub not_equal : (a b : ℕ) → a < 65536 → b < 65536 → a ≢ b → meets (difference_flags 32768 a b false) 4 ≡ false
unfolding meets
not_equal a b la lb ne = other_words a b la lb ne

pub unequal : (a b : ℕ) → a < 65536 → b < 65536 → a ≢ b → meets (difference_flags 32768 a b false) 5 ≡ true
unfolding meets
unequal a b la lb ne = ap not (other_words a b la lb ne)

pub not_unequal : (a b : ℕ) → a < 65536 → b < 65536 → a ≡ b → meets (difference_flags 32768 a b false) 5 ≡ false
unfolding meets
not_unequal a b la lb e = ap not (same_words a b la lb e)

at_most_is : (a b : ℕ) → a < 65536 → b < 65536
    → (((a + 65536 - (b + 0)) % 65536 == 0) || not (beq (nat_le 32768 ((a + 65536 - (b + 0)) % 65536)) (overflows 32768 (signed 32768 a -ℤ signed 32768 b -ℤ pos 0))))
    ≡ int_le (signed 32768 a) (signed 32768 b)
unfolding signed
at_most_is a b la lb = grind (arith, ints, nat_tests)

pub at_most : (a b : ℕ) → a < 65536 → b < 65536 → meets (difference_flags 32768 a b false) 14 ≡ int_le (signed 32768 a) (signed 32768 b)
unfolding meets
at_most a b la lb = at_most_is a b la lb

-- of a word and itself

pub tested_zero : (n : ℕ) (f : Flags) → meets (logic_flags 32768 (bit_or n n) f) 4 ≡ (n == 0)
unfolding meets
tested_zero n f = ap (λ m. m == 0) (or_self n)

pub tested_not_zero : (n : ℕ) (f : Flags) → meets (logic_flags 32768 (bit_or n n) f) 5 ≡ not (n == 0)
unfolding meets
tested_not_zero n f = ap (λ m. not (m == 0)) (or_self n)

tests_at_most : (n : ℕ) → ((n == 0) || not (beq (nat_le 32768 n) false)) ≡ not (nat_lt 0 n && nat_lt n 32768)
tests_at_most n = grind (arith, nat_tests)

pub tested_at_most : (n : ℕ) (f : Flags) → meets (logic_flags 32768 (bit_or n n) f) 14 ≡ not (nat_lt 0 n && nat_lt n 32768)
unfolding meets
tested_at_most n f = ap (λ m. (m == 0) || not (beq (nat_le 32768 m) false)) (or_self n) ∙ tests_at_most n

pub tested_sign : (n : ℕ) (f : Flags) → meets (logic_flags 32768 (bit_or n n) f) 8 ≡ nat_le 32768 n
unfolding meets
tested_sign n f = ap (nat_le 32768) (or_self n)

pub one_low : (ax : ℕ) → (ax / 256 * 256 + 1) % 256 ≡ 1
one_low ax = omega arith

-- 1 in AL is greater than 0
pub never_at_most : (ax : ℕ) (f : Flags) → meets (logic_flags 128 (bit_or ((ax / 256 * 256 + 1) % 256) ((ax / 256 * 256 + 1) % 256)) f) 14 ≡ false
unfolding meets
never_at_most ax f = ap (λ m. (m == 0) || not (beq (nat_le 128 m) false)) (or_self ((ax / 256 * 256 + 1) % 256) ∙ one_low ax)

-- ---- words

overflows_same : (z : ℤ) → overflows 32768 z ≡ not (fits_word z)
overflows_same (pos n) = grind (arith, ints, nat_tests)
overflows_same (negsuc n) = grind (arith, ints, nat_tests)

pub fits_tested : (z : ℤ) → fits_word z ≡ true → FitsWord z
fits_tested (pos n) h = grind (arith, ints, nat_tests)
fits_tested (negsuc n) h = grind (arith, ints, nat_tests)

pub unsigned_pos : (n : ℕ) → n < 65536 → unsigned (pos n) ≡ n
unsigned_pos n h = omega (arith, ints)

pub unsigned_negative : (n : ℕ) → n < 32768 → unsigned (negsuc n) ≡ 65535 - n
unsigned_negative n h = omega (arith, ints)

pub positive_fits : (n : ℕ) → FitsWord (pos n) → n < 32768
positive_fits n f = grind (arith, ints, nat_tests)

pub negative_fits : (n : ℕ) → FitsWord (negsuc n) → n < 32768
negative_fits n f = grind (arith, ints, nat_tests)

pub twice_positive : (y : ℤ) → int_lt (pos 0) y ≡ true → int_lt (pos 0) (y +ℤ y) ≡ true
twice_positive (pos n) e = let some : 0 < n = ltb-true 0 n e in lt-ltb 0 (n + n) (omega arith)
twice_positive (negsuc n) e = absurd (cc)

no_more : (b : Bool) → not (b && false) ≡ true
no_more true = refl
no_more false = refl

all_of : (b : Bool) → not (b && true) ≡ not b
all_of true = refl
all_of false = refl

-- whether a word is that of a positive number
pub not_positive : (z : ℤ) → FitsWord z → not (nat_lt 0 (unsigned z) && nat_lt (unsigned z) 32768) ≡ not (int_lt (pos 0) z)
not_positive (pos m) f =
    let lt = positive_fits m f in
    let e = unsigned_pos m (omega arith) in
    ap (λ n. not (nat_lt 0 n && nat_lt n 32768)) e ∙ ap (λ b. not (nat_lt 0 m && b)) (lt-ltb m 32768 lt) ∙ all_of (nat_lt 0 m)
not_positive (negsuc m) f =
    let lt = negative_fits m f in
    let high : 32768 ≤ 65535 - m = omega arith in
    ap (λ n. not (nat_lt 0 n && nat_lt n 32768)) (unsigned_negative m lt) ∙ ap (λ b. not (nat_lt 0 (65535 - m) && b)) (le-ltb (65535 - m) 32768 high) ∙ no_more (nat_lt 0 (65535 - m))

module _ (laws : WordLaws) where
  pub signed_back : (z : ℤ) → FitsWord z → signed 32768 (unsigned z) ≡ z
  unfolding signed
  signed_back z f = sym (laws.signed_is (unsigned z) (laws.unsigned_fits z f)) ∙ laws.back z f

  -- JO behind a sum
  pub sum_overflows : (x y : ℤ) (f g : FitsWord x) → FitsWord y → meets (sum_flags 32768 (unsigned x) (unsigned y) false) 0 ≡ not (fits_word (x +ℤ y))
  unfolding meets
  sum_overflows x y f g h = ap₂ (λ a b. overflows 32768 (a +ℤ b +ℤ pos 0)) (signed_back x f) (signed_back y h) ∙ ap (overflows 32768) (+ℤ_idr (x +ℤ y)) ∙ overflows_same (x +ℤ y)

  pub sum_is : (x y : ℤ) → FitsWord x → FitsWord y → FitsWord (x +ℤ y) → sum_of_words (unsigned x) (unsigned y) ≡ unsigned (x +ℤ y)
  sum_is x y fx fy f =
      let a = unsigned x in
      let b = unsigned y in
      let la = laws.unsigned_fits x fx in
      let lb = laws.unsigned_fits y fy in
      let e : signed_of a +ℤ signed_of b ≡ x +ℤ y = ap₂ (λ m n. m +ℤ n) (laws.back x fx) (laws.back y fy) in
      let lt : word_sum a b < 65536 = omega arith in
      sym (laws.forth (word_sum a b) lt) ∙ ap unsigned (laws.sum a b la lb (subst FitsWord (sym e) f) ∙ e)

  -- LE behind a comparison
  pub compared : (x y : ℤ) → FitsWord x → FitsWord y → meets (difference_flags 32768 (unsigned x) (unsigned y) false) 14 ≡ int_le x y
  compared x y fx fy = at_most (unsigned x) (unsigned y) (laws.unsigned_fits x fx) (laws.unsigned_fits y fy) ∙ ap₂ int_le (signed_back x fx) (signed_back y fy)

-- ---- the words of the area

pub put_at : (words : ℕ → ℕ) (k w : ℕ) → put_word words k w k ≡ w
put_at words k w = grind (arith, nat_tests)

pub put_off : (words : ℕ → ℕ) (k w n : ℕ) → n ≢ k → put_word words k w n ≡ words n
put_off words k w n ne = grind (arith, nat_tests)

pub put_words : (cells : ℕ → ℕ) (memory : List ℤ) (k n : ℕ) (z : ℤ) → k < length memory → cells n ≡ unsigned (word_at memory n)
    → put_word cells k (unsigned z) n ≡ unsigned (word_at (set memory k z) n)
put_words cells memory k n z lt e = cases (cases_eq n k)
  where
    cases : (n ≡ k) ⊎ (n ≢ k) → put_word cells k (unsigned z) n ≡ unsigned (word_at (set memory k z) n)
    cases (inl same) =
        let there : word_at (set memory k z) k ≡ z = get_or-set_same memory k z (pos 0) lt in
        ap (put_word cells k (unsigned z)) same ∙ put_at cells k (unsigned z) ∙ ap unsigned (sym there) ∙ ap (λ m. unsigned (word_at (set memory k z) m)) (sym same)
    cases (inr other) = put_off cells k (unsigned z) n other ∙ e ∙ ap unsigned (sym (get_or-set_other memory k n z (pos 0) other))

-- one is stored
pub stored : {area : ℕ} {memory : List ℤ} {cells : ℕ → ℕ} (k : ℕ) (z : ℤ) → k < area → FitsWord z → Holds area memory cells
    → Holds area (set memory k z) (put_word cells k (unsigned z))
stored {area} {memory} {cells} k z lt f h =
    let long = h.long in
    let within : k < length memory = omega arith in
    record {
      low = h.low;
      long = length-set memory k z ∙ h.long;
      fit = All-set FitsWord memory k z f h.fit;
      words = λ n below. put_words cells memory k n z within (h.words n below);
    }

pub fits_there : {area : ℕ} {memory : List ℤ} {cells : ℕ → ℕ} (k : ℕ) → k < area → Holds area memory cells → FitsWord (word_at memory k)
fits_there {area} {memory} k lt h = let long = h.long in h.fit k (pos 0) (omega arith)

-- an address within the area, and one outside
pub inside : (area : ℕ) (z : ℤ) → is_below z area ≡ true → area ≤ 32768 → (number_of z < area) × (unsigned z ≡ number_of z)
inside area (pos n) is low = let lt : n < area = ltb-true n area is in (lt, unsigned_pos n (omega arith))
inside area (negsuc n) is low = absurd (cc)

pub outside : (area : ℕ) (z : ℤ) → FitsWord z → is_below z area ≡ false → area ≤ 32768 → area ≤ unsigned z
outside area (pos n) f is low = let lt = positive_fits n f in let e = unsigned_pos n (omega arith) in let le : area ≤ n = grind (arith, nat_tests) in omega arith
outside area (negsuc n) f is low = let lt = negative_fits n f in let e = unsigned_negative n lt in omega arith
