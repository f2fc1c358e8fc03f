-- Words shifted, multiplied and divided, as exact numbers.
use Rattle.std.proofs.Common.{◌≡◌, ◌≢◌, inl, inr, ℕ, ◌+◌, ◌-◌, ◌%◌, ◌<◌, ◌≤◌, Bool, true, false, ℤ, pos, negsuc, refl, sym, ap, ap₂, ◌∙◌, arith}
use Rattle.std.specs.Prelude.{bit_and, bit_xor, nat_le, not, if◌then◌else◌}
use Rattle.std.specs.Int.Bits.{xor_zero_r, xor_add_and}
use Rattle.std.proofs.lemmas.Nat.{and_mask}
use Rattle.std.proofs.lemmas.Bool.{cases_lt, lt-ltb, leb-true, le-leb, false≢true}
use Rattle.std.proofs.lemmas.Bool.Decides.{nat_tests}
use Rattle.cw_run86.specs.Views.{word_sum, word_difference, word_up, word_down, sign_of}
use Rattle.cw_word.specs.FixedPoint.{FitsWord, fits_word}
use Rattle.cw_word.specs.Word.{is_high, sign_word, magnitude, signs_differ}

-- the lower word of a pair shifted down: what is left of it, and what comes from the upper one
abbrev pub lower : (high low n : ℕ) → ℕ
lower high low n = word_sum (word_down low n) (word_up high (16 - n))

pub lower_fits : (high low n : ℕ) → lower high low n < 65536
lower_fits high low n = omega arith

-- ---- signs

pub sign_same : (a : ℕ) → sign_of a ≡ sign_word a
sign_same a = grind (arith, nat_tests)

pub sign_fits : (a : ℕ) → sign_of a < 65536
sign_fits a = grind (arith, nat_tests)

pub xor_all : (a : ℕ) → a < 65536 → bit_xor a 65535 ≡ 65535 - a
xor_all a lt =
    let m : bit_and a 65535 ≡ a % 65536 = and_mask a 16 in
    let s = xor_add_and a 65535 in
    omega (arith, m, s)

-- a word, or its negative where all bits of the other are set
pub turned_by : (negative : Bool) (a : ℕ) → a < 65536
    → word_difference (bit_xor a (if negative then 65535 else 0)) (if negative then 65535 else 0) ≡ (if negative then (0 + (65536 - a)) % 65536 else a)
turned_by true a lt = ap (λ x. word_difference x 65535) (xor_all a lt) ∙ (let e : (65535 - a + 65536 - 65535) % 65536 ≡ (0 + (65536 - a)) % 65536 = omega arith in e)
turned_by false a lt = ap (λ x. word_difference x 0) (xor_zero_r a) ∙ (let e : (a + 65536 - 0) % 65536 ≡ a = omega arith in e)

sign_is : (a : ℕ) → sign_of a ≡ (if is_high a then 65535 else 0)
sign_is a = sign_same a

pub magnitude_made : (a : ℕ) → a < 65536 → word_difference (bit_xor a (sign_of a)) (sign_of a) ≡ magnitude a
magnitude_made a lt = ap (λ s. word_difference (bit_xor a s) s) (sign_is a) ∙ turned_by (is_high a) a lt

pub signs_made : (a b : ℕ) → bit_xor (sign_of a) (sign_of b) ≡ (if signs_differ a b then 65535 else 0)
signs_made a b = ap₂ bit_xor (sign_is a) (sign_is b) ∙ by_cases (is_high a) (is_high b)
  where
    by_cases : (s t : Bool) → bit_xor (if s then 65535 else 0) (if t then 65535 else 0) ≡ (if (if s then not t else t) then 65535 else 0)
    by_cases true true = refl
    by_cases true false = refl
    by_cases false true = refl
    by_cases false false = refl

-- ---- numbers that fit

pub fits_true : (z : ℤ) → FitsWord z → fits_word z ≡ true
fits_true (pos n) h = lt-ltb n 32768 (omega (arith, h.sfits))
fits_true (negsuc n) h = lt-ltb n 32768 (omega (arith, h.sfits))

-- ---- magnitudes

pub magnitude_small : (w : ℕ) → w < 65536 → magnitude w ≤ 32768
magnitude_small w lt = by_sign (is_high w) refl
  where
    by_sign : (b : Bool) → is_high w ≡ b → (if b then (0 + (65536 - w)) % 65536 else w) ≤ 32768
    by_sign true is = let ge = leb-true 32768 w is in omega arith
    by_sign false is = elim (cases_lt w 32768) as (λ _. w ≤ 32768) [
      | inl less ↦ omega arith
      | inr ge ↦ let yes : nat_le 32768 w ≡ true = le-leb 32768 w ge in absurd (false≢true (sym is ∙ yes))
    ]

pub magnitude_some : (w : ℕ) → w < 65536 → w ≢ 0 → 0 < magnitude w
magnitude_some w lt ne = by_sign (is_high w)
  where
    by_sign : (b : Bool) → 0 < (if b then (0 + (65536 - w)) % 65536 else w)
    by_sign true = omega arith
    by_sign false = omega arith
