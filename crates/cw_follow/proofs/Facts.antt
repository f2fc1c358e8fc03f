-- Words shifted and multiplied, as exact numbers.
use Rattle.std.proofs.Common.{◌≡◌, inl, inr, ℕ, zero, suc, ◌-◌, ◌*◌, ◌/◌, ◌%◌, ◌^◌, ◌<◌, ◌≤◌, true, false, ℤ, pos, negsuc, ◌*ℤ◌, neg_ℤ, ap, ◌∙◌, arith}
use Rattle.std.specs.Prelude.{nat_lt, not, if◌then◌else◌}
use Rattle.std.proofs.Math.Nat.{le-mul_of_pos_right}
use Rattle.std.proofs.lemmas.Bool.{cases_lt, lt-ltb, le-ltb}
use Rattle.std.proofs.lemmas.Bool.Decides.{nat_tests}
use Rattle.std.proofs.lemmas.Int.{ints}
use Rattle.std.specs.Int.{w32, cast_unsigned}
use Rattle.cw_i86.specs.Sums.{overflows}
use Rattle.cw_run86.specs.Views.{word_difference, word_down_signed}
use Rattle.cw_word.specs.FixedPoint.{FitsWord, fits_word}
use Rattle.cw_word.specs.Word.{signed, unsigned}

-- ---- words shifted down

down_low : (a n : ℕ) → a < 32768 → word_down_signed a n ≡ a / 2 ^ n
down_low a n lt = ap (λ t. if t then a / 2 ^ n else (65535 - (65535 - a) / 2 ^ n)) (lt-ltb a 32768 lt)

down_high : (a n : ℕ) → 32768 ≤ a → word_down_signed a n ≡ 65535 - (65535 - a) / 2 ^ n
down_high a n ge = ap (λ t. if t then a / 2 ^ n else (65535 - (65535 - a) / 2 ^ n)) (le-ltb a 32768 ge)

pub down_none : (a : ℕ) → a < 65536 → word_down_signed a 0 ≡ a
down_none a h = elim (cases_lt a 32768) as (λ _. word_down_signed a 0 ≡ a) [
  | inl lt ↦ down_low a 0 lt ∙ (let e : a / 1 ≡ a = omega arith in e)
  | inr ge ↦ down_high a 0 ge ∙ (let e : 65535 - (65535 - a) / 1 ≡ a = omega arith in e)
]

pub not_below : (a b : ℕ) → nat_lt a b ≡ false → b ≤ a
not_below a b h = elim (cases_lt a b) as (λ _. b ≤ a) [
  | inl lt ↦ let yes : nat_lt a b ≡ true = lt-ltb a b lt in absurd cc
  | inr ge ↦ ge
]

-- ---- numbers that fit

pub low_is : (z : ℤ) → FitsWord z → cast_unsigned w32 z % 65536 ≡ unsigned z
low_is (pos n) h = omega (arith, h.sfits)
low_is (negsuc n) h = omega (arith, h.sfits)

-- a number that does not fit has no multiple that does
pub stays_out : (z : ℤ) (m : ℕ) → 0 < m → fits_word z ≡ false → fits_word (z *ℤ pos m) ≡ false
stays_out (pos n) m some off = let h = le-mul_of_pos_right n some in grind (arith, nat_tests)
stays_out (negsuc n) m some off =
    let h = le-mul_of_pos_right (suc n) some in
    let large : 32768 ≤ n = grind (arith, nat_tests) in
    below_all (suc n * m) (omega arith)
  where
    below_all : (k : ℕ) → 32769 ≤ k → fits_word (neg_ℤ (pos k)) ≡ false
    below_all zero le = absurd (omega arith)
    below_all (suc k) le = le-ltb k 32768 (omega arith)

-- the negative of a word times -32,768
pub top_overflows : (x : ℤ) → FitsWord x → overflows 32768 (signed (word_difference 0 (unsigned x)) *ℤ signed 32768) ≡ not (fits_word (x *ℤ pos 32768))
top_overflows (pos n) f = grind (arith, ints, nat_tests)
top_overflows (negsuc n) f = grind (arith, ints, nat_tests)

pub top_low : (x : ℤ) → FitsWord x → FitsWord (x *ℤ pos 32768) → cast_unsigned w32 (signed (word_difference 0 (unsigned x)) *ℤ signed 32768) % 65536 ≡ unsigned (x *ℤ pos 32768)
top_low (pos n) f g = grind (arith, ints)
top_low (negsuc n) f g = grind (arith, ints)

-- a word times -32,768 as well, where the product fits
pub top_product : (x : ℤ) → FitsWord x → FitsWord (x *ℤ pos 32768) → cast_unsigned w32 (signed (unsigned x) *ℤ signed 32768) % 65536 ≡ unsigned (x *ℤ pos 32768)
top_product (pos n) f g = grind (arith, ints)
top_product (negsuc n) f g = grind (arith, ints)
