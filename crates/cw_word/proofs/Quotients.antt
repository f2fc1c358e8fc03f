-- Scaled values one place at a time, and quotients by magnitudes.
use Rattle.std.proofs.Common.{arith, ◌≡◌, refl, sym, ap, ◌∙◌, zero, suc, ℕ, ◌*◌, ◌/◌, ◌^◌, ◌<◌, ap₂, if◌then◌else◌, not, Bool, true, false, ℤ, pos, negsuc, ◌*ℤ◌, neg_ℤ, unsigned_abs, pow_pos, pow-suc, mul-pos}
use Rattle.std.proofs.lemmas.Bool.Decides.{nat_tests}
use Rattle.std.proofs.lemmas.Int.{ints, unsigned_abs-mul}
use Rattle.std.proofs.lemmas.Nat.{shr-shr}
use Rattle.std.proofs.Math.Nat.{div-div-eq-div-mul}
use Rattle.cw_word.proofs.Scaling.{times_one}
use Rattle.cw_word.proofs.Words.{magnitude-is, negative_if-fits, negative_if-word, pair-divides}
use Rattle.cw_word.specs.FixedPoint.{FitsWord, floor_div, trunc_div, down_factor, floor_scaled, scaled_quotient}
use Rattle.cw_word.specs.Word.{signed, is_high, magnitude, signs_differ, negative_if}

pub down_factor-pos : (s : ℤ) → 0 < down_factor s
down_factor-pos (pos n) = omega arith
down_factor-pos (negsuc n) = pow_pos (suc n)

pub times-none : (x : ℤ) → x *ℤ pos (2 ^ 0) ≡ x
times-none x = times_one x

pub floor_div-none : (x : ℤ) → floor_div x (2 ^ 0) ≡ x
floor_div-none (pos a) = omega (arith, ints)
floor_div-none (negsuc a) = omega (arith, ints)

pub floor_scaled-up : (x : ℤ) (n : ℕ) → floor_scaled x (pos n) ≡ x *ℤ pos (2 ^ n)
floor_scaled-up x n = floor_div-none (x *ℤ pos (2 ^ n))

pub floor_scaled-down : (x : ℤ) (n : ℕ) → floor_scaled x (negsuc n) ≡ floor_div x (2 ^ suc n)
floor_scaled-down x n = ap (λ z. floor_div z (2 ^ suc n)) (times_one x)

again : (a k : ℕ) → a / 2 ^ k / 2 ≡ a / 2 ^ suc k
again a k = shr-shr a k 1 ∙ ap (λ n. a / 2 ^ n) (omega arith)

-- ---- one place at a time

pub floor_div-halved : (x : ℤ) (k : ℕ) → floor_div (floor_div x (2 ^ k)) 2 ≡ floor_div x (2 ^ suc k)
floor_div-halved (pos a) k = ap (λ q. pos q) (again a k)
floor_div-halved (negsuc a) k = ap (λ q. negsuc q) (again a k)

pub times-doubled : (x : ℤ) (k : ℕ) → x *ℤ pos (2 ^ k) *ℤ pos 2 ≡ x *ℤ pos (2 ^ suc k)
times-doubled (pos a) k = omega (arith, ints, ap (λ x. a * x) (pow-suc 2 k))
times-doubled (negsuc a) k = omega (arith, ints, ap (λ x. suc a * x) (pow-suc 2 k))

pub doubled-no_word : (x : ℤ) → ¬ FitsWord x → ¬ FitsWord (x *ℤ pos 2)
doubled-no_word (pos a) h = λ f. h (omega (arith, ints, f))
doubled-no_word (negsuc a) h = λ f. h (omega (arith, ints, f))

-- ---- by magnitudes

abbrev is_negative : ℤ → Bool
is_negative (pos n) = false
is_negative (negsuc n) = true

negative-signed : (a : ℕ) → a < 65536 → is_high a ≡ is_negative (signed a)
negative-signed a h = by_sign (signed a) refl
  where
    by_sign : (x : ℤ) → signed a ≡ x → is_high a ≡ is_negative x
    by_sign (pos x) e = grind (arith, ints, nat_tests)
    by_sign (negsuc x) e = grind (arith, ints, nat_tests)

-- a factor above 0 leaves the sign
negative-times : (x : ℤ) (m : ℕ) → 0 < m → is_negative x ≡ is_negative (x *ℤ pos m)
negative-times (pos a) m h = refl
negative-times (negsuc a) m h = negative (suc a * m) (mul-pos (omega arith) h)
  where
    negative : (n : ℕ) → 0 < n → true ≡ is_negative (neg_ℤ (pos n))
    negative zero h = absurd (omega arith)
    negative (suc n) h = refl

-- the quotient of the magnitudes, negative where the signs differ
trunc_div-signs : (s t : Bool) (x y : ℤ) → s ≡ is_negative x → t ≡ is_negative y
    → trunc_div x y ≡ negative_if (if s then not t else t) (unsigned_abs x / unsigned_abs y)
trunc_div-signs s t x y e f =
    signs x y ∙ ap₂ (λ p q. negative_if (if p then not q else q) (unsigned_abs x / unsigned_abs y)) (sym e) (sym f)
  where
    signs : (x y : ℤ) → trunc_div x y ≡ negative_if (if is_negative x then not (is_negative y) else is_negative y) (unsigned_abs x / unsigned_abs y)
    signs (pos x) (pos y) = refl
    signs (pos x) (negsuc y) = refl
    signs (negsuc x) (pos y) = refl
    signs (negsuc x) (negsuc y) = refl

module _ (a b : ℕ) (ha : a < 65536) (hb : b < 65536) where
  -- the quotient of two scaled words
  scaled : (m n : ℕ) → 0 < m → 0 < n
      → trunc_div (signed a *ℤ pos m) (signed b *ℤ pos n) ≡ negative_if (signs_differ a b) (magnitude a * m / (magnitude b * n))
  scaled m n hm hn =
      let u : magnitude a * m ≡ unsigned_abs (signed a *ℤ pos m) = ap (λ x. x * m) (magnitude-is a ha) ∙ sym (unsigned_abs-mul (signed a) (pos m)) in
      let v : magnitude b * n ≡ unsigned_abs (signed b *ℤ pos n) = ap (λ x. x * n) (magnitude-is b hb) ∙ sym (unsigned_abs-mul (signed b) (pos n)) in
      trunc_div-signs (is_high a) (is_high b) (signed a *ℤ pos m) (signed b *ℤ pos n) (negative-signed a ha ∙ negative-times (signed a) m hm) (negative-signed b hb ∙ negative-times (signed b) n hn)
      ∙ ap₂ (λ x y. negative_if (signs_differ a b) (x / y)) (sym u) (sym v)

  pub quotient-up : (n : ℕ) → scaled_quotient (signed a) (signed b) (pos n) ≡ negative_if (signs_differ a b) (magnitude a * 2 ^ n / magnitude b)
  quotient-up n =
      scaled (2 ^ n) 1 (pow_pos n) (omega arith) ∙ ap (λ y. negative_if (signs_differ a b) (magnitude a * 2 ^ n / y)) (one (magnitude b))
    where
      one : (x : ℕ) → x * 1 ≡ x
      one x = omega arith

  pub quotient-down : (n : ℕ) → scaled_quotient (signed a) (signed b) (negsuc n) ≡ negative_if (signs_differ a b) (magnitude a / 2 ^ suc n / magnitude b)
  quotient-down n =
      scaled 1 (2 ^ suc n) (omega arith) (pow_pos (suc n)) ∙ ap (λ q. negative_if (signs_differ a b) q) (turned (magnitude a) (magnitude b) (2 ^ suc n))
    where
      turned : (x y m : ℕ) → x * 1 / (y * m) ≡ x / m / y
      turned x y m =
          let e : x * 1 ≡ x = omega arith in
          let f : y * m ≡ m * y = omega arith in
          ap₂ (λ p q. p / q) e f ∙ sym (div-div-eq-div-mul x m y)

pub ruleset scaling = (down_factor-pos, floor_scaled-up, floor_scaled-down, times-none, floor_div-none, floor_div-halved, times-doubled, doubled-no_word)

pub ruleset magnitudes = (quotient-up, quotient-down, magnitude-is, negative_if-fits, negative_if-word, pair-divides)
