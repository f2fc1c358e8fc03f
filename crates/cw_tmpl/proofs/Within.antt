-- How far an upper bound is from the lower one.
use Rattle.std.proofs.Common.{◌≡◌, ℕ, ℤ, pos, negsuc, ◌-ℤ◌, ◌≤ℤ◌, ◌<ℤ◌, unsigned_abs, true, false, refl, ap₂, ◌∙◌, arith}
use Rattle.std.specs.Prelude.{nat_lt, int_le}
use Rattle.std.proofs.lemmas.Bool.{false≢true}
use Rattle.std.proofs.lemmas.Int.{ints}
use Rattle.cw_tmpl.specs.Blocks.{is_within}

not_below : (l u z : ℤ) (span : ℕ) → u -ℤ l ≡ z → l ≤ℤ u → nat_lt (unsigned_abs z) span ≡ is_within z span
not_below l u (pos n) span e h = refl
not_below l u (negsuc n) span e h = absurd (omega (arith, ints))

below : (l u z : ℤ) (span : ℕ) → u -ℤ l ≡ z → u <ℤ l → false ≡ is_within z span
below l u (pos n) span e h = absurd (omega (arith, ints))
below l u (negsuc n) span e h = refl

pub within : (l u : ℤ) (span : ℕ) → l ≤ℤ u → nat_lt (unsigned_abs (u -ℤ l)) span ≡ is_within (u -ℤ l) span
within l u span h = not_below l u (u -ℤ l) span refl h

not_at_most : (l u : ℤ) → u <ℤ l → int_le l u ≡ false
not_at_most l u h = grind (arith, ints)

-- the test of the order, of bounds that are named by another way
pub without : (x y l u : ℤ) (span : ℕ) → x ≡ l → y ≡ u → u <ℤ l → int_le x y ≡ is_within (u -ℤ l) span
without x y l u span el eu h = ap₂ int_le el eu ∙ not_at_most l u h ∙ below l u (u -ℤ l) span refl h

-- it is so far
pub far : (z : ℤ) (span : ℕ) → is_within z span ≡ true → pos (unsigned_abs z) ≡ z
far (pos n) span h = refl
far (negsuc n) span h = absurd (false≢true h)
