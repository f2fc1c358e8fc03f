-- What the laws of words say that routines and orders rest on.
use Rattle.std.specs.Prelude.{◌≡◌, ◌↔◌, ℕ, suc, ◌+◌, ◌-◌, ◌*◌, ◌/◌, ◌^◌, ◌<◌, ◌≤◌, Bool, nat_lt, if◌then◌else◌, ℤ, pos, negsuc, ◌+ℤ◌, ◌-ℤ◌, ◌*ℤ◌, FitsSigned}
use Rattle.std.specs.Int.{w32, from_bool}
use Rattle.cw_word.specs.FixedPoint.{FitsWord, floor_div, floor_scaled, scaled_quotient}
use Rattle.cw_word.specs.Word.{signed, unsigned, word_sum, word_difference, sign_word, magnitude, signs_differ, negative_if, high_word, low_word, pair, signed_pair, shifted_up_by, shifted_down_by, shifted_down_signed_by}

-- what the laws of words tell
pub record WordLaws : Type 0 where
  pub signed_is : (n : ℕ) → n < 65536 → signed n ≡ (if nat_lt n 32768 then pos n else (pos n -ℤ pos 65536))
  pub unsigned_fits : (z : ℤ) → FitsWord z → unsigned z < 65536
  pub back : (z : ℤ) → FitsWord z → signed (unsigned z) ≡ z
  pub forth : (n : ℕ) → n < 65536 → unsigned (signed n) ≡ n
  pub sum : (a b : ℕ) → a < 65536 → b < 65536 → FitsWord (signed a +ℤ signed b) → signed (word_sum a b) ≡ signed a +ℤ signed b

-- what the laws of products and quotients tell
pub record NumberLaws : Type 0 where
  pub words : WordLaws
  pub product_fits : (a b : ℕ) → a < 65536 → b < 65536 → FitsSigned w32 (signed a *ℤ signed b)
  pub high : (z : ℤ) → FitsSigned w32 z → high_word z < 65536
  pub low : (z : ℤ) → low_word z < 65536
  pub halves : (z : ℤ) → FitsSigned w32 z → signed_pair (high_word z) (low_word z) ≡ z
  pub pair_fits : (high low : ℕ) → high < 65536 → low < 65536 → FitsWord (signed_pair high low) ↔ (high ≡ sign_word low)
  pub pair_value : (high low : ℕ) → high < 65536 → low < 65536 → high ≡ sign_word low → signed_pair high low ≡ signed low
  pub quotient_up : (a b n : ℕ) → a < 65536 → b < 65536 → scaled_quotient (signed a) (signed b) (pos n) ≡ negative_if (signs_differ a b) (magnitude a * 2 ^ n / magnitude b)
  pub quotient_down : (a b n : ℕ) → a < 65536 → b < 65536
      → scaled_quotient (signed a) (signed b) (negsuc n) ≡ negative_if (signs_differ a b) (magnitude a / 2 ^ suc n / magnitude b)
  pub quotient_fits : (negative : Bool) (n : ℕ) → FitsWord (negative_if negative n) ↔ (n < 32768 + from_bool negative)
  pub quotient_value : (negative : Bool) (n : ℕ) → n < 32768 + from_bool negative → signed (if negative then word_difference 0 n else n) ≡ negative_if negative n
  pub divides : (high low d : ℕ) → low < 65536 → 0 < d → (pair high low / d < 65536) ↔ (high < d)
  pub scaled_down : (x : ℤ) (n : ℕ) → floor_scaled x (negsuc n) ≡ floor_div x (2 ^ suc n)
  pub down_fits : (n k : ℕ) → n < 65536 → shifted_down_signed_by n k < 65536
  pub pair_down : (high low k : ℕ) → high < 65536 → low < 65536 → k ≤ 16
      → signed_pair (shifted_down_signed_by high k) (word_sum (shifted_down_by low k) (shifted_up_by high (16 - k))) ≡ floor_div (signed_pair high low) (2 ^ k)
  pub pair_up : (n k : ℕ) → k ≤ 16 → pair (shifted_down_by n (16 - k)) (shifted_up_by n k) ≡ n * 2 ^ k
