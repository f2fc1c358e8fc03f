-- What the laws of cw_word say of words, and that of cw_order of the words of its machine.
use Rattle.std.proofs.Common.{◌≡◌, ℕ, ◌+◌, ◌-◌, ◌*◌, ◌/◌, ◌%◌, ◌^◌, ◌<◌, ◌≤◌, ℤ, pos, ◌-ℤ◌, ◌*ℤ◌, neg_ℤ}
use Rattle.std.specs.Int.Bits.{bit_and, bit_or}
use Rattle.cw_word.specs.BitField.{unsigned_field, signed_field, with_field, field_mask}
use Rattle.cw_word.specs.FixedPoint.{FitsWord, floor_div, floor_scaled}
use Rattle.cw_word.specs.Word.{shifted_down_signed_by, signed, word_difference, signed_pair}
use Rattle.cw_order.specs.OrderProgram.{OrderProgram}
use Rattle.cw_order.specs.OrderState.{OrderState}
use Rattle.cw_order.specs.OrderMachine.{step}
use Rattle.cw_order.specs.FittingWords.{StateFits}
use Rattle.cw_order.specs.Activations.{Callable, StateStands}
use Rattle.cw_routines.specs.WordLaws.{NumberLaws}

pub record WordLaws : Type 0 where
  -- those that the routines rest on too, and what words are read as
  pub numbers : NumberLaws
  pub signed_fits : (n : ℕ) → n < 65536 → FitsWord (signed n)
  -- sums and differences
  pub difference : (a b : ℕ) → a < 65536 → b < 65536 → FitsWord (signed a -ℤ signed b) → signed (word_difference a b) ≡ signed a -ℤ signed b
  pub negative : (b : ℕ) → b < 65536 → FitsWord (neg_ℤ (signed b)) → signed (word_difference 0 b) ≡ neg_ℤ (signed b)
  -- parts
  pub taken : (w t b : ℕ) → unsigned_field w t b ≡ bit_and (w / 2 ^ b) (2 ^ t - 1)
  pub stored : (w t b v : ℕ) → w < 65536 → t + b ≤ 16 → with_field w t b v ≡ bit_or (bit_and w (65535 - field_mask t b)) (bit_and (v * 2 ^ b % 65536) (field_mask t b))
  pub field_fits : (w t b v : ℕ) → w < 65536 → t + b ≤ 16 → with_field w t b v < 65536
  pub signed_shifted : (w t b c : ℕ) → 1 ≤ t → c + t + b ≡ 16 → signed_field w t b ≡ floor_div (signed (w * 2 ^ c % 65536)) (2 ^ (c + b))
  -- scaling
  pub scaled_up : (x : ℤ) (n : ℕ) → floor_scaled x (pos n) ≡ x *ℤ pos (2 ^ n)
  -- shifts by many places
  pub down : (n k : ℕ) → n < 65536 → signed (shifted_down_signed_by n k) ≡ floor_div (signed n) (2 ^ k)
  pub upper : (high low : ℕ) → high < 65536 → low < 65536 → floor_div (signed_pair high low) 65536 ≡ signed high
  pub again : (x : ℤ) (m n : ℕ) → floor_div (floor_div x m) n ≡ floor_div x (m * n)
  -- the words of the machine of orders
  pub keeps : (p : OrderProgram) (s : OrderState) → StateFits s → StateFits (step p s)
  -- and how its activations stand
  pub stands_keep : (p : OrderProgram) (s : OrderState) → Callable p → StateStands p s → StateStands p (step p s)
