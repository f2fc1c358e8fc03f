-- Sums, differences and logic, with their flags. A number has the width of a byte, where half is 80h, or of a word, where it is 8000h.
use Rattle.std.specs.Prelude.{ℕ, ◌+◌, ◌-◌, ◌*◌, ◌%◌, Bool, false, nat_lt, nat_le, ◌==◌, ◌||◌, not, if◌then◌else◌}
use Rattle.std.specs.Prelude.{ℤ, pos, neg_ℤ, ◌+ℤ◌, ◌-ℤ◌, int_lt, int_le, bit_and, bit_or, bit_xor, count_ones}
use Rattle.std.specs.Int.{from_bool}
use Rattle.cw_i86.specs.declared.flags.Flags.{Flags}

abbrev pub bit : Bool → ℕ
bit b = from_bool b

-- two's complement
unfoldable pub signed : ℕ → ℕ → ℤ
signed half a = if nat_lt a half then pos a else pos a -ℤ pos (half + half)

abbrev pub overflows : ℕ → ℤ → Bool
overflows half z = int_lt z (neg_ℤ (pos half)) || int_le (pos half) z

-- an even number of ones in the low byte
unfoldable pub has_even_parity : ℕ → Bool
has_even_parity n = count_ones (n % 256) % 2 == 0

-- the flags that tell of a result alone
abbrev pub with_result : ℕ → ℕ → Flags → Flags
with_result half n flags = record flags { pf = has_even_parity n; zf = n == 0; sf = nat_le half n }

abbrev pub sum_of : ℕ → ℕ → ℕ → Bool → ℕ
sum_of half a b carry = (a + b + bit carry) % (half + half)

abbrev pub sum_flags : ℕ → ℕ → ℕ → Bool → Flags
sum_flags half a b carry = record {
  cf = nat_le (half + half) (a + b + bit carry);
  pf = has_even_parity (sum_of half a b carry);
  af = nat_le 16 (a % 16 + b % 16 + bit carry);
  zf = sum_of half a b carry == 0;
  sf = nat_le half (sum_of half a b carry);
  of = overflows half (signed half a +ℤ signed half b +ℤ pos (bit carry));
}

-- a less b less the borrow, modulo 2 * half
abbrev pub difference_of : ℕ → ℕ → ℕ → Bool → ℕ
difference_of half a b borrow = (a + (half + half) - (b + bit borrow)) % (half + half)

abbrev pub difference_flags : ℕ → ℕ → ℕ → Bool → Flags
difference_flags half a b borrow = record {
  cf = nat_lt a (b + bit borrow);
  pf = has_even_parity (difference_of half a b borrow);
  af = nat_lt (a % 16) (b % 16 + bit borrow);
  zf = difference_of half a b borrow == 0;
  sf = nat_le half (difference_of half a b borrow);
  of = overflows half (signed half a -ℤ signed half b -ℤ pos (bit borrow));
}

-- INC and DEC leave the carry.
abbrev pub keeping_carry : Flags → Flags → Flags
keeping_carry flags new = record new { cf = flags.cf }

abbrev pub logic_flags : ℕ → ℕ → Flags → Flags
logic_flags half n flags = record flags { cf = false; pf = has_even_parity n; zf = n == 0; sf = nat_le half n; of = false }
