-- Products and quotients. Half is 80h for bytes and 8000h for words.
use Rattle.std.specs.Prelude.{ℕ, ◌+◌, ◌/◌, ◌%◌, Bool, nat_lt, ◌==◌, ◌&&◌, if◌then◌else◌, ℤ, pos, neg_ℤ}
use Rattle.std.specs.Prelude.{int_lt, int_div, int_rem, unsigned_abs, Option, Some, None}
use Rattle.cw_i86.specs.declared.flags.Flags.{Flags}
use Rattle.std.specs.Int.{Width, cast_signed, cast_unsigned}
use Rattle.std.specs.Option.{option_map}

abbrev pub product_flags : Bool → Flags → Flags
product_flags wide flags = record flags { cf = wide; of = wide }

-- DIV: quotient and remainder, where the quotient fits
abbrev pub quotient_of : ℕ → ℕ → ℕ → Option (ℕ × ℕ)
quotient_of half a b = if b == 0 then None else if nat_lt (a / b) (half + half) then Some (a / b, a % b) else None

-- The truncated quotient of integers, where it is above -half and below half, and the remainder, which has the sign of the first.
abbrev pub truncated : ℕ → ℤ → ℤ → Option (ℤ × ℤ)
truncated half a b =
    if unsigned_abs b == 0 then None
    else if nat_lt (unsigned_abs (int_div a b)) half then Some (int_div a b, int_rem a b) else None

-- a pair of integers in two's complement
abbrev pub both : Width → ℤ × ℤ → ℕ × ℕ
both w found = (cast_unsigned w found.0, cast_unsigned w found.1)

-- IDIV of a number of twice the width by one of the width
abbrev pub signed_quotient_of : Width → Width → ℕ → ℕ → ℕ → Option (ℕ × ℕ)
signed_quotient_of wide w half a b = option_map (both w) (truncated half (cast_signed wide a) (cast_signed w b))
