-- Shifts and rotates, with their flags. Half is 80h for bytes and 8000h for words.
use Rattle.std.specs.Prelude.{ℕ, zero, suc, ◌+◌, ◌*◌, ◌/◌, ◌%◌, Bool, false, not, nat_le, ◌==◌, if◌then◌else◌}
use Rattle.std.specs.Bool.{beq}
use Rattle.cw_i86.specs.declared.flags.Flags.{Flags}
use Rattle.cw_i86.specs.declared.shift.ShiftOp.{ShiftOp}
use Rattle.cw_i86.specs.declared.shift.ShiftOp.TheVariants.{Rol, Ror, Rcl, Rcr, Shl, Shr, Sar}
use Rattle.cw_i86.specs.Sums.{bit, with_result}

-- the number and the carry
abbrev pub State : Type 0
State = ℕ × Bool

abbrev pub is_odd : ℕ → Bool
is_odd n = n % 2 == 1

-- one place up, with the lowest bit
abbrev pub up : ℕ → ℕ → Bool → State
up half n low = (2 * (n % half) + bit low, nat_le half n)

-- one place down, with the top bit
abbrev pub down : ℕ → ℕ → Bool → State
down half n top = (n / 2 + (if top then half else 0), is_odd n)

abbrev pub once : ShiftOp → ℕ → State → State
once Rol half s = up half s.0 (nat_le half s.0)
once Ror half s = down half s.0 (is_odd s.0)
once Rcl half s = up half s.0 s.1
once Rcr half s = down half s.0 s.1
once Shl half s = up half s.0 false
once Shr half s = down half s.0 false
once Sar half s = down half s.0 (nat_le half s.0)

unfoldable pub repeated : ShiftOp → ℕ → ℕ → State → State
repeated shift half zero s = s
repeated shift half (suc n) s = once shift half (repeated shift half n s)

-- the overflow after a count of one
abbrev pub overflow_of_one : ShiftOp → ℕ → ℕ → State → Bool
overflow_of_one Rol half a s = not (beq s.1 (nat_le half s.0))
overflow_of_one Rcl half a s = not (beq s.1 (nat_le half s.0))
overflow_of_one Shl half a s = not (beq s.1 (nat_le half s.0))
overflow_of_one Ror half a s = not (beq (nat_le half s.0) (nat_le half (2 * (s.0 % half))))
overflow_of_one Rcr half a s = not (beq (nat_le half s.0) (nat_le half (2 * (s.0 % half))))
overflow_of_one Shr half a s = nat_le half a
overflow_of_one Sar half a s = false

abbrev pub overflow_of : ShiftOp → ℕ → ℕ → ℕ → State → Bool → Bool
overflow_of Sar half a count s old = false
overflow_of shift half a count s old = if count == 1 then overflow_of_one shift half a s else old

-- A rotate leaves the flags that tell of the result.
abbrev pub telling : ShiftOp → ℕ → ℕ → Flags → Flags
telling Shl half n flags = with_result half n flags
telling Shr half n flags = with_result half n flags
telling Sar half n flags = with_result half n flags
telling shift half n flags = flags

abbrev pub shifted_flags : ShiftOp → ℕ → ℕ → ℕ → Flags → State → Flags
shifted_flags shift half a count flags s =
    telling shift half s.0 (record flags { cf = s.1; of = overflow_of shift half a count s flags.of })

-- what a shift by the count gives, as the number and the flags
abbrev pub shift_of : ShiftOp → ℕ → ℕ → ℕ → Flags → ℕ
shift_of shift half a count flags = (repeated shift half count (a, flags.cf)).0

abbrev pub shift_flags : ShiftOp → ℕ → ℕ → ℕ → Flags → Flags
shift_flags shift half a count flags =
    if count == 0 then flags else shifted_flags shift half a count flags (repeated shift half count (a, flags.cf))
