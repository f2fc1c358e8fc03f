-- The operations of the arithmetic unit on two words that need no carry, and shifts.
use Rattle.std.specs.Prelude.{ℕ, ◌+◌, ◌-◌, ◌*◌, ◌/◌, ◌%◌, ◌+ℤ◌, ◌-ℤ◌, List, Bool, false, bit_and, bit_or, bit_xor, if◌then◌else◌}
use Rattle.cw_i86.specs.Effect.{alu_flags}
use Rattle.cw_i86.specs.Sums.{overflows, signed, keeping_carry, sum_flags, difference_flags}
use Rattle.cw_i86.specs.Shifts.{shift_flags}
use Rattle.cw_i86.specs.declared.shift.ShiftOp.{ShiftOp}
use Rattle.cw_i86.specs.declared.shift.ShiftOp.TheVariants.{Shl, Shr, Sar}
use Rattle.cw_i86.specs.declared.flags.Flags.{Flags}
use Rattle.cw_run86.specs.Views.{View, register, with_register, with_overflow, word_sum, word_difference, sum_overflows}
use Rattle.cw_run86.specs.Views.{difference_overflows, word_up, word_down, word_down_signed}
use Rattle.cw_i86.specs.declared.instr.Instr.{Instr}
use Rattle.cw_run86.specs.Views.{on}
use Rattle.cw_rows86.specs.Locations.{Location, contents, with_contents, GoesWith}

pub data WordOperation : Type 0 where
  Add : WordOperation
  Or : WordOperation
  And : WordOperation
  Subtract : WordOperation
  Xor : WordOperation
  Compare : WordOperation

-- the number in the opcode, and the result
abbrev pub row_of : WordOperation → ℕ × ((a b : ℕ) → ℕ)
row_of Add = (0, word_sum)
row_of Or = (1, bit_or)
row_of And = (4, bit_and)
row_of Subtract = (5, word_difference)
row_of Xor = (6, bit_xor)
row_of Compare = (7, word_difference)

abbrev pub number_of : WordOperation → ℕ
number_of op = (row_of op).0

abbrev pub result_of : WordOperation → (a b : ℕ) → ℕ
result_of op = (row_of op).1

abbrev pub overflow_of : WordOperation → (a b : ℕ) → Bool
overflow_of Add a b = sum_overflows a b
overflow_of Subtract a b = difference_overflows a b
overflow_of Compare a b = difference_overflows a b
overflow_of op a b = false

-- the view after it: all but a comparison write their result to the first operand
abbrev pub operated_on : WordOperation → Location → (a b : ℕ) → View → View
operated_on Compare o a b v = with_overflow (overflow_of Compare a b) v
operated_on op o a b v = with_overflow (overflow_of op a b) (with_contents o (result_of op a b) v)

abbrev pub flags_after : WordOperation → (a b : ℕ) → Flags → Flags
flags_after op a b flags = alu_flags (number_of op) 32768 a b flags

-- an instruction does this operation on an operand and a word
abbrev pub Operates : (code : List ℕ) → View → WordOperation → Instr → Location → (word : ℕ) → Type 0
Operates code v op i o b = GoesWith code (flags_after op (contents code v o) b) v (operated_on op o (contents code v o) b (on i v))

-- ---- by one

-- INC, or DEC
abbrev pub counted_to : (down : Bool) → ℕ → ℕ
counted_to down a = if down then word_difference a 1 else word_sum a 1

abbrev pub count_overflows : (down : Bool) → ℕ → Bool
count_overflows down a = if down then difference_overflows a 1 else sum_overflows a 1

abbrev pub flags_counted : (down : Bool) → ℕ → Flags → Flags
flags_counted down a flags = keeping_carry flags (if down then difference_flags 32768 a 1 false else sum_flags 32768 a 1 false)

-- an instruction counts an operand up or down
abbrev pub Counts : (code : List ℕ) → View → (down : Bool) → Instr → Location → Type 0
Counts code v down i o =
    GoesWith code (flags_counted down (contents code v o)) v
    (with_overflow (count_overflows down (contents code v o)) (with_contents o (counted_to down (contents code v o)) (on i v)))

-- ---- shifts

pub data Shifting : Type 0 where
  Up : Shifting
  Down : Shifting
  DownSigned : Shifting

-- the number in the opcode, the shift that sets the flags, and the result
abbrev pub shift_row_of : Shifting → ℕ × ShiftOp × ((a n : ℕ) → ℕ)
shift_row_of Up = (4, Shl, word_up)
shift_row_of Down = (5, Shr, word_down)
shift_row_of DownSigned = (7, Sar, word_down_signed)

abbrev pub shift_number : Shifting → ℕ
shift_number op = (shift_row_of op).0

abbrev pub flags_shifted : Shifting → (a n : ℕ) → Flags → Flags
flags_shifted op a n flags = shift_flags (shift_row_of op).1 32768 a n flags

abbrev pub shifted_word : Shifting → (a n : ℕ) → ℕ
shifted_word op = (shift_row_of op).2

-- by one place, or by as many as CL says
abbrev pub places_of : (by_cl : Bool) → View → ℕ
places_of by_cl v = if by_cl then register v 1 % 256 else 1

-- ---- bytes

-- the low byte of one of the first four registers
abbrev pub low_of : View → (register : ℕ) → ℕ
low_of v r = register v r % 256

abbrev pub with_low : (register byte : ℕ) → View → View
with_low r b v = with_register r (register v r / 256 * 256 + b) v

-- the sum and the bits of two bytes
abbrev pub byte_result_of : WordOperation → (a b : ℕ) → ℕ
byte_result_of Add a b = (a + b) % 256
byte_result_of Or a b = bit_or a b
byte_result_of And a b = bit_and a b
byte_result_of Subtract a b = (a + 256 - b) % 256
byte_result_of Xor a b = bit_xor a b
byte_result_of Compare a b = (a + 256 - b) % 256

abbrev pub byte_overflow_of : WordOperation → (a b : ℕ) → Bool
byte_overflow_of Add a b = overflows 128 (signed 128 a +ℤ signed 128 b)
byte_overflow_of Subtract a b = overflows 128 (signed 128 a -ℤ signed 128 b)
byte_overflow_of Compare a b = overflows 128 (signed 128 a -ℤ signed 128 b)
byte_overflow_of op a b = false

abbrev pub byte_operated_on : WordOperation → (register a b : ℕ) → View → View
byte_operated_on Compare r a b v = with_overflow (byte_overflow_of Compare a b) v
byte_operated_on op r a b v = with_overflow (byte_overflow_of op a b) (with_low r (byte_result_of op a b) v)

abbrev pub byte_flags_after : WordOperation → (a b : ℕ) → Flags → Flags
byte_flags_after op a b flags = alu_flags (number_of op) 128 a b flags
