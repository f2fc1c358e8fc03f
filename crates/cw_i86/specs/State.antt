-- The state of the processor, and its parts.
use Rattle.std.specs.Prelude.{ℕ, zero, suc, ◌+◌, ◌-◌, ◌*◌, ◌/◌, ◌%◌, ◌^◌, Bool, true, false, ◌||◌, List}
use Rattle.std.specs.Prelude.{[], ◌∷◌, nat_lt, ◌==◌, if◌then◌else◌, slice_index, slice_set}
use Rattle.cw_i86.specs.Sums.{bit}
use Rattle.cw_i86.specs.Shifts.{is_odd}
use Rattle.cw_i86.specs.declared.flags.Flags.{Flags}
use Rattle.cw_i86.specs.declared.instr.Place.{Place}
use Rattle.cw_i86.specs.declared.instr.Place.TheVariants.{Direct, Plain, Near, Far}
use Rattle.cw_i86.specs.declared.instr.Mem.{Mem}
use Rattle.cw_i86.specs.declared.instr.Rm.{Rm}
use Rattle.cw_i86.specs.declared.instr.Rm.TheVariants as rms
use Rattle.cw_i86.specs.declared.instr.Imm.{Imm}
use Rattle.cw_i86.specs.declared.instr.Imm.TheVariants.{Byte, Word}

-- No instruction loads DS or SS: they are fixed.
pub record State : Type 0 where
  pub memory : List ℕ
  pub registers : List ℕ
  pub code_segment : ℕ
  pub instruction_pointer : ℕ
  pub flags : Flags

-- ---- memory

abbrev pub data_segment : ℕ
data_segment = 0x2000

abbrev pub stack_segment : ℕ
stack_segment = 0x3000

unfoldable pub address : ℕ → ℕ → ℕ
address segment offset = (segment * 16 + offset) % 2 ^ 20

unfoldable pub byte_at : List ℕ → ℕ → ℕ → ℕ
byte_at memory segment offset = slice_index memory (address segment offset)

unfoldable pub with_byte : List ℕ → ℕ → ℕ → ℕ → List ℕ
with_byte memory segment offset value = slice_set memory (address segment offset) value

-- The byte after the last of a segment is its first.
unfoldable pub word_at : List ℕ → ℕ → ℕ → ℕ
word_at memory segment offset =
    byte_at memory segment offset + 256 * byte_at memory segment ((offset + 1) % 65536)

unfoldable pub with_word : List ℕ → ℕ → ℕ → ℕ → List ℕ
with_word memory segment offset value =
    with_byte (with_byte memory segment offset (value % 256)) segment ((offset + 1) % 65536) (value / 256)

-- so many bytes from an offset on
unfoldable pub window : ℕ → List ℕ → ℕ → ℕ → List ℕ
window zero memory segment offset = []
window (suc n) memory segment offset = byte_at memory segment offset ∷ window n memory segment ((offset + 1) % 65536)

-- ---- words

-- a byte as a displacement or a word
abbrev pub sign_extended : ℕ → ℕ
sign_extended b = if nat_lt b 128 then b else b + 65280

-- half of what a width holds
abbrev pub half_of : Bool → ℕ
half_of wide = if wide then 2 ^ 15 else 2 ^ 7

abbrev pub limit_of : Bool → ℕ
limit_of wide = if wide then 2 ^ 16 else 2 ^ 8

abbrev pub imm_value : Imm → ℕ
imm_value (Byte b) = b
imm_value (Word w) = w

-- ---- registers

abbrev pub register : State → ℕ → ℕ
register s r = slice_index s.registers r

abbrev pub with_register : State → ℕ → ℕ → State
with_register s r word = record s { registers = slice_set s.registers r word }

-- 0 to 3 are the low bytes of the first four registers, 4 to 7 their high bytes
abbrev pub byte_register : State → ℕ → ℕ
byte_register s r = if nat_lt r 4 then register s r % 256 else register s (r - 4) / 256

abbrev pub with_byte_register : State → ℕ → ℕ → State
with_byte_register s r byte =
    if nat_lt r 4 then with_register s r (register s r / 256 * 256 + byte)
    else with_register s (r - 4) (byte * 256 + register s (r - 4) % 256)

unfoldable pub sized_register : State → Bool → ℕ → ℕ
sized_register s wide r = if wide then register s r else byte_register s r

unfoldable pub with_sized_register : State → Bool → ℕ → ℕ → State
with_sized_register s wide r value = if wide then with_register s r value else with_byte_register s r value

abbrev pub past : State → ℕ → State
past s n = record s { instruction_pointer = (s.instruction_pointer + n) % 65536 }

abbrev pub with_flags : State → Flags → State
with_flags s flags = record s { flags = flags }

-- ---- operands

-- the sum of registers that an address form names
unfoldable pub form_base : State → ℕ → ℕ
form_base s form =
    if form == 0 then (register s 3 + register s 6) % 65536
    else if form == 1 then (register s 3 + register s 7) % 65536
    else if form == 2 then (register s 5 + register s 6) % 65536
    else if form == 3 then (register s 5 + register s 7) % 65536
    else if form == 4 then register s 6
    else if form == 5 then register s 7
    else if form == 6 then register s 5
    else register s 3

unfoldable pub offset_of : State → Place → ℕ
offset_of s (Direct at) = at
offset_of s (Plain form) = form_base s form
offset_of s (Near form by) = (form_base s form + sign_extended by) % 65536
offset_of s (Far form by) = (form_base s form + by) % 65536

-- the forms with BP
abbrev pub is_stack_form : ℕ → Bool
is_stack_form form = form == 2 || form == 3 || form == 6

abbrev pub default_segment : Place → ℕ
default_segment (Direct at) = data_segment
default_segment (Plain form) = if is_stack_form form then stack_segment else data_segment
default_segment (Near form by) = if is_stack_form form then stack_segment else data_segment
default_segment (Far form by) = if is_stack_form form then stack_segment else data_segment

unfoldable pub segment_of : State → Mem → ℕ
segment_of s mem = if mem.cs then s.code_segment else default_segment mem.place

unfoldable pub value_at : State → Bool → ℕ → ℕ → ℕ
value_at s wide segment offset = if wide then word_at s.memory segment offset else byte_at s.memory segment offset

unfoldable pub with_value_at : State → Bool → ℕ → ℕ → ℕ → State
with_value_at s wide segment offset value =
    record s { memory = if wide then with_word s.memory segment offset value else with_byte s.memory segment offset value }

unfoldable pub operand : State → Bool → Rm → ℕ
operand s wide (rms.Reg r) = sized_register s wide r
operand s wide (rms.Mem mem) = value_at s wide (segment_of s mem) (offset_of s mem.place)

unfoldable pub with_operand : State → Bool → Rm → ℕ → State
with_operand s wide (rms.Reg r) value = with_sized_register s wide r value
with_operand s wide (rms.Mem mem) value = with_value_at s wide (segment_of s mem) (offset_of s mem.place) value

-- ---- the stack

unfoldable pub push : State → ℕ → State
push s word =
    let top = (register s 4 + 65534) % 65536 in
    record (with_register s 4 top) { memory = with_word s.memory stack_segment top word }

abbrev pub top_word : State → ℕ
top_word s = word_at s.memory stack_segment (register s 4)

abbrev pub popped : State → ℕ → State
popped s n = with_register s 4 ((register s 4 + n) % 65536)

-- ---- flags in a word

unfoldable pub flags_word : Flags → ℕ
flags_word f = bit f.cf + 4 * bit f.pf + 16 * bit f.af + 64 * bit f.zf + 128 * bit f.sf + 2048 * bit f.of

unfoldable pub low_flags : ℕ → Bool → Flags
low_flags n overflow = record {
  cf = is_odd n;
  pf = is_odd (n / 4);
  af = is_odd (n / 16);
  zf = is_odd (n / 64);
  sf = is_odd (n / 128);
  of = overflow;
}

unfoldable pub flags_of_word : ℕ → Flags
flags_of_word n = low_flags n (is_odd (n / 2048))
