-- What the code of a program deals with of a processor: registers, the words of the data segment and of the stack segment at even
-- offsets, code that nothing changes, and what was told to the ports. And what instructions do to that.
use Rattle.std.specs.Prelude.{◌≡◌, ℕ, ◌+◌, ◌-◌, ◌*◌, ◌/◌, ◌%◌, ◌^◌, ◌<◌, ◌≤◌, nat_eq, nat_lt, nat_le, ◌==◌, Bool, true, false, List, []}
use Rattle.std.specs.Prelude.{◌∷◌, length, slice_index, slice_set, ◌+ℤ◌, ◌-ℤ◌, ◌*ℤ◌, if◌then◌else◌, ℤ, int_lt, int_le, ◌&&◌, not}
use Rattle.std.specs.Bool.{beq}
use Rattle.std.specs.Int.{w16, w32, cast_signed, cast_unsigned}
use Rattle.cw_i86.specs.Encoding.{bytes_of, IsInstr}
use Rattle.cw_i86.specs.Sums.{overflows, signed, difference_flags}
use Rattle.cw_i86.specs.Shifts.{repeated, overflow_of}
use Rattle.cw_i86.specs.Effect.{shift_named}
use Rattle.cw_i86.specs.State.{byte_at, word_at, data_segment, stack_segment}
use Rattle.cw_i86.specs.declared.instr.Instr.{Instr}
use Rattle.cw_i86.specs.declared.instr.Instr.TheVariants as i86
use Rattle.cw_i86.specs.declared.instr.Imm.TheVariants as imm
use Rattle.cw_i86.specs.declared.instr.Rm.{Rm}
use Rattle.cw_i86.specs.declared.instr.Rm.TheVariants as rms
use Rattle.cw_i86.specs.declared.instr.Place.TheVariants as places
use Rattle.cw_i86.specs.MachineRun.{Running}
use Rattle.cw_run86.specs.Processor.{Processor, Told, nothing_told, processor_step}

-- The words of the two segments are functions of their numbers: word k is at offset 2k, and there are 32,768 of each.
pub record View : Type 0 where
  pub registers : List ℕ
  pub place : ℕ
  pub overflow : Bool
  pub cells : ℕ → ℕ
  pub stack : ℕ → ℕ
  pub input : List ℕ
  pub told : Told

abbrev pub code_segment : ℕ
code_segment = 0x1000

-- The processor is at work, has this code in its code segment, and all else is as the view says.
pub record Sees (code : List ℕ) (v : View) (p : Processor) : Type 0 where
  pub at_work : p.end ≡ Running
  pub bytes : length p.state.memory ≡ 2 ^ 20
  pub fits : length code ≤ 65536
  pub segment : p.state.code_segment ≡ code_segment
  pub code_bytes : (k : ℕ) → k < length code → byte_at p.state.memory code_segment k ≡ slice_index code k
  pub registers : p.state.registers ≡ v.registers
  pub place : p.state.instruction_pointer ≡ v.place
  pub overflow : p.state.flags.of ≡ v.overflow
  pub words : (k : ℕ) → k < 32768 → word_at p.state.memory data_segment (2 * k) ≡ v.cells k
  pub stack : (k : ℕ) → k < 32768 → word_at p.state.memory stack_segment (2 * k) ≡ v.stack k
  pub input : p.input ≡ v.input
  pub told : p.told ≡ v.told

-- the instruction stands in the code at a place
pub record Has (code : List ℕ) (place : ℕ) (i : Instr) : Type 0 where
  pub is_instr : IsInstr i
  pub within : place + length (bytes_of i) ≤ length code
  pub bytes : (k : ℕ) → k < length (bytes_of i) → slice_index code (place + k) ≡ slice_index (bytes_of i) k

-- from each processor with the first view, one instruction leads to one with the second
abbrev pub Goes : List ℕ → View → View → Type 0
Goes code v w = (p : Processor) → Sees code v p → Sees code w (processor_step p)

-- ---- what instructions do to views

abbrev pub register : View → ℕ → ℕ
register v r = slice_index v.registers r

-- word k of a segment is replaced
abbrev pub put_word : (ℕ → ℕ) → (number word : ℕ) → ℕ → ℕ
put_word words k w n = if nat_eq n k then w else words n

-- past an instruction
abbrev pub on : Instr → View → View
on i v = record v { place = (v.place + length (bytes_of i)) % 65536 }

abbrev pub with_place : ℕ → View → View
with_place n v = record v { place = n }

abbrev pub with_register : ℕ → ℕ → View → View
with_register r w v = record v { registers = slice_set v.registers r w }

-- a register and the overflow flag
abbrev pub with_result : ℕ → ℕ → Bool → View → View
with_result r w overflow v = record v { registers = slice_set v.registers r w; overflow = overflow }

abbrev pub with_cell : (number word : ℕ) → View → View
with_cell k w v = record v { cells = put_word v.cells k w }

abbrev pub with_stack : (number word : ℕ) → View → View
with_stack k w v = record v { stack = put_word v.stack k w }

-- AX, and DX
abbrev pub with_pair : (low high : ℕ) → View → View
with_pair low high v = record v { registers = slice_set (slice_set v.registers 0 low) 2 high }

abbrev pub with_input : List ℕ → View → View
with_input input v = record v { input = input }

abbrev pub with_told : Told → View → View
with_told t v = record v { told = t }

abbrev pub with_overflow : Bool → View → View
with_overflow overflow v = record v { overflow = overflow }

-- whether a sum or a difference of words, as signed numbers, fits no word
abbrev pub sum_overflows : ℕ → ℕ → Bool
sum_overflows a b = overflows 32768 (signed 32768 a +ℤ signed 32768 b)

abbrev pub difference_overflows : ℕ → ℕ → Bool
difference_overflows a b = overflows 32768 (signed 32768 a -ℤ signed 32768 b)

abbrev pub word_sum : ℕ → ℕ → ℕ
word_sum a b = (a + b) % 65536

abbrev pub word_difference : ℕ → ℕ → ℕ
word_difference a b = (a + 65536 - b) % 65536

-- the word of the data segment at an offset
abbrev pub at_offset : ℕ → Rm
at_offset at = rms.Mem (record { cs = false; place = places.Direct at })

-- an operation of the arithmetic unit on a register and another, on a register and the word at an offset, and on AX and a number
abbrev pub with_other : (op r q : ℕ) → Instr
with_other op r q = i86.AluRm op true true r (rms.Reg q)

abbrev pub with_memory : (op r at : ℕ) → Instr
with_memory op r at = i86.AluRm op true true r (at_offset at)

abbrev pub with_number : (op w : ℕ) → Instr
with_number op w = i86.AluAcc op (imm.Word w)

-- shifts by so many places: up, down, and down with copies of the sign bit coming in
abbrev pub word_up : ℕ → ℕ → ℕ
word_up a n = a * 2 ^ n % 65536

abbrev pub word_down : ℕ → ℕ → ℕ
word_down a n = a / 2 ^ n

abbrev pub word_down_signed : ℕ → ℕ → ℕ
word_down_signed a n = if nat_lt a 32768 then a / 2 ^ n else 65535 - (65535 - a) / 2 ^ n

-- the overflow flag after SHL by one
abbrev pub double_overflows : ℕ → Bool
double_overflows a = not (beq (nat_le 32768 a) (nat_le 32768 (2 * (a % 32768) + 0)))

-- the overflow flag after a shift by CL, by the number of its row
abbrev pub shift_overflow : (op a n : ℕ) → Bool → Bool
shift_overflow op a n old =
    if n == 0 then old else overflow_of (shift_named op) 32768 a n (repeated (shift_named op) 32768 n (a, false)) old

-- the product of words as signed numbers, and its two words
abbrev pub word_product : ℕ → ℕ → ℤ
word_product a b = cast_signed w16 a *ℤ cast_signed w16 b

abbrev pub product_low : ℕ → ℕ → ℕ
product_low a b = cast_unsigned w32 (word_product a b) % 65536

abbrev pub product_high : ℕ → ℕ → ℕ
product_high a b = cast_unsigned w32 (word_product a b) / 65536

abbrev pub product_overflows : ℕ → ℕ → Bool
product_overflows a b = overflows 32768 (word_product a b)

-- sixteen copies of a word's sign bit
abbrev pub sign_of : ℕ → ℕ
sign_of a = if nat_lt a 32768 then 0 else 65535

-- CMP of two registers
abbrev pub compare : ℕ → ℕ → Instr
compare r q = with_other 7 r q

-- The flags are those of two words that were compared. Of these a view has the overflow flag alone.
pub record Compared (a b : ℕ) (p : Processor) : Type 0 where
  pub flags : p.state.flags ≡ difference_flags 32768 a b false

-- an instruction that compares two words
abbrev pub Compares : List ℕ → (a b : ℕ) → Instr → View → Type 0
Compares code a b i v = (p : Processor) → Sees code v p
    → Sees code (with_overflow (difference_overflows a b) (on i v)) (processor_step p)
    × Compared a b (processor_step p)

-- the comparisons of words as signed numbers that jumps behind CMP test: JZ, JNZ, JL, JNL, JLE and JNLE
pub data Comparison : Type 0 where
  Equal : Comparison
  Unequal : Comparison
  Less : Comparison
  NotLess : Comparison
  AtMost : Comparison
  Greater : Comparison

-- the number of the condition, and what it says of two numbers
abbrev pub condition_for : Comparison → ℕ × (ℤ → ℤ → Bool)
condition_for Equal = (4, λ x y. int_le x y && int_le y x)
condition_for Unequal = (5, λ x y. not (int_le x y && int_le y x))
condition_for Less = (12, int_lt)
condition_for NotLess = (13, λ x y. int_le y x)
condition_for AtMost = (14, int_le)
condition_for Greater = (15, λ x y. int_lt y x)

abbrev pub condition_of : Comparison → ℕ
condition_of c = (condition_for c).0

abbrev pub compares : Comparison → ℤ → ℤ → Bool
compares c = (condition_for c).1

abbrev pub words_compare : Comparison → ℕ → ℕ → Bool
words_compare c a b = compares c (signed 32768 a) (signed 32768 b)

-- SP is the offset of word n; 32,768 is past the last one
abbrev pub IsTop : View → ℕ → Type 0
IsTop v n = register v 4 ≡ 2 * n % 65536

-- a view by its registers
abbrev pub view : (place ax cx dx bx sp bp si di : ℕ) → (overflow : Bool) → (cells stack : ℕ → ℕ) → (input : List ℕ) → Told → View
view place ax cx dx bx sp bp si di overflow cells stack input told = record {
  registers = ax ∷ cx ∷ dx ∷ bx ∷ sp ∷ bp ∷ si ∷ di ∷ [];
  place = place;
  overflow = overflow;
  cells = cells;
  stack = stack;
  input = input;
  told = told;
}

-- the view of a start: registers, flags and all words but these are 0
abbrev pub starting_view : (words input : List ℕ) → View
starting_view words input = view 0 0 0 0 0 0 0 0 0 false (slice_index words) (λ k. 0) input nothing_told
