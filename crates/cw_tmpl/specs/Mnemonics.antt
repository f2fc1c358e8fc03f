-- Registers, the words of an activation record, and short words for the instructions that the templates use.
use Rattle.std.specs.Prelude.{if◌then◌else◌, nat_lt, ℕ, zero, suc, ◌+◌, ◌*◌, true, false, List, [], ◌∷◌, ◌++◌}
use Rattle.cw_i86.specs.declared.instr.Instr.{Instr}
use Rattle.cw_i86.specs.declared.instr.Instr.TheVariants as i86
use Rattle.cw_i86.specs.declared.instr.Imm.TheVariants as imm
use Rattle.cw_i86.specs.declared.instr.Rm.{Rm}
use Rattle.cw_i86.specs.declared.instr.Rm.TheVariants as rms
use Rattle.cw_i86.specs.declared.instr.Place.{Place}
use Rattle.cw_i86.specs.declared.instr.Place.TheVariants as places
use Rattle.cw_i86.specs.Encoding.{bytes_of}

abbrev pub ax : ℕ
ax = 0

abbrev pub cx : ℕ
cx = 1

abbrev pub dx : ℕ
dx = 2

abbrev pub bx : ℕ
bx = 3

abbrev pub sp : ℕ
sp = 4

abbrev pub bp : ℕ
bp = 5

abbrev pub si : ℕ
si = 6

abbrev pub di : ℕ
di = 7

abbrev pub al : ℕ
al = 0

abbrev pub ah : ℕ
ah = 4

-- The words of an activation record, as displacements from BP: the number of the segment, the calls that are left, twice the base of the frame
-- modulo 65,536, and how many words of the data area are behind the frame.
abbrev pub segment_slot : ℕ
segment_slot = 0xFE

abbrev pub calls_slot : ℕ
calls_slot = 0xFC

abbrev pub base_slot : ℕ
base_slot = 0xFA

abbrev pub rest_slot : ℕ
rest_slot = 0xF8

-- the first word of the arguments, as a displacement from BP
abbrev pub first_argument : ℕ
first_argument = 4

-- what BP and SP hold for the base record, where there are no operands: it is at the end of the stack, without a caller's BP and a place to
-- come back to
abbrev pub base_record : ℕ
base_record = 0

abbrev pub base_operands : ℕ
base_operands = 0xFFF8

-- how far the last word of a record is below its BP
abbrev pub record_depth : ℕ
record_depth = 8

abbrev pub memory : Place → Rm
memory place = rms.Mem (record { cs = false; place = place })

abbrev pub slot : ℕ → Rm
slot by = memory (places.Near 6 by)

-- the word of the stack so many bytes behind BP: the displacement is a byte where one holds it
abbrev pub behind_bp : (by : ℕ) → Place
behind_bp by = if nat_lt by 128 then places.Near 6 by else places.Far 6 by

-- the argument that so many words of arguments follow
abbrev pub argument : ℕ → Rm
argument n = memory (behind_bp (first_argument + 2 * n))

-- the word of the data segment at BX, and so many bytes behind it
abbrev pub at_bx : Rm
at_bx = memory (places.Plain 7)

-- the operand has no displacement, a byte or a word, as few bytes as hold it
abbrev pub behind_bx : (by : ℕ) → Place
behind_bx zero = places.Plain 7
behind_bx (suc by) = if nat_lt (suc by) 128 then places.Near 7 (suc by) else places.Far 7 (suc by)

abbrev pub field : ℕ → Rm
field by = memory (behind_bx by)

abbrev pub near_field : ℕ → Rm
near_field by = memory (places.Near 7 by)

-- the word of the data segment at SI
abbrev pub at_si : Rm
at_si = memory (places.Plain 4)

-- the word of the code at a place
abbrev pub code_at : (place : ℕ) → Rm
code_at place = rms.Mem (record { cs = true; place = places.Direct place })

-- the word of the code at BX, at SI, and so many bytes behind that
abbrev pub code_at_bx : Rm
code_at_bx = rms.Mem (record { cs = true; place = places.Plain 7 })

abbrev pub code_behind_bx : ℕ → Rm
code_behind_bx by = rms.Mem (record { cs = true; place = places.Near 7 by })

abbrev pub code_at_si : Rm
code_at_si = rms.Mem (record { cs = true; place = places.Plain 4 })

abbrev pub code_behind_si : ℕ → Rm
code_behind_si by = rms.Mem (record { cs = true; place = places.Near 4 by })

-- the word of a table of the code that begins there, by BX
abbrev pub entry_of_table : ℕ → Rm
entry_of_table at = rms.Mem (record { cs = true; place = places.Far 7 at })

abbrev pub set_word : ℕ → ℕ → Instr
set_word reg w = i86.MovImm reg (imm.Word w)

abbrev pub set_byte : ℕ → ℕ → Instr
set_byte reg b = i86.MovImm reg (imm.Byte b)

abbrev pub load : ℕ → Rm → Instr
load reg rm = i86.Mov true true reg rm

abbrev pub store : Rm → ℕ → Instr
store rm reg = i86.Mov true false reg rm

abbrev pub move : ℕ → ℕ → Instr
move to from = load to (rms.Reg from)

abbrev pub add : ℕ → ℕ → Instr
add to from = i86.AluRm 0 true true to (rms.Reg from)

-- a byte with its sign added to a register, and words of memory
abbrev pub add_number : ℕ → ℕ → Instr
add_number reg b = i86.AluShort 0 (rms.Reg reg) b

abbrev pub add_word : ℕ → Rm → Instr
add_word reg rm = i86.AluRm 0 true true reg rm

abbrev pub subtract_word : ℕ → Rm → Instr
subtract_word reg rm = i86.AluRm 5 true true reg rm

abbrev pub subtract : ℕ → ℕ → Instr
subtract to from = i86.AluRm 5 true true to (rms.Reg from)

abbrev pub compare : ℕ → ℕ → Instr
compare left right = i86.AluRm 7 true true left (rms.Reg right)

abbrev pub compare_word : ℕ → Rm → Instr
compare_word left rm = i86.AluRm 7 true true left rm

abbrev pub negate : ℕ → Instr
negate reg = i86.Unary 3 true (rms.Reg reg)

abbrev pub both : ℕ → ℕ → Instr
both to from = i86.AluRm 4 true true to (rms.Reg from)

abbrev pub either : ℕ → ℕ → Instr
either to from = i86.AluRm 1 true true to (rms.Reg from)

abbrev pub one_of : ℕ → ℕ → Instr
one_of to from = i86.AluRm 6 true true to (rms.Reg from)

-- AX becomes a number; 0 has the shorter form
abbrev pub set_ax : (w : ℕ) → Instr
set_ax zero = one_of ax ax
set_ax (suc w) = set_word ax (suc w)

-- an operation of the arithmetic unit, by its number, on a register, which changes, and an operand
abbrev pub operate : ℕ → ℕ → Rm → Instr
operate op to rm = i86.AluRm op true true to rm

-- the same on an operand, which changes, and a register
abbrev pub change : ℕ → Rm → ℕ → Instr
change op rm from = i86.AluRm op true false from rm

-- an operation of the arithmetic unit on a register and a number
abbrev pub operate_number : ℕ → ℕ → ℕ → Instr
operate_number op reg w = i86.AluImm op (rms.Reg reg) (imm.Word w)

-- a word of memory compared with a number
abbrev pub compare_number : Rm → ℕ → Instr
compare_number rm w = i86.AluImm 7 rm (imm.Word w)

abbrev pub change_memory : ℕ → (offset : ℕ) → ℕ → Instr
change_memory op offset from = change op (memory (places.Direct offset)) from

-- shifts by CL: up, down, and down with copies of the sign
abbrev pub shift_up : ℕ → Instr
shift_up reg = i86.Shift 4 true true (rms.Reg reg)

abbrev pub shift_down : ℕ → Instr
shift_down reg = i86.Shift 5 true true (rms.Reg reg)

abbrev pub shift_down_signed : ℕ → Instr
shift_down_signed reg = i86.Shift 7 true true (rms.Reg reg)

-- the same by one place
abbrev pub shift_up_once : ℕ → Instr
shift_up_once reg = i86.Shift 4 true false (rms.Reg reg)

abbrev pub shift_down_once : ℕ → Instr
shift_down_once reg = i86.Shift 5 true false (rms.Reg reg)

abbrev pub shift_down_signed_once : ℕ → Instr
shift_down_signed_once reg = i86.Shift 7 true false (rms.Reg reg)

-- one more, and one less
abbrev pub increase : ℕ → Instr
increase reg = i86.Inc reg

abbrev pub decrease : ℕ → Instr
decrease reg = i86.Dec reg

-- AX times a register, in DX and AX; and these two over a register
abbrev pub multiply : ℕ → Instr
multiply reg = i86.Unary 5 true (rms.Reg reg)

abbrev pub divide : ℕ → Instr
divide reg = i86.Unary 6 true (rms.Reg reg)

abbrev pub divide_signed : ℕ → Instr
divide_signed reg = i86.Unary 7 true (rms.Reg reg)

abbrev pub double : ℕ → Instr
double reg = i86.Shift 4 true false (rms.Reg reg)

abbrev pub jump_to : ℕ → Instr
jump_to reg = i86.JumpRm (rms.Reg reg)

-- AX and BX change places
abbrev pub exchange : Instr
exchange = i86.XchgAx bx

abbrev pub jump_if_overflow : ℕ → Instr
jump_if_overflow by = i86.JumpIf 0 by

abbrev pub jump_if_no_overflow : ℕ → Instr
jump_if_no_overflow by = i86.JumpIf 1 by

abbrev pub jump_if_below : ℕ → Instr
jump_if_below by = i86.JumpIf 2 by

abbrev pub jump_if_not_below : ℕ → Instr
jump_if_not_below by = i86.JumpIf 3 by

abbrev pub jump_if_equal : ℕ → Instr
jump_if_equal by = i86.JumpIf 4 by

abbrev pub jump_if_unequal : ℕ → Instr
jump_if_unequal by = i86.JumpIf 5 by

abbrev pub jump_if_sign : ℕ → Instr
jump_if_sign by = i86.JumpIf 8 by

-- where CX is 0
abbrev pub jump_if_cx_zero : ℕ → Instr
jump_if_cx_zero by = i86.Loop 3 by

abbrev pub jump_if_not_less : ℕ → Instr
jump_if_not_less by = i86.JumpIf 13 by

abbrev pub jump_if_at_most : ℕ → Instr
jump_if_at_most by = i86.JumpIf 14 by

abbrev pub bytes_of_all : List Instr → List ℕ
bytes_of_all [] = []
bytes_of_all (i ∷ is) = bytes_of i ++ bytes_of_all is
