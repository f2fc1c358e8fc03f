-- What an instruction is in NASM's syntax: a name and at most two operands; and for which of them NASM gives back the bytes.
use Rattle.std.specs.Prelude.{ℕ, ◌+◌, ◌%◌, Bool, true, false, not, ◌&&◌, ◌||◌, ◌==◌, nat_lt, nat_le, if◌then◌else◌, codes, Option, Some, None}
use Rattle.cw_i86.specs.declared.instr.Place.{Place}
use Rattle.cw_i86.specs.declared.instr.Place.TheVariants.{Direct}
use Rattle.cw_i86.specs.declared.instr.Rm.{Rm}
use Rattle.cw_i86.specs.declared.instr.Rm.TheVariants as rms
use Rattle.cw_i86.specs.declared.instr.Imm.{Imm}
use Rattle.cw_i86.specs.declared.instr.Imm.TheVariants as imm
use Rattle.cw_i86.specs.declared.instr.Instr.{Instr}
use Rattle.cw_i86.specs.declared.instr.Instr.TheVariants as i86
use Rattle.cw_i86.specs.Encoding.{is_word}
use Rattle.cw_i86.specs.State.{sign_extended}
use Rattle.cw_nasm.specs.Names.{Text, name_in, sums, condition, shifts, loops, unaries}
use Rattle.cw_nasm.specs.declared.operation.Width.{Width}
use Rattle.cw_nasm.specs.declared.operation.Width.TheVariants as width
use Rattle.cw_nasm.specs.declared.operation.Operand.{Operand}
use Rattle.cw_nasm.specs.declared.operation.Operand.TheVariants.{Nothing, Register, Memory, Number, StrictWord, Signed, Label}

-- ---- names

abbrev pub mnemonic_of : Instr → Text
mnemonic_of (i86.AluRm op wide to_reg reg rm) = name_in sums op
mnemonic_of (i86.AluAcc op imm) = name_in sums op
mnemonic_of (i86.Inc reg) = codes "inc"
mnemonic_of (i86.Dec reg) = codes "dec"
mnemonic_of (i86.Push reg) = codes "push"
mnemonic_of (i86.Pop reg) = codes "pop"
mnemonic_of (i86.JumpIf cond by) = condition cond
mnemonic_of (i86.AluImm op rm imm) = name_in sums op
mnemonic_of (i86.AluShort op rm imm) = name_in sums op
mnemonic_of (i86.TestRm wide reg rm) = codes "test"
mnemonic_of (i86.XchgRm wide reg rm) = codes "xchg"
mnemonic_of (i86.Mov wide to_reg reg rm) = codes "mov"
mnemonic_of (i86.Lea reg mem) = codes "lea"
mnemonic_of (i86.XchgAx reg) = if reg == 0 then codes "nop" else codes "xchg"
mnemonic_of i86.Cbw = codes "cbw"
mnemonic_of i86.Cwd = codes "cwd"
mnemonic_of i86.PushF = codes "pushf"
mnemonic_of i86.PopF = codes "popf"
mnemonic_of i86.Sahf = codes "sahf"
mnemonic_of i86.Lahf = codes "lahf"
mnemonic_of (i86.MovAcc cs wide store at) = codes "mov"
mnemonic_of (i86.TestAcc imm) = codes "test"
mnemonic_of (i86.MovImm reg imm) = codes "mov"
mnemonic_of (i86.RetAdd n) = codes "ret"
mnemonic_of i86.Ret = codes "ret"
mnemonic_of (i86.MovRm rm imm) = codes "mov"
mnemonic_of (i86.Shift op wide by_cl rm) = name_in shifts op
mnemonic_of (i86.Loop kind by) = name_in loops kind
mnemonic_of (i86.In port) = codes "in"
mnemonic_of (i86.Out port) = codes "out"
mnemonic_of (i86.Call by) = codes "call"
mnemonic_of (i86.Jump by) = codes "jmp near"
mnemonic_of (i86.JumpShort by) = codes "jmp short"
mnemonic_of i86.Hlt = codes "hlt"
mnemonic_of i86.Cmc = codes "cmc"
mnemonic_of i86.Clc = codes "clc"
mnemonic_of i86.Stc = codes "stc"
mnemonic_of (i86.TestImm rm imm) = codes "test"
mnemonic_of (i86.Unary op wide rm) = name_in unaries op
mnemonic_of (i86.IncDec down wide rm) = if down then codes "dec" else codes "inc"
mnemonic_of (i86.CallRm rm) = codes "call"
mnemonic_of (i86.JumpRm rm) = codes "jmp"
mnemonic_of (i86.PushRm rm) = codes "push"

-- ---- operands

abbrev pub width_of : (wide : Bool) → Width
width_of wide = if wide then width.Word else width.Byte

-- an operand beside a register, which tells the width
abbrev pub operand_of : (wide : Bool) → Rm → Operand
operand_of wide (rms.Reg r) = Register wide r
operand_of wide (rms.Mem mem) = Memory width.Unsaid mem

-- an operand that tells its width itself
abbrev pub sized : (wide : Bool) → Rm → Operand
sized wide (rms.Reg r) = Register wide r
sized wide (rms.Mem mem) = Memory (width_of wide) mem

abbrev pub number_of : Imm → Operand
number_of (imm.Byte b) = Number b
number_of (imm.Word w) = Number w

-- beside a word, where NASM would take a byte that is sign-extended if it can
abbrev pub whole_number_of : Imm → Operand
whole_number_of (imm.Byte b) = Number b
whole_number_of (imm.Word w) = StrictWord w

abbrev pub direct : (cs : Bool) → (at : ℕ) → Operand
direct cs at = Memory width.Unsaid (record { cs = cs; place = Direct at })

abbrev pub in_order : (first second : Operand) → (as_said : Bool) → Operand × Operand
in_order first second true = (first, second)
in_order first second false = (second, first)

-- where an instruction of so many bytes goes on by a displacement
abbrev pub target : (place size ahead : ℕ) → ℕ
target place size ahead = (place + size + ahead) % 65536

-- the place to which an instruction at a place can go on by its displacement
abbrev pub short_target : (place by : ℕ) → ℕ
short_target place by = target place 2 (sign_extended by)

abbrev pub near_target : (place by : ℕ) → ℕ
near_target place by = target place 3 by

abbrev pub accumulator : (wide : Bool) → Operand
accumulator wide = Register wide 0

abbrev pub shift_count : (by_cl : Bool) → Operand
shift_count by_cl = if by_cl then Register false 1 else Number 1

abbrev pub operands_of : Instr → (place : ℕ) → Operand × Operand
operands_of (i86.AluRm op wide to_reg reg rm) place = in_order (Register wide reg) (operand_of wide rm) to_reg
operands_of (i86.AluAcc op imm) place = (accumulator (is_word imm), whole_number_of imm)
operands_of (i86.Inc reg) place = (Register true reg, Nothing)
operands_of (i86.Dec reg) place = (Register true reg, Nothing)
operands_of (i86.Push reg) place = (Register true reg, Nothing)
operands_of (i86.Pop reg) place = (Register true reg, Nothing)
operands_of (i86.JumpIf cond by) place = (Label (short_target place by), Nothing)
operands_of (i86.AluImm op rm imm) place = (sized (is_word imm) rm, whole_number_of imm)
operands_of (i86.AluShort op rm imm) place = (sized true rm, Signed imm)
operands_of (i86.TestRm wide reg rm) place = (operand_of wide rm, Register wide reg)
operands_of (i86.XchgRm wide reg rm) place = (Register wide reg, operand_of wide rm)
operands_of (i86.Mov wide to_reg reg rm) place = in_order (Register wide reg) (operand_of wide rm) to_reg
operands_of (i86.Lea reg mem) place = (Register true reg, Memory width.Unsaid mem)
operands_of (i86.XchgAx reg) place = if reg == 0 then (Nothing, Nothing) else (accumulator true, Register true reg)
operands_of (i86.MovAcc cs wide store at) place = in_order (direct cs at) (accumulator wide) store
operands_of (i86.TestAcc imm) place = (accumulator (is_word imm), number_of imm)
operands_of (i86.MovImm reg imm) place = (Register (is_word imm) reg, number_of imm)
operands_of (i86.RetAdd n) place = (Number n, Nothing)
operands_of (i86.MovRm rm imm) place = (sized (is_word imm) rm, number_of imm)
operands_of (i86.Shift op wide by_cl rm) place = (sized wide rm, shift_count by_cl)
operands_of (i86.Loop kind by) place = (Label (short_target place by), Nothing)
operands_of (i86.In port) place = (accumulator false, Number port)
operands_of (i86.Out port) place = (Number port, accumulator false)
operands_of (i86.Call by) place = (Label (near_target place by), Nothing)
operands_of (i86.Jump by) place = (Label (near_target place by), Nothing)
operands_of (i86.JumpShort by) place = (Label (short_target place by), Nothing)
operands_of (i86.TestImm rm imm) place = (sized (is_word imm) rm, number_of imm)
operands_of (i86.Unary op wide rm) place = (sized wide rm, Nothing)
operands_of (i86.IncDec down wide rm) place = (sized wide rm, Nothing)
operands_of (i86.CallRm rm) place = (sized true rm, Nothing)
operands_of (i86.JumpRm rm) place = (sized true rm, Nothing)
operands_of (i86.PushRm rm) place = (sized true rm, Nothing)
operands_of i place = (Nothing, Nothing)

-- the place that a call or jump names in its operand
abbrev pub named_place : Instr → (place : ℕ) → Option ℕ
named_place (i86.JumpIf cond by) place = Some (short_target place by)
named_place (i86.Loop kind by) place = Some (short_target place by)
named_place (i86.Call by) place = Some (near_target place by)
named_place (i86.Jump by) place = Some (near_target place by)
named_place (i86.JumpShort by) place = Some (short_target place by)
named_place i place = None

-- ---- what NASM gives back

abbrev pub is_register : Rm → Bool
is_register (rms.Reg r) = true
is_register (rms.Mem mem) = false

-- AL or AX
abbrev pub is_accumulator : Rm → Bool
is_accumulator (rms.Reg r) = r == 0
is_accumulator (rms.Mem mem) = false

abbrev pub is_direct_place : Place → Bool
is_direct_place (Direct at) = true
is_direct_place _ = false

abbrev pub is_direct : Rm → Bool
is_direct (rms.Reg r) = false
is_direct (rms.Mem mem) = is_direct_place mem.place

-- the way of a short jump passes neither end of the segment
abbrev pub stays_within : (place by : ℕ) → Bool
stays_within place by = if nat_lt by 128 then nat_lt (place + 2 + by) 65536 else nat_le 256 (place + 2 + by)

-- Whether NASM, given the text of an instruction, gives just its bytes. It writes the register as the source where two registers stand, takes the short forms
-- of AX and of registers where there are any, and goes no short way past an end of the segment.
abbrev pub is_given_back : Instr → (place : ℕ) → Bool
is_given_back (i86.AluRm op wide to_reg reg rm) place = not (to_reg && is_register rm)
is_given_back (i86.JumpIf cond by) place = stays_within place by
is_given_back (i86.AluImm op rm imm) place = not (is_accumulator rm)
is_given_back (i86.XchgRm wide reg rm) place = not (wide && is_register rm && (reg == 0 || is_accumulator rm))
is_given_back (i86.Mov wide to_reg reg rm) place = not (to_reg && is_register rm) && not (reg == 0 && is_direct rm)
is_given_back (i86.MovRm rm imm) place = not (is_register rm)
is_given_back (i86.Loop kind by) place = stays_within place by
is_given_back (i86.JumpShort by) place = stays_within place by
is_given_back (i86.TestImm rm imm) place = not (is_accumulator rm)
is_given_back (i86.IncDec down wide rm) place = not (wide && is_register rm)
is_given_back (i86.PushRm rm) place = not (is_register rm)
is_given_back i place = true
