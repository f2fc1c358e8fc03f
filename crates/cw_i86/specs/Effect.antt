-- What each instruction does.
use Rattle.std.specs.Prelude.{ℕ, ◌+◌, ◌-◌, ◌*◌, ◌/◌, ◌%◌, ◌^◌, Bool, true, false, not, ◌&&◌, ◌||◌, nat_lt, nat_le}
use Rattle.std.specs.Prelude.{◌==◌, if◌then◌else◌, Option, Some, None, ℤ, ◌*ℤ◌, bit_and, bit_or, bit_xor}
use Rattle.std.specs.Int.{Width, w8, w16, w32, cast_signed, cast_unsigned}
use Rattle.std.specs.Bool.{beq}
use Rattle.cw_i86.specs.Sums.{sum_of, sum_flags, difference_of, difference_flags, keeping_carry, logic_flags, overflows}
use Rattle.cw_i86.specs.Shifts.{shift_of, shift_flags}
use Rattle.cw_i86.specs.Products.{product_flags, quotient_of, signed_quotient_of}
use Rattle.cw_i86.specs.declared.shift.ShiftOp.{ShiftOp}
use Rattle.cw_i86.specs.declared.shift.ShiftOp.TheVariants.{Rol, Ror, Rcl, Rcr, Shl, Shr, Sar}
use Rattle.cw_i86.specs.declared.flags.Flags.{Flags}
use Rattle.cw_i86.specs.Encoding.{is_word}
use Rattle.cw_i86.specs.declared.instr.Mem.{Mem}
use Rattle.cw_i86.specs.declared.instr.Rm.{Rm}
use Rattle.cw_i86.specs.declared.instr.Rm.TheVariants as rms
use Rattle.cw_i86.specs.declared.instr.Imm.{Imm}
use Rattle.cw_i86.specs.declared.instr.Instr.{Instr}
use Rattle.cw_i86.specs.declared.instr.Instr.TheVariants.{AluRm, AluAcc, Inc, Dec, Push, Pop, JumpIf, AluImm, AluShort, TestRm, XchgRm, Mov, Lea, XchgAx, Cbw, Cwd}
use Rattle.cw_i86.specs.declared.instr.Instr.TheVariants.{PushF, PopF, Sahf, Lahf, MovAcc, TestAcc, MovImm, RetAdd, Ret, MovRm, Shift as ShiftRm, Loop, In, Out}
use Rattle.cw_i86.specs.declared.instr.Instr.TheVariants.{Call, Jump, JumpShort, Hlt, Cmc, Clc, Stc, TestImm, Unary, IncDec, CallRm, JumpRm, PushRm}
use Rattle.cw_i86.specs.State.{State, data_segment, sign_extended, half_of, limit_of, imm_value, register, with_register, byte_register}
use Rattle.cw_i86.specs.State.{with_byte_register, sized_register, with_sized_register, past, with_flags, offset_of, value_at, with_value_at}
use Rattle.cw_i86.specs.State.{operand, with_operand, push, top_word, popped, flags_word, low_flags, flags_of_word}

-- ---- the eight operations: ADD OR ADC SBB AND SUB XOR CMP

unfoldable pub alu_value : ℕ → ℕ → ℕ → ℕ → Bool → ℕ
alu_value op half a b carry =
    if op == 0 then sum_of half a b false
    else if op == 1 then bit_or a b
    else if op == 2 then sum_of half a b carry
    else if op == 3 then difference_of half a b carry
    else if op == 4 then bit_and a b
    else if op == 6 then bit_xor a b
    else difference_of half a b false

unfoldable pub alu_flags : ℕ → ℕ → ℕ → ℕ → Flags → Flags
alu_flags op half a b flags =
    if op == 0 then sum_flags half a b false
    else if op == 1 then logic_flags half (bit_or a b) flags
    else if op == 2 then sum_flags half a b flags.cf
    else if op == 3 then difference_flags half a b flags.cf
    else if op == 4 then logic_flags half (bit_and a b) flags
    else if op == 6 then logic_flags half (bit_xor a b) flags
    else difference_flags half a b false

-- the operand becomes the result, but for CMP
unfoldable pub operated : State → ℕ → Bool → Rm → ℕ → State
operated s op wide rm b =
    let a = operand s wide rm in
    let t = with_flags s (alu_flags op (half_of wide) a b s.flags) in
    if op == 7 then t else with_operand t wide rm (alu_value op (half_of wide) a b s.flags.cf)

unfoldable pub tested : State → Bool → ℕ → ℕ → State
tested s wide a b = with_flags s (logic_flags (half_of wide) (bit_and a b) s.flags)

-- INC and DEC
unfoldable pub counted : State → Bool → Bool → Rm → State
counted s down wide rm =
    let a = operand s wide rm in
    if down then
    with_operand (with_flags s (keeping_carry s.flags (difference_flags (half_of wide) a 1 false))) wide rm (difference_of (half_of wide) a 1 false)
    else with_operand (with_flags s (keeping_carry s.flags (sum_flags (half_of wide) a 1 false))) wide rm (sum_of (half_of wide) a 1 false)

-- ---- jumps

-- O B Z BE S P L LE, each before its opposite
unfoldable pub holds : Flags → ℕ → Bool
holds f cond =
    let is = if cond / 2 == 0 then f.of
    else if cond / 2 == 1 then f.cf
    else if cond / 2 == 2 then f.zf
    else if cond / 2 == 3 then f.cf || f.zf
    else if cond / 2 == 4 then f.sf
    else if cond / 2 == 5 then f.pf
    else if cond / 2 == 6 then not (beq f.sf f.of)
    else f.zf || not (beq f.sf f.of) in
    if cond % 2 == 0 then is else not is

abbrev pub jumped_if : State → Bool → ℕ → State
jumped_if s holds by = if holds then past s (sign_extended by) else s

abbrev pub less_one : ℕ → ℕ
less_one n = (n + 65535) % 65536

-- LOOPNZ LOOPZ LOOP JCXZ
unfoldable pub looped : State → ℕ → ℕ → State
looped s kind by =
    if kind == 3 then jumped_if s (register s 1 == 0) by
    else
    let count = less_one (register s 1) in
    jumped_if (with_register s 1 count) (not (count == 0) && (if kind == 0 then not s.flags.zf else if kind == 1 then s.flags.zf else true)) by

abbrev pub at_place : State → ℕ → State
at_place s place = record s { instruction_pointer = place }

unfoldable pub returned : State → ℕ → State
returned s n = popped (at_place s (top_word s)) (2 + n)

unfoldable pub called : State → ℕ → State
called s place = at_place (push s s.instruction_pointer) place

-- ---- shifts

abbrev pub shift_named : ℕ → ShiftOp
shift_named op =
    if op == 0 then Rol else if op == 1 then Ror else if op == 2 then Rcl else if op == 3 then Rcr
    else if op == 4 then Shl else if op == 5 then Shr else Sar

unfoldable pub shifted : State → ℕ → Bool → Bool → Rm → State
shifted s op wide by_cl rm =
    let a = operand s wide rm in
    let count = if by_cl then register s 1 % 256 else 1 in
    with_operand (with_flags s (shift_flags (shift_named op) (half_of wide) a count s.flags)) wide rm (shift_of (shift_named op) (half_of wide) a count s.flags)

-- ---- NOT NEG MUL IMUL DIV IDIV

unfoldable pub complemented : State → Bool → Rm → State
complemented s wide rm = with_operand s wide rm (limit_of wide - 1 - operand s wide rm)

unfoldable pub negated : State → Bool → Rm → State
negated s wide rm =
    let a = operand s wide rm in
    with_operand (with_flags s (difference_flags (half_of wide) 0 a false)) wide rm (difference_of (half_of wide) 0 a false)

-- DX and AX as one number
abbrev pub double_word : State → ℕ
double_word s = 65536 * register s 2 + register s 0

abbrev pub with_double_word : State → ℕ → State
with_double_word s n = with_register (with_register s 0 (n % 65536)) 2 (n / 65536)

unfoldable pub multiplied : State → Bool → ℕ → State
multiplied s true b =
    with_double_word (with_flags s (product_flags (nat_le (2 ^ 16) (register s 0 * b)) s.flags)) (register s 0 * b)
multiplied s false b =
    with_register (with_flags s (product_flags (nat_le (2 ^ 8) (byte_register s 0 * b)) s.flags)) 0 (byte_register s 0 * b)

abbrev pub signed_product : Width → ℕ → ℕ → ℤ
signed_product w a b = cast_signed w a *ℤ cast_signed w b

unfoldable pub signed_multiplied : State → Bool → ℕ → State
signed_multiplied s true b =
    let n = signed_product w16 (register s 0) b in
    with_double_word (with_flags s (product_flags (overflows (2 ^ 15) n) s.flags)) (cast_unsigned w32 n)
signed_multiplied s false b =
    let n = signed_product w8 (byte_register s 0) b in
    with_register (with_flags s (product_flags (overflows (2 ^ 7) n) s.flags)) 0 (cast_unsigned w16 n)

-- the quotient in AX and the remainder in DX, or in AL and AH
abbrev pub with_quotient : State → Bool → Option (ℕ × ℕ) → Option State
with_quotient s wide None = None
with_quotient s true (Some found) = Some (with_register (with_register s 0 found.0) 2 found.1)
with_quotient s false (Some found) = Some (with_register s 0 (256 * found.1 + found.0))

unfoldable pub divided : State → Bool → ℕ → Option State
divided s true b = with_quotient s true (quotient_of (2 ^ 15) (double_word s) b)
divided s false b = with_quotient s false (quotient_of (2 ^ 7) (register s 0) b)

unfoldable pub signed_divided : State → Bool → ℕ → Option State
signed_divided s true b = with_quotient s true (signed_quotient_of w32 w16 (2 ^ 15) (double_word s) b)
signed_divided s false b = with_quotient s false (signed_quotient_of w16 w8 (2 ^ 7) (register s 0) b)

unfoldable pub unary : State → ℕ → Bool → Rm → Option State
unary s op wide rm =
    if op == 2 then Some (complemented s wide rm)
    else if op == 3 then Some (negated s wide rm)
    else if op == 4 then Some (multiplied s wide (operand s wide rm))
    else if op == 5 then Some (signed_multiplied s wide (operand s wide rm))
    else if op == 6 then divided s wide (operand s wide rm)
    else signed_divided s wide (operand s wide rm)

-- ---- moves

unfoldable pub moved : State → Bool → Bool → ℕ → Rm → State
moved s wide to_reg reg rm =
    if to_reg then with_sized_register s wide reg (operand s wide rm)
    else with_operand s wide rm (sized_register s wide reg)

unfoldable pub exchanged : State → Bool → ℕ → Rm → State
exchanged s wide reg rm =
    with_sized_register (with_operand s wide rm (sized_register s wide reg)) wide reg (operand s wide rm)

unfoldable pub moved_acc : State → Bool → Bool → Bool → ℕ → State
moved_acc s cs wide store at =
    let segment = if cs then s.code_segment else data_segment in
    if store then with_value_at s wide segment at (sized_register s wide 0)
    else with_sized_register s wide 0 (value_at s wide segment at)

unfoldable pub byte_extended : State → State
byte_extended s = with_register s 0 (sign_extended (byte_register s 0))

unfoldable pub word_extended : State → State
word_extended s = with_register s 2 (if nat_lt (register s 0) 32768 then 0 else 65535)

unfoldable pub pop_to : State → ℕ → State
pop_to s r = with_register (popped s 2) r (top_word s)

-- An instruction in a state that is already past it, but for IN, OUT and HLT. None: the division faults.
abbrev pub executed : Instr → State → Option State
executed (AluRm op wide to_reg reg rm) s =
    Some (if to_reg then operated s op wide (rms.Reg reg) (operand s wide rm) else operated s op wide rm (sized_register s wide reg))
executed (AluAcc op imm) s = Some (operated s op (is_word imm) (rms.Reg 0) (imm_value imm))
executed (Inc reg) s = Some (counted s false true (rms.Reg reg))
executed (Dec reg) s = Some (counted s true true (rms.Reg reg))
executed (Push reg) s = Some (push s (register s reg))
executed (Pop reg) s = Some (pop_to s reg)
executed (JumpIf cond by) s = Some (jumped_if s (holds s.flags cond) by)
executed (AluImm op rm imm) s = Some (operated s op (is_word imm) rm (imm_value imm))
executed (AluShort op rm imm) s = Some (operated s op true rm (sign_extended imm))
executed (TestRm wide reg rm) s = Some (tested s wide (operand s wide rm) (sized_register s wide reg))
executed (XchgRm wide reg rm) s = Some (exchanged s wide reg rm)
executed (Mov wide to_reg reg rm) s = Some (moved s wide to_reg reg rm)
executed (Lea reg mem) s = Some (with_register s reg (offset_of s mem.place))
executed (XchgAx reg) s = Some (exchanged s true 0 (rms.Reg reg))
executed Cbw s = Some (byte_extended s)
executed Cwd s = Some (word_extended s)
executed PushF s = Some (push s (flags_word s.flags))
executed PopF s = Some (popped (with_flags s (flags_of_word (top_word s))) 2)
executed Sahf s = Some (with_flags s (low_flags (register s 0 / 256) s.flags.of))
executed Lahf s = Some (with_byte_register s 4 (flags_word s.flags % 256))
executed (MovAcc cs wide store at) s = Some (moved_acc s cs wide store at)
executed (TestAcc imm) s = Some (tested s (is_word imm) (sized_register s (is_word imm) 0) (imm_value imm))
executed (MovImm reg imm) s = Some (with_sized_register s (is_word imm) reg (imm_value imm))
executed (RetAdd n) s = Some (returned s n)
executed Ret s = Some (returned s 0)
executed (MovRm rm imm) s = Some (with_operand s (is_word imm) rm (imm_value imm))
executed (ShiftRm op wide by_cl rm) s = Some (shifted s op wide by_cl rm)
executed (Loop kind by) s = Some (looped s kind by)
executed (In port) s = Some s
executed (Out port) s = Some s
executed (Call by) s = Some (called s ((s.instruction_pointer + by) % 65536))
executed (Jump by) s = Some (past s by)
executed (JumpShort by) s = Some (past s (sign_extended by))
executed Hlt s = Some s
executed Cmc s = Some (with_flags s (record s.flags { cf = not s.flags.cf }))
executed Clc s = Some (with_flags s (record s.flags { cf = false }))
executed Stc s = Some (with_flags s (record s.flags { cf = true }))
executed (TestImm rm imm) s = Some (tested s (is_word imm) (operand s (is_word imm) rm) (imm_value imm))
executed (Unary op wide rm) s = unary s op wide rm
executed (IncDec down wide rm) s = Some (counted s down wide rm)
executed (CallRm rm) s = Some (called s (operand s true rm))
executed (JumpRm rm) s = Some (at_place s (operand s true rm))
executed (PushRm rm) s = Some (push s (operand s true rm))
