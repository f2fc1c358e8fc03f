-- The instruction that stands at CS:IP, as it is computed. What it is to stand there, MachineRun says, and nothing here.
use Rattle.std.specs.Prelude.{ℕ, nat_eq, nat_lt, Bool, true, false, not, ◌&&◌, List, [], ◌∷◌, Option, Some, None}
use Rattle.cw_dec86.specs.Rows.{instr_at}
use Rattle.cw_i86.specs.declared.instr.Place.{Place}
use Rattle.cw_i86.specs.declared.instr.Place.TheVariants.{Direct, Plain, Near, Far}
use Rattle.cw_i86.specs.declared.instr.Rm.{Rm}
use Rattle.cw_i86.specs.declared.instr.Rm.TheVariants as rms
use Rattle.cw_i86.specs.declared.instr.Imm.{Imm}
use Rattle.cw_i86.specs.declared.instr.Imm.TheVariants.{Byte, Word}
use Rattle.cw_i86.specs.declared.instr.Instr.{Instr}
use Rattle.cw_i86.specs.declared.instr.Instr.TheVariants.{AluRm, AluAcc, Inc, Dec, Push, Pop, JumpIf, AluImm, AluShort, TestRm, XchgRm, Mov, Lea, XchgAx, MovAcc, TestAcc, MovImm}
use Rattle.cw_i86.specs.declared.instr.Instr.TheVariants.{RetAdd, MovRm, Shift, Loop, In, Out, Call, Jump, JumpShort, TestImm, Unary, IncDec, CallRm, JumpRm, PushRm}
use Rattle.cw_i86.specs.Encoding.{bytes_of}
use Rattle.cw_i86.specs.State.{State}
use Rattle.cw_i86.specs.MachineRun.{code_at}

-- ---- the numbers of the rows, as a test

abbrev pub is_place : Place → Bool
is_place (Direct at) = nat_lt at 65536
is_place (Plain rm) = nat_lt rm 8 && not (nat_eq rm 6)
is_place (Near rm by) = nat_lt rm 8 && nat_lt by 256
is_place (Far rm by) = nat_lt rm 8 && nat_lt by 65536

abbrev pub is_rm : Rm → Bool
is_rm (rms.Reg r) = nat_lt r 8
is_rm (rms.Mem mem) = is_place mem.place

abbrev pub is_imm : Imm → Bool
is_imm (Byte b) = nat_lt b 256
is_imm (Word w) = nat_lt w 65536

-- SP is not pushed by the row of an operand
abbrev pub is_pushed : Rm → Bool
is_pushed (rms.Reg r) = nat_lt r 8 && not (nat_eq r 4)
is_pushed (rms.Mem mem) = is_place mem.place

abbrev pub is_instr : Instr → Bool
is_instr (AluRm op wide to_reg reg rm) = nat_lt op 8 && (nat_lt reg 8 && is_rm rm)
is_instr (AluAcc op imm) = nat_lt op 8 && is_imm imm
is_instr (Inc reg) = nat_lt reg 8
is_instr (Dec reg) = nat_lt reg 8
is_instr (Push reg) = nat_lt reg 8 && not (nat_eq reg 4)
is_instr (Pop reg) = nat_lt reg 8 && not (nat_eq reg 4)
is_instr (JumpIf cond by) = nat_lt cond 16 && nat_lt by 256
is_instr (AluImm op rm imm) = nat_lt op 8 && (is_rm rm && is_imm imm)
is_instr (AluShort op rm imm) = nat_lt op 8 && (not (nat_eq op 1) && (not (nat_eq op 4) && (not (nat_eq op 6) && (is_rm rm && nat_lt imm 256))))
is_instr (TestRm wide reg rm) = nat_lt reg 8 && is_rm rm
is_instr (XchgRm wide reg rm) = nat_lt reg 8 && is_rm rm
is_instr (Mov wide to_reg reg rm) = nat_lt reg 8 && is_rm rm
is_instr (Lea reg mem) = nat_lt reg 8 && is_place mem.place
is_instr (XchgAx reg) = nat_lt reg 8
is_instr (MovAcc cs wide store at) = nat_lt at 65536
is_instr (TestAcc imm) = is_imm imm
is_instr (MovImm reg imm) = nat_lt reg 8 && is_imm imm
is_instr (RetAdd n) = nat_lt n 65536
is_instr (MovRm rm imm) = is_rm rm && is_imm imm
is_instr (Shift op wide by_cl rm) = nat_lt op 8 && (not (nat_eq op 6) && is_rm rm)
is_instr (Loop kind by) = nat_lt kind 4 && nat_lt by 256
is_instr (In port) = nat_lt port 256
is_instr (Out port) = nat_lt port 256
is_instr (Call by) = nat_lt by 65536
is_instr (Jump by) = nat_lt by 65536
is_instr (JumpShort by) = nat_lt by 256
is_instr (TestImm rm imm) = is_rm rm && is_imm imm
is_instr (Unary op wide rm) = nat_lt op 8 && (nat_lt 1 op && is_rm rm)
is_instr (IncDec down wide rm) = is_rm rm
is_instr (CallRm rm) = is_rm rm
is_instr (JumpRm rm) = is_rm rm
is_instr (PushRm rm) = is_pushed rm
is_instr _ = true

-- ---- fetching

-- the bytes begin with these
abbrev pub begins : List ℕ → List ℕ → Bool
begins [] bytes = true
begins (x ∷ xs) [] = false
begins (x ∷ xs) (b ∷ bs) = nat_eq x b && begins xs bs

abbrev pub if_it_stands : Bool → Instr → Option Instr
if_it_stands true i = Some i
if_it_stands false i = None

-- what the decoder finds, if it is an instruction, all of it
abbrev pub tested : List ℕ → Option Instr → Option Instr
tested bytes None = None
tested bytes (Some i) = if_it_stands (is_instr i && begins (bytes_of i) bytes) i

unfoldable pub instruction_at : State → Option Instr
instruction_at s = tested (code_at s) (instr_at (code_at s))
