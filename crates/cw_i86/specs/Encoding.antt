-- The bytes of each instruction: the table "8086 Instruction Encoding" of the 8086 Family User's Manual, chapter 4.
-- Numbers are those of the fields w, d, reg, mod and r/m, and of the register or condition in an opcode.
use Rattle.std.specs.Prelude.{◌≡◌, ℕ, ◌+◌, ◌*◌, ◌<◌, ◌^◌, ◌≢◌, Bool, true, false, List, [], ◌∷◌, ◌++◌}
use Rattle.std.specs.Int.{w16, to_le_bytes}
use Rattle.cw_i86.specs.declared.instr.Place.{Place}
use Rattle.cw_i86.specs.declared.instr.Place.TheVariants.{Direct, Plain, Near, Far}
use Rattle.cw_i86.specs.declared.instr.Mem.{Mem}
use Rattle.cw_i86.specs.declared.instr.Rm.{Rm}
use Rattle.cw_i86.specs.declared.instr.Rm.TheVariants as rms
use Rattle.cw_i86.specs.declared.instr.Imm.{Imm}
use Rattle.cw_i86.specs.declared.instr.Imm.TheVariants.{Byte, Word}
use Rattle.cw_i86.specs.declared.instr.Instr.{Instr}
use Rattle.cw_i86.specs.declared.instr.Instr.TheVariants.{AluRm, AluAcc, Inc, Dec, Push, Pop, JumpIf, AluImm, AluShort, TestRm, XchgRm, Mov, Lea, XchgAx, Cbw}
use Rattle.cw_i86.specs.declared.instr.Instr.TheVariants.{Cwd, PushF, PopF, Sahf, Lahf, MovAcc, TestAcc, MovImm, RetAdd, Ret, MovRm, Shift, Loop, In, Out, Call}
use Rattle.cw_i86.specs.declared.instr.Instr.TheVariants.{Jump, JumpShort, Hlt, Cmc, Clc, Stc, TestImm, Unary, IncDec, CallRm, JumpRm, PushRm}

abbrev pub is_word : Imm → Bool
is_word (Byte b) = false
is_word (Word w) = true

-- a field of one bit
abbrev pub bit : Bool → ℕ
bit true = 1
bit false = 0

-- a word, its low byte first
abbrev pub word : ℕ → List ℕ
word n = to_le_bytes w16 n

abbrev pub imm_bytes : Imm → List ℕ
imm_bytes (Byte b) = b ∷ []
imm_bytes (Word w) = word w

-- the byte behind the opcode: the fields mod, reg and r/m; in place of a register, reg may extend the opcode
abbrev pub mod_reg_rm : ℕ → ℕ → ℕ → ℕ
mod_reg_rm mode reg rm = 64 * mode + 8 * reg + rm

-- mod 0 has no displacement, but with r/m 6 an offset; mod 1 a byte; mod 2 a word
abbrev pub place_bytes : ℕ → Place → List ℕ
place_bytes reg (Direct at) = mod_reg_rm 0 reg 6 ∷ word at
place_bytes reg (Plain rm) = mod_reg_rm 0 reg rm ∷ []
place_bytes reg (Near rm by) = mod_reg_rm 1 reg rm ∷ by ∷ []
place_bytes reg (Far rm by) = mod_reg_rm 2 reg rm ∷ word by

-- behind the prefix that selects the code segment, or none
abbrev pub prefixed : Bool → List ℕ → List ℕ
prefixed true bytes = 0x2E ∷ bytes
prefixed false bytes = bytes

-- the opcode, and an operand in memory
abbrev pub with_mem : ℕ → ℕ → Mem → List ℕ
with_mem opcode reg mem = prefixed mem.cs (opcode ∷ place_bytes reg mem.place)

-- the opcode, and an operand; mod 3 is a register
abbrev pub with_rm : ℕ → ℕ → Rm → List ℕ
with_rm opcode reg (rms.Reg r) = opcode ∷ mod_reg_rm 3 reg r ∷ []
with_rm opcode reg (rms.Mem mem) = with_mem opcode reg mem

abbrev pub bytes_of : Instr → List ℕ
-- 00-03, 08-0B, .., 38-3B: ADD OR ADC SBB AND SUB XOR CMP of a register and an operand
bytes_of (AluRm op wide to_reg reg rm) = with_rm (8 * op + 2 * bit to_reg + bit wide) reg rm
-- 04 05, 0C 0D, .., 3C 3D: the same of AL or AX and an immediate
bytes_of (AluAcc op imm) = (8 * op + 4 + bit (is_word imm)) ∷ imm_bytes imm
-- 40-47, 48-4F: INC, DEC of a register
bytes_of (Inc reg) = (0x40 + reg) ∷ []
bytes_of (Dec reg) = (0x48 + reg) ∷ []
-- 50-57, 58-5F: PUSH, POP of a register
bytes_of (Push reg) = (0x50 + reg) ∷ []
bytes_of (Pop reg) = (0x58 + reg) ∷ []
-- 70-7F: JO to JNLE
bytes_of (JumpIf cond by) = (0x70 + cond) ∷ by ∷ []
-- 80 81, /0 to /7: the eight of 00 with an immediate; 83: with a byte that is sign-extended
bytes_of (AluImm op rm imm) = with_rm (0x80 + bit (is_word imm)) op rm ++ imm_bytes imm
bytes_of (AluShort op rm imm) = with_rm 0x83 op rm ++ imm ∷ []
-- 84 85: TEST; 86 87: XCHG
bytes_of (TestRm wide reg rm) = with_rm (0x84 + bit wide) reg rm
bytes_of (XchgRm wide reg rm) = with_rm (0x86 + bit wide) reg rm
-- 88-8B: MOV; 8D: LEA
bytes_of (Mov wide to_reg reg rm) = with_rm (0x88 + 2 * bit to_reg + bit wide) reg rm
bytes_of (Lea reg mem) = with_mem 0x8D reg mem
-- 90-97: XCHG of AX and a register
bytes_of (XchgAx reg) = (0x90 + reg) ∷ []
-- 98 99: CBW CWD; 9C-9F: PUSHF POPF SAHF LAHF
bytes_of Cbw = 0x98 ∷ []
bytes_of Cwd = 0x99 ∷ []
bytes_of PushF = 0x9C ∷ []
bytes_of PopF = 0x9D ∷ []
bytes_of Sahf = 0x9E ∷ []
bytes_of Lahf = 0x9F ∷ []
-- A0-A3: MOV of AL or AX and an offset; A8 A9: TEST with an immediate
bytes_of (MovAcc cs wide store at) = prefixed cs ((0xA0 + 2 * bit store + bit wide) ∷ word at)
bytes_of (TestAcc imm) = (0xA8 + bit (is_word imm)) ∷ imm_bytes imm
-- B0-B7, B8-BF: MOV of an immediate to a register
bytes_of (MovImm reg imm) = (0xB0 + 8 * bit (is_word imm) + reg) ∷ imm_bytes imm
-- C2 C3: RET
bytes_of (RetAdd n) = 0xC2 ∷ word n
bytes_of Ret = 0xC3 ∷ []
-- C6 C7, /0: MOV of an immediate
bytes_of (MovRm rm imm) = with_rm (0xC6 + bit (is_word imm)) 0 rm ++ imm_bytes imm
-- D0-D3: /0 ROL /1 ROR /2 RCL /3 RCR /4 SHL /5 SHR /7 SAR
bytes_of (Shift op wide by_cl rm) = with_rm (0xD0 + 2 * bit by_cl + bit wide) op rm
-- E0-E3: LOOPNZ LOOPZ LOOP JCXZ
bytes_of (Loop kind by) = (0xE0 + kind) ∷ by ∷ []
-- E4: IN; E6: OUT
bytes_of (In port) = 0xE4 ∷ port ∷ []
bytes_of (Out port) = 0xE6 ∷ port ∷ []
-- E8: CALL; E9 EB: JMP
bytes_of (Call by) = 0xE8 ∷ word by
bytes_of (Jump by) = 0xE9 ∷ word by
bytes_of (JumpShort by) = 0xEB ∷ by ∷ []
-- F4 F5 F8 F9: HLT CMC CLC STC
bytes_of Hlt = 0xF4 ∷ []
bytes_of Cmc = 0xF5 ∷ []
bytes_of Clc = 0xF8 ∷ []
bytes_of Stc = 0xF9 ∷ []
-- F6 F7: /0 TEST, /2 NOT /3 NEG /4 MUL /5 IMUL /6 DIV /7 IDIV
bytes_of (TestImm rm imm) = with_rm (0xF6 + bit (is_word imm)) 0 rm ++ imm_bytes imm
bytes_of (Unary op wide rm) = with_rm (0xF6 + bit wide) op rm
-- FE FF: /0 INC /1 DEC
bytes_of (IncDec down wide rm) = with_rm (0xFE + bit wide) (bit down) rm
-- FF: /2 CALL /4 JMP /6 PUSH
bytes_of (CallRm rm) = with_rm 0xFF 2 rm
bytes_of (JumpRm rm) = with_rm 0xFF 4 rm
bytes_of (PushRm rm) = with_rm 0xFF 6 rm

-- The numbers that the rows have: fields of three bits, bytes and words, without those that no row lists.
-- r/m 6 of mod 0 is the offset; 83 has no OR, AND, XOR; D0-D3 no /6; SP is not pushed or popped.
abbrev pub IsPlace : Place → Type 0
IsPlace (Direct at) = at < 2 ^ 16
IsPlace (Plain rm) = (rm < 8) × (rm ≢ 6)
IsPlace (Near rm by) = (rm < 8) × (by < 2 ^ 8)
IsPlace (Far rm by) = (rm < 8) × (by < 2 ^ 16)

abbrev pub IsRm : Rm → Type 0
IsRm (rms.Reg r) = r < 8
IsRm (rms.Mem mem) = IsPlace mem.place

abbrev pub IsImm : Imm → Type 0
IsImm (Byte b) = b < 2 ^ 8
IsImm (Word w) = w < 2 ^ 16

abbrev pub IsInstr : Instr → Type 0
IsInstr (AluRm op wide to_reg reg rm) = (op < 8) × (reg < 8) × IsRm rm
IsInstr (AluAcc op imm) = (op < 8) × IsImm imm
IsInstr (Inc reg) = reg < 8
IsInstr (Dec reg) = reg < 8
IsInstr (Push reg) = (reg < 8) × (reg ≢ 4)
IsInstr (Pop reg) = (reg < 8) × (reg ≢ 4)
IsInstr (JumpIf cond by) = (cond < 16) × (by < 2 ^ 8)
IsInstr (AluImm op rm imm) = (op < 8) × IsRm rm × IsImm imm
IsInstr (AluShort op rm imm) = (op < 8) × (op ≢ 1) × (op ≢ 4) × (op ≢ 6) × IsRm rm × (imm < 2 ^ 8)
IsInstr (TestRm wide reg rm) = (reg < 8) × IsRm rm
IsInstr (XchgRm wide reg rm) = (reg < 8) × IsRm rm
IsInstr (Mov wide to_reg reg rm) = (reg < 8) × IsRm rm
IsInstr (Lea reg mem) = (reg < 8) × IsPlace mem.place
IsInstr (XchgAx reg) = reg < 8
IsInstr (MovAcc cs wide store at) = at < 2 ^ 16
IsInstr (TestAcc imm) = IsImm imm
IsInstr (MovImm reg imm) = (reg < 8) × IsImm imm
IsInstr (RetAdd n) = n < 2 ^ 16
IsInstr (MovRm rm imm) = IsRm rm × IsImm imm
IsInstr (Shift op wide by_cl rm) = (op < 8) × (op ≢ 6) × IsRm rm
IsInstr (Loop kind by) = (kind < 4) × (by < 2 ^ 8)
IsInstr (In port) = port < 2 ^ 8
IsInstr (Out port) = port < 2 ^ 8
IsInstr (Call by) = by < 2 ^ 16
IsInstr (Jump by) = by < 2 ^ 16
IsInstr (JumpShort by) = by < 2 ^ 8
IsInstr (TestImm rm imm) = IsRm rm × IsImm imm
IsInstr (Unary op wide rm) = (op < 8) × (1 < op) × IsRm rm
IsInstr (IncDec down wide rm) = IsRm rm
IsInstr (CallRm rm) = IsRm rm
IsInstr (JumpRm rm) = IsRm rm
IsInstr (PushRm rm) = IsRm rm × (rm ≢ rms.Reg 4)
IsInstr i = Unit {0}

-- the bytes begin with those of the instruction
abbrev pub BeginsWith : List ℕ → Instr → Type 0
BeginsWith bytes i = (rest : List ℕ) × (bytes ≡ bytes_of i ++ rest)
