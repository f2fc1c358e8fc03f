-- The instruction at the front of bytes that go on with zeros, without end: what the decoder's private functions compute.
-- What bytes are, Decoding says, and nothing here.
use Rattle.std.specs.Prelude.{ℕ, zero, suc, ◌+◌, ◌-◌, ◌/◌, ◌%◌, Bool, true, false, ◌==◌, nat_lt, ◌||◌}
use Rattle.std.specs.Prelude.{if◌then◌else◌, List, [], ◌∷◌, drop, slice_index, Option, Some, None}
use Rattle.std.specs.Int.{w16, from_le_bytes, is_in_range}
use Rattle.std.specs.Option.{option_and_then}
use Rattle.cw_i86.specs.declared.instr.Place.{Place}
use Rattle.cw_i86.specs.declared.instr.Place.TheVariants.{Direct, Plain, Near, Far}
use Rattle.cw_i86.specs.declared.instr.Rm.{Rm}
use Rattle.cw_i86.specs.declared.instr.Rm.TheVariants as rms
use Rattle.cw_i86.specs.declared.instr.Imm.{Imm}
use Rattle.cw_i86.specs.declared.instr.Imm.TheVariants.{Byte, Word}
use Rattle.cw_i86.specs.declared.instr.Instr.{Instr}
use Rattle.cw_i86.specs.declared.instr.Instr.TheVariants.{AluRm, AluAcc, Inc, Dec, Push, Pop, JumpIf, AluImm, AluShort, TestRm, XchgRm, Mov, Lea, XchgAx, Cbw}
use Rattle.cw_i86.specs.declared.instr.Instr.TheVariants.{Cwd, PushF, PopF, Sahf, Lahf, MovAcc, TestAcc, MovImm, RetAdd, Ret, MovRm, Shift, Loop, In, Out, Call}
use Rattle.cw_i86.specs.declared.instr.Instr.TheVariants.{Jump, JumpShort, Hlt, Cmc, Clc, Stc, TestImm, Unary, IncDec, CallRm, JumpRm, PushRm}

abbrev pub word_at : List ℕ → ℕ → ℕ
word_at bytes at = from_le_bytes w16 (slice_index bytes at ∷ slice_index bytes (at + 1) ∷ [])

abbrev pub imm_at : Bool → List ℕ → Imm
imm_at true bytes = Word (word_at bytes 0)
imm_at false bytes = Byte (slice_index bytes 0)

abbrev pub mem_rm : Bool → Place → Option Rm
mem_rm cs place = Some (rms.Mem (record { cs = cs; place = place }))

-- the operand whose bytes begin with the byte of mode and register
unfoldable pub operand_at : Bool → List ℕ → Option Rm
operand_at cs bytes =
    if slice_index bytes 0 / 64 == 0 then
    (if slice_index bytes 0 % 8 == 6 then mem_rm cs (Direct (word_at bytes 1)) else mem_rm cs (Plain (slice_index bytes 0 % 8)))
    else if slice_index bytes 0 / 64 == 1 then mem_rm cs (Near (slice_index bytes 0 % 8) (slice_index bytes 1))
    else if slice_index bytes 0 / 64 == 2 then mem_rm cs (Far (slice_index bytes 0 % 8) (word_at bytes 1))
    else if cs then None else Some (rms.Reg (slice_index bytes 0 % 8))

abbrev pub place_size : Place → ℕ
place_size (Direct at) = 3
place_size (Plain rm) = 1
place_size (Near rm by) = 2
place_size (Far rm by) = 3

abbrev pub rm_size : Rm → ℕ
rm_size (rms.Reg r) = 1
rm_size (rms.Mem mem) = place_size mem.place

abbrev pub has_operand : ℕ → Bool
has_operand opcode =
    if nat_lt opcode 0x40 then nat_lt (opcode % 8) 4
    else is_in_range 0x80 0x81 opcode || is_in_range 0x83 0x8B opcode || opcode == 0x8D
    || is_in_range 0xC6 0xC7 opcode || is_in_range 0xD0 0xD3 opcode || is_in_range 0xF6 0xF7 opcode || is_in_range 0xFE 0xFF opcode

abbrev pub is_odd : ℕ → Bool
is_odd n = n % 2 == 1

-- the rows with an operand; the bytes are those behind it
unfoldable pub operand_row : ℕ → ℕ → Rm → List ℕ → Option Instr
operand_row opcode reg rm bytes =
    if nat_lt opcode 0x40 then Some (AluRm (opcode / 8) (is_odd opcode) (is_odd (opcode / 2)) reg rm)
    else if is_in_range 0x80 0x81 opcode then Some (AluImm reg rm (imm_at (is_odd opcode) bytes))
    else if opcode == 0x83 then
    (if reg == 1 || reg == 4 || reg == 6 then None else Some (AluShort reg rm (slice_index bytes 0)))
    else if is_in_range 0x84 0x85 opcode then Some (TestRm (is_odd opcode) reg rm)
    else if is_in_range 0x86 0x87 opcode then Some (XchgRm (is_odd opcode) reg rm)
    else if is_in_range 0x88 0x8B opcode then Some (Mov (is_odd opcode) (is_odd (opcode / 2)) reg rm)
    else if opcode == 0x8D then lea reg rm
    else if is_in_range 0xC6 0xC7 opcode then (if reg == 0 then Some (MovRm rm (imm_at (is_odd opcode) bytes)) else None)
    else if is_in_range 0xD0 0xD3 opcode then
    (if reg == 6 then None else Some (Shift reg (is_odd opcode) (is_odd (opcode / 2)) rm))
    else if is_in_range 0xF6 0xF7 opcode then
    (if reg == 0 then Some (TestImm rm (imm_at (is_odd opcode) bytes)) else if reg == 1 then None else Some (Unary reg (is_odd opcode) rm))
    else if is_in_range 0xFE 0xFF opcode then
    (if nat_lt reg 2 then Some (IncDec (reg == 1) (is_odd opcode) rm) else if opcode == 0xFE then None else transfer reg rm)
    else None
  where
    lea : ℕ → Rm → Option Instr
    lea reg (rms.Reg r) = None
    lea reg (rms.Mem mem) = Some (Lea reg mem)

    push : Rm → Option Instr
    push (rms.Reg r) = if r == 4 then None else Some (PushRm (rms.Reg r))
    push (rms.Mem mem) = Some (PushRm (rms.Mem mem))

    transfer : ℕ → Rm → Option Instr
    transfer reg rm = if reg == 2 then Some (CallRm rm) else if reg == 4 then Some (JumpRm rm) else if reg == 6 then push rm else None

-- the other rows up to 8F; the bytes are those behind the opcode
unfoldable pub low_row : ℕ → List ℕ → Option Instr
low_row opcode bytes =
    if nat_lt opcode 0x40 then
    (if opcode % 8 == 4 || opcode % 8 == 5 then Some (AluAcc (opcode / 8) (imm_at (is_odd opcode) bytes)) else None)
    else if is_in_range 0x40 0x47 opcode then Some (Inc (opcode - 0x40))
    else if is_in_range 0x48 0x4F opcode then Some (Dec (opcode - 0x48))
    else if opcode == 0x54 || opcode == 0x5C then None
    else if is_in_range 0x50 0x57 opcode then Some (Push (opcode - 0x50))
    else if is_in_range 0x58 0x5F opcode then Some (Pop (opcode - 0x58))
    else if is_in_range 0x70 0x7F opcode then Some (JumpIf (opcode - 0x70) (slice_index bytes 0))
    else None

-- those from 90 to CF
unfoldable pub middle_row : ℕ → List ℕ → Option Instr
middle_row opcode bytes =
    if is_in_range 0x90 0x97 opcode then Some (XchgAx (opcode - 0x90))
    else if opcode == 0x98 then Some Cbw
    else if opcode == 0x99 then Some Cwd
    else if opcode == 0x9C then Some PushF
    else if opcode == 0x9D then Some PopF
    else if opcode == 0x9E then Some Sahf
    else if opcode == 0x9F then Some Lahf
    else if is_in_range 0xA8 0xA9 opcode then Some (TestAcc (imm_at (is_odd opcode) bytes))
    else if is_in_range 0xB0 0xB7 opcode then Some (MovImm (opcode - 0xB0) (Byte (slice_index bytes 0)))
    else if is_in_range 0xB8 0xBF opcode then Some (MovImm (opcode - 0xB8) (Word (word_at bytes 0)))
    else if opcode == 0xC2 then Some (RetAdd (word_at bytes 0))
    else if opcode == 0xC3 then Some Ret
    else None

-- those from D0 on
unfoldable pub high_row : ℕ → List ℕ → Option Instr
high_row opcode bytes =
    if is_in_range 0xE0 0xE3 opcode then Some (Loop (opcode - 0xE0) (slice_index bytes 0))
    else if opcode == 0xE4 then Some (In (slice_index bytes 0))
    else if opcode == 0xE6 then Some (Out (slice_index bytes 0))
    else if opcode == 0xE8 then Some (Call (word_at bytes 0))
    else if opcode == 0xE9 then Some (Jump (word_at bytes 0))
    else if opcode == 0xEB then Some (JumpShort (slice_index bytes 0))
    else if opcode == 0xF4 then Some Hlt
    else if opcode == 0xF5 then Some Cmc
    else if opcode == 0xF8 then Some Clc
    else if opcode == 0xF9 then Some Stc
    else None

unfoldable pub plain_row : ℕ → List ℕ → Option Instr
plain_row opcode bytes =
    if nat_lt opcode 0x90 then low_row opcode bytes
    else if nat_lt opcode 0xD0 then middle_row opcode bytes
    else high_row opcode bytes

unfoldable pub row : Bool → List ℕ → Option Instr
row cs bytes =
    if has_operand (slice_index bytes 0) then
    option_and_then (λ rm. operand_row (slice_index bytes 0) (slice_index bytes 1 / 8 % 8) rm (drop (1 + rm_size rm) bytes)) (operand_at cs (drop 1 bytes))
    else if is_in_range 0xA0 0xA3 (slice_index bytes 0) then
    Some (MovAcc cs (is_odd (slice_index bytes 0)) (is_odd (slice_index bytes 0 / 2)) (word_at bytes 1))
    else if cs then None
    else plain_row (slice_index bytes 0) (drop 1 bytes)

unfoldable pub instr_at : List ℕ → Option Instr
instr_at bytes = if slice_index bytes 0 == 0x2E then row true (drop 1 bytes) else row false bytes

-- the first bytes, where zeros follow them without end
abbrev pub front : ℕ → List ℕ → List ℕ
front zero bytes = []
front (suc n) bytes = slice_index bytes 0 ∷ front n (drop 1 bytes)

-- how many bytes an immediate has
abbrev pub imm_size : Bool → ℕ
imm_size true = 2
imm_size false = 1
