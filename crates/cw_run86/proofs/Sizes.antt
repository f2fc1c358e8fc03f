-- How many bytes an instruction has.
use Rattle.std.proofs.Common.{ℕ, ◌+◌, ◌<◌, ◌≤◌, Bool, true, false, List, ◌∷◌, ◌++◌, length, arith, length-append}
use Rattle.cw_i86.specs.Encoding.{bytes_of, with_rm, prefixed, place_bytes, imm_bytes}
use Rattle.cw_i86.specs.declared.instr.Instr.{Instr}
use Rattle.cw_i86.specs.declared.instr.Instr.TheVariants.{AluRm, AluAcc, AluImm, AluShort, TestRm, XchgRm, Mov, Lea, MovAcc, TestAcc, MovImm, MovRm, Shift, TestImm, Unary, IncDec, CallRm, JumpRm, PushRm}
use Rattle.cw_i86.specs.declared.instr.Rm.{Rm}
use Rattle.cw_i86.specs.declared.instr.Rm.TheVariants as rms
use Rattle.cw_i86.specs.declared.instr.Imm.{Imm}
use Rattle.cw_i86.specs.declared.instr.Imm.TheVariants.{Byte, Word}
use Rattle.cw_i86.specs.declared.instr.Place.{Place}
use Rattle.cw_i86.specs.declared.instr.Place.TheVariants.{Direct, Plain, Near, Far}

-- ---- none has more than seven

mem_short : (opcode reg : ℕ) (cs : Bool) (place : Place) → length (prefixed cs (opcode ∷ place_bytes reg place)) ≤ 5
mem_short opcode reg true (Direct at) = omega arith
mem_short opcode reg true (Plain rm) = omega arith
mem_short opcode reg true (Near rm by) = omega arith
mem_short opcode reg true (Far rm by) = omega arith
mem_short opcode reg false (Direct at) = omega arith
mem_short opcode reg false (Plain rm) = omega arith
mem_short opcode reg false (Near rm by) = omega arith
mem_short opcode reg false (Far rm by) = omega arith

rm_short : (opcode reg : ℕ) (rm : Rm) → length (with_rm opcode reg rm) ≤ 5
rm_short opcode reg (rms.Reg r) = omega arith
rm_short opcode reg (rms.Mem m) = mem_short opcode reg m.cs m.place

imm_short : (i : Imm) → length (imm_bytes i) ≤ 2
imm_short (Byte b) = omega arith
imm_short (Word w) = omega arith

both_short : (a b : List ℕ) → length a ≤ 5 → length b ≤ 2 → length (a ++ b) ≤ 7
both_short a b la lb = omega (arith, length-append a b)

less_short : (a : List ℕ) → length a ≤ 5 → length a ≤ 7
less_short a la = omega arith

pub short : (i : Instr) → length (bytes_of i) ≤ 7
short (AluRm op wide to_reg reg rm) = less_short _ (rm_short _ _ rm)
short (AluAcc op i) = let h = imm_short i in omega arith
short (AluImm op rm i) = both_short _ _ (rm_short _ _ rm) (imm_short i)
short (AluShort op rm i) = both_short _ _ (rm_short _ _ rm) (omega arith)
short (TestRm wide reg rm) = less_short _ (rm_short _ _ rm)
short (XchgRm wide reg rm) = less_short _ (rm_short _ _ rm)
short (Mov wide to_reg reg rm) = less_short _ (rm_short _ _ rm)
short (Lea reg m) = less_short _ (mem_short _ _ m.cs m.place)
short (MovAcc true wide store at) = omega arith
short (MovAcc false wide store at) = omega arith
short (TestAcc i) = let h = imm_short i in omega arith
short (MovImm reg i) = let h = imm_short i in omega arith
short (MovRm rm i) = both_short _ _ (rm_short _ 0 rm) (imm_short i)
short (Shift op wide by_cl rm) = less_short _ (rm_short _ _ rm)
short (TestImm rm i) = both_short _ _ (rm_short _ 0 rm) (imm_short i)
short (Unary op wide rm) = less_short _ (rm_short _ _ rm)
short (IncDec down wide rm) = less_short _ (rm_short _ _ rm)
short (CallRm rm) = less_short _ (rm_short _ 2 rm)
short (JumpRm rm) = less_short _ (rm_short _ 4 rm)
short (PushRm rm) = less_short _ (rm_short _ 6 rm)
short _ = omega arith

-- ---- and each has one

mem_some : (opcode reg : ℕ) (cs : Bool) (place : Place) → 0 < length (prefixed cs (opcode ∷ place_bytes reg place))
mem_some opcode reg true place = omega arith
mem_some opcode reg false place = omega arith

rm_some : (opcode reg : ℕ) (rm : Rm) → 0 < length (with_rm opcode reg rm)
rm_some opcode reg (rms.Reg r) = omega arith
rm_some opcode reg (rms.Mem m) = mem_some opcode reg m.cs m.place

front_some : (a b : List ℕ) → 0 < length a → 0 < length (a ++ b)
front_some a b la = omega (arith, length-append a b)

pub some_bytes : (i : Instr) → 0 < length (bytes_of i)
some_bytes (AluRm op wide to_reg reg rm) = rm_some _ _ rm
some_bytes (AluImm op rm i) = front_some _ _ (rm_some _ _ rm)
some_bytes (AluShort op rm i) = front_some _ _ (rm_some _ _ rm)
some_bytes (TestRm wide reg rm) = rm_some _ _ rm
some_bytes (XchgRm wide reg rm) = rm_some _ _ rm
some_bytes (Mov wide to_reg reg rm) = rm_some _ _ rm
some_bytes (Lea reg m) = mem_some _ _ m.cs m.place
some_bytes (MovAcc true wide store at) = omega arith
some_bytes (MovAcc false wide store at) = omega arith
some_bytes (MovRm rm i) = front_some _ _ (rm_some _ 0 rm)
some_bytes (Shift op wide by_cl rm) = rm_some _ _ rm
some_bytes (TestImm rm i) = front_some _ _ (rm_some _ 0 rm)
some_bytes (Unary op wide rm) = rm_some _ _ rm
some_bytes (IncDec down wide rm) = rm_some _ _ rm
some_bytes (CallRm rm) = rm_some _ 2 rm
some_bytes (JumpRm rm) = rm_some _ 4 rm
some_bytes (PushRm rm) = rm_some _ 6 rm
some_bytes _ = omega arith
