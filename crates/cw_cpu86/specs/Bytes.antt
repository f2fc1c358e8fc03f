-- The bytes of the instruction at CS:IP, and an operand that they name.
use Rattle.std.specs.Prelude.{◌≡◌, ℕ, ◌+◌, ◌%◌, List, [], ◌∷◌, ◌++◌, length}
use Rattle.std.specs.Int.{w16, to_le_bytes}
use Rattle.cw_i86.specs.Encoding.{IsRm, with_rm}
use Rattle.cw_i86.specs.State.{State, byte_at}
use Rattle.cw_i86.specs.MachineRun.{code_at}
use Rattle.cw_i86.specs.declared.instr.Rm.{Rm}

abbrev pub opcode_at : State → ℕ
opcode_at s = byte_at s.memory s.code_segment s.instruction_pointer

-- so many bytes behind the opcode
abbrev pub byte_behind : State → ℕ → ℕ
byte_behind s k = byte_at s.memory s.code_segment ((s.instruction_pointer + k) % 65536)

-- the word of that byte and the next one
abbrev pub IsWordBehind : State → ℕ → ℕ → Type 0
IsWordBehind s k w = to_le_bytes w16 w ≡ byte_behind s k ∷ byte_behind s (k + 1) ∷ []

-- the opcode and the bytes behind it, n in all, name a register or an extended opcode and this operand
pub record NamesOperand (s : State) (reg : ℕ) (rm : Rm) (n : ℕ) : Type 0 where
  pub valid : IsRm rm
  pub stands : (rest : List ℕ) × (code_at s ≡ with_rm (opcode_at s) reg rm ++ rest)
  pub length : (opcode : ℕ) → n ≡ length (with_rm opcode reg rm)
