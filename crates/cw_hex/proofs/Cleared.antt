-- The processor with nothing in its memory.
use Rattle.std.proofs.Common.{◌≡◌, ℕ, zero, suc, ◌+◌, ◌<◌, List, [], ◌∷◌, map, get_or, refl, subst, ◌∙◌, inl, inr, arith}
use Rattle.std.proofs.lemmas.Bool.{cases_lt}
use Rattle.std.proofs.lemmas.List.{length-map}
use Rattle.cw_i86.specs.State.{State}
use Rattle.cw_i86.specs.MachineRun.{IsStart}
use Rattle.cw_hex.specs.HexTold.{IsCleared}

is_zero : (s : State) → IsStart (0 ∷ []) [] s → (i : ℕ) → get_or s.memory i 0 ≡ 0
is_zero s c i =
    elim (cases_lt i 0x10000) [
      | inl low ↦ c.below i low
      | inr high ↦ elim (cases_lt i 0x10001) [
        | inl one ↦ let e : 0x10000 + 0 ≡ i = omega arith in subst (λ (j : ℕ). get_or s.memory j 0 ≡ 0) e (c.code_bytes 0 (omega arith))
        | inr more ↦ elim (cases_lt i 0x20000) [
          | inl between ↦ c.between i more between
          | inr above ↦ c.above i above
        ]
      ]
    ]

none : {A : Type 0} (k : ℕ) → k < 0 → A
none k h = absurd (omega arith)

-- a program of one byte 0 and no words begins with nothing in memory
pub cleared : (s : State) → IsStart (0 ∷ []) [] s → IsCleared s
cleared s c =
    record {
      bytes = c.bytes;
      below = λ a h. is_zero s c a;
      code_bytes = λ k h. none k h;
      between = λ a h l. is_zero s c a;
      low_bytes = λ k h. none k h;
      high_bytes = λ k h. none k h;
      above = λ a h. is_zero s c a;
      registers = c.registers;
      code_segment = c.code_segment;
      instruction_pointer = c.instruction_pointer;
      flags = c.flags;
    }

pub nothing_there : (s : State) → IsCleared s → (i : ℕ) → get_or s.memory i 0 ≡ 0
nothing_there s c i =
    elim (cases_lt i 0x10000) [
      | inl low ↦ c.below i low
      | inr high ↦ elim (cases_lt i 0x20000) [
        | inl between ↦ c.between i high between
        | inr above ↦ c.above i above
      ]
    ]

abbrev zeros : List ℕ → List ℕ
zeros bytes = map (λ (b : ℕ). 0) bytes

zero_at : (bytes : List ℕ) (i : ℕ) → get_or (zeros bytes) i 0 ≡ 0
zero_at [] i = refl
zero_at (b ∷ bs) zero = refl
zero_at (b ∷ bs) (suc i) = zero_at bs i

-- the state in which a program begins, without the program
abbrev pub emptied : State → State
emptied s = record s { memory = zeros s.memory }

pub emptied_cleared : (code words : List ℕ) (s : State) → IsStart code words s → IsCleared (emptied s)
emptied_cleared code words s c =
    record {
      bytes = length-map s.memory (λ (b : ℕ). 0) ∙ c.bytes;
      below = λ a h. zero_at s.memory a;
      code_bytes = λ k h. none k h;
      between = λ a h l. zero_at s.memory a;
      low_bytes = λ k h. none k h;
      high_bytes = λ k h. none k h;
      above = λ a h. zero_at s.memory a;
      registers = c.registers;
      code_segment = c.code_segment;
      instruction_pointer = c.instruction_pointer;
      flags = c.flags;
    }
