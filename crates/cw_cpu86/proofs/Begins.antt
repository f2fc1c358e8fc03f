-- Each byte of memory at the start is that of the code or the words, or 0.
use Rattle.std.proofs.Common.{◌≡◌, ℕ, ◌+◌, ◌-◌, ◌*◌, ◌/◌, ◌%◌, ◌<◌, List, length, refl, sym, subst, ◌∙◌, inl, inr, arith}
use Rattle.std.proofs.lemmas.Bool.{cases_lt}
use Rattle.std.proofs.lemmas.List.{ext_get_or}
use Rattle.std.specs.Prelude.{slice_index, ◌⊎◌}
use Rattle.cw_i86.specs.State.{State}
use Rattle.cw_i86.specs.MachineRun.{IsStart}
use Rattle.cw_i86.specs.declared.flags.Flags.{Flags}

even_or_odd : (n : ℕ) → (n ≡ 2 * (n / 2)) ⊎ (n ≡ 2 * (n / 2) + 1)
even_or_odd n = elim (cases_lt (n % 2) 1) [ inl low ↦ inl (omega arith) | inr high ↦ inr (omega arith) ]

-- the bytes of the words
same_word_byte : (code words : List ℕ) (s t : State) → IsStart code words s → IsStart code words t → (n : ℕ) → n < 2 * length words
    → slice_index s.memory (0x20000 + n) ≡ slice_index t.memory (0x20000 + n)
same_word_byte code words s t a b n less =
    let k = n / 2 in
    let inside : k < length words = omega arith in
    elim (even_or_odd n) [
      | inl e ↦
          let same : slice_index s.memory (0x20000 + 2 * k) ≡ slice_index t.memory (0x20000 + 2 * k) = a.low_bytes k inside ∙ sym (b.low_bytes k inside) in
          subst (λ m. slice_index s.memory (0x20000 + m) ≡ slice_index t.memory (0x20000 + m)) (sym e) same
      | inr e ↦
          let same : slice_index s.memory (0x20000 + 2 * k + 1) ≡ slice_index t.memory (0x20000 + 2 * k + 1) = a.high_bytes k inside ∙ sym (b.high_bytes k inside) in
          let there : 0x20000 + 2 * k + 1 ≡ 0x20000 + n = omega (arith, e) in
          subst (λ m. slice_index s.memory m ≡ slice_index t.memory m) there same
    ]

same_byte : (code words : List ℕ) (s t : State) → IsStart code words s → IsStart code words t → (i : ℕ) → slice_index s.memory i ≡ slice_index t.memory i
same_byte code words s t a b i =
    elim (cases_lt i 0x10000) [
      | inl low ↦ a.below i low ∙ sym (b.below i low)
      | inr high ↦ elim (cases_lt i (0x10000 + length code)) [
        | inl in_code ↦
            let k = i - 0x10000 in
            let inside : k < length code = omega arith in
            let there : 0x10000 + k ≡ i = omega arith in
            subst (λ m. slice_index s.memory m ≡ slice_index t.memory m) there (a.code_bytes k inside ∙ sym (b.code_bytes k inside))
        | inr past_code ↦ elim (cases_lt i 0x20000) [
          | inl between ↦ a.between i past_code between ∙ sym (b.between i past_code between)
          | inr upper ↦ elim (cases_lt i (0x20000 + 2 * length words)) [
            | inl in_words ↦
                let n = i - 0x20000 in
                let there : 0x20000 + n ≡ i = omega arith in
                subst (λ m. slice_index s.memory m ≡ slice_index t.memory m) there (same_word_byte code words s t a b n (omega arith))
            | inr above ↦ a.above i above ∙ sym (b.above i above)
          ]
        ]
      ]
    ]

-- a state from its parts
unfoldable state_of : (memory registers : List ℕ) (code_segment instruction_pointer : ℕ) (flags : Flags) → State
state_of memory registers code_segment instruction_pointer flags =
    record { memory = memory; registers = registers; code_segment = code_segment; instruction_pointer = instruction_pointer; flags = flags }

state_of-parts : (s : State) → state_of s.memory s.registers s.code_segment s.instruction_pointer s.flags ≡ s
unfolding state_of
state_of-parts s = refl

pub starts_same : (code words : List ℕ) (s t : State) → IsStart code words s → IsStart code words t → s ≡ t
starts_same code words s t a b =
    let memory : s.memory ≡ t.memory = ext_get_or 0 s.memory t.memory (a.bytes ∙ sym b.bytes) (λ i less. same_byte code words s t a b i) in
    let registers : s.registers ≡ t.registers = a.registers ∙ sym b.registers in
    let segments : s.code_segment ≡ t.code_segment = a.code_segment ∙ sym b.code_segment in
    let places : s.instruction_pointer ≡ t.instruction_pointer = a.instruction_pointer ∙ sym b.instruction_pointer in
    let flags : s.flags ≡ t.flags = a.flags ∙ sym b.flags in
    cc (state_of-parts s, state_of-parts t)
