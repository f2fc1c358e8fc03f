-- Operands that an instruction reads: a register, a word of the data segment, of the stack or of the code.
use Rattle.std.proofs.Common.{◌≡◌, ℕ, ◌+◌, ◌*◌, ◌%◌, ◌<◌, true, false, List, ap, ◌∙◌, arith}
use Rattle.std.specs.Prelude.{slice_index}
use Rattle.cw_i86.specs.State.{State, data_segment, stack_segment, default_segment, word_at, byte_at, offset_of, segment_of, value_at, sized_register, operand}
use Rattle.cw_i86.specs.declared.instr.Place.{Place}
use Rattle.cw_i86.specs.declared.instr.Rm.{Rm}
use Rattle.cw_i86.specs.declared.instr.Rm.TheVariants as rms
use Rattle.cw_i86.specs.declared.flags.Flags.{Flags}
use Rattle.cw_run86.specs.Addressing.{offset_in}
use Rattle.cw_run86.proofs.Addressing.{offset_is}
use Rattle.cw_run86.specs.Processor.{Processor}
use Rattle.cw_run86.specs.Views.{View, code_segment}
use Rattle.cw_run86.proofs.Jumps.{table_word}
use Rattle.cw_routines.specs.Ways.{At, HasWord}

-- ---- operands

-- with what is known of the words: the number of the word, or its place in the code, and the word itself
pub data Source : Type 0 where
  Register : (r : ℕ) → Source
  Cell : (place : Place) (k w : ℕ) → Source
  Slot : (place : Place) (k w : ℕ) → Source
  InCode : (place : Place) (at w : ℕ) → Source

abbrev pub rm_of : Source → Rm
rm_of (Register r) = rms.Reg r
rm_of (Cell place k w) = rms.Mem (record { cs = false; place = place })
rm_of (Slot place k w) = rms.Mem (record { cs = false; place = place })
rm_of (InCode place at w) = rms.Mem (record { cs = true; place = place })

abbrev pub SourceNeeds : List ℕ → Source → View → Type 0
SourceNeeds code (Register r) v = Unit {0}
SourceNeeds code (Cell place k w) v = (default_segment place ≡ data_segment) × (k < 32768) × (offset_in v.registers place ≡ 2 * k) × (v.cells k ≡ w)
SourceNeeds code (Slot place k w) v = (default_segment place ≡ stack_segment) × (k < 32768) × (offset_in v.registers place ≡ 2 * k) × (v.stack k ≡ w)
SourceNeeds code (InCode place at w) v = (offset_in v.registers place ≡ at) × HasWord code at w

abbrev pub value_of : Source → View → ℕ
value_of (Register r) v = slice_index v.registers r
value_of (Cell place k w) v = w
value_of (Slot place k w) v = w
value_of (InCode place at w) v = w

-- a state with the memory, the registers and the code segment of the processor
pub reads : {code : List ℕ} {at : ℕ} {v : View} {f : Flags} {p : Processor} (src : Source) → At code at v f p → SourceNeeds code src v → (s : State) → s.memory ≡ p.state.memory
    → s.registers ≡ p.state.registers → s.code_segment ≡ p.state.code_segment → operand s true (rm_of src) ≡ value_of src v
unfolding operand sized_register segment_of value_at word_at
reads {v = v} (Register r) h n s m rs cs = ap (λ rs. slice_index rs r) (rs ∙ h.sees.registers)
reads {v = v} {p = p} (Cell place k w) h n s m rs cs =
    ap (λ g. word_at s.memory g (offset_of s place)) n.0 ∙ ap (word_at s.memory data_segment) (offset_is s v.registers place (rs ∙ h.sees.registers) ∙ n.2)
    ∙ ap (λ m. word_at m data_segment (2 * k)) m ∙ h.sees.words k n.1 ∙ n.3
reads {v = v} {p = p} (Slot place k w) h n s m rs cs =
    ap (λ g. word_at s.memory g (offset_of s place)) n.0 ∙ ap (word_at s.memory stack_segment) (offset_is s v.registers place (rs ∙ h.sees.registers) ∙ n.2)
    ∙ ap (λ m. word_at m stack_segment (2 * k)) m ∙ h.sees.stack k n.1 ∙ n.3
reads {code} {v = v} {p = p} (InCode place at w) h n s m rs cs =
    let there : offset_of s place ≡ at = offset_is s v.registers place (rs ∙ h.sees.registers) ∙ n.0 in
    let fits = h.sees.fits in
    let within = n.1.within in
    let next : (at + 1) % 65536 ≡ at + 1 = omega arith in
    let segment : p.state.code_segment ≡ code_segment = h.sees.segment in
    let low : byte_at p.state.memory code_segment at ≡ slice_index code at = h.sees.code_bytes at (omega arith) in
    let high : byte_at p.state.memory code_segment ((at + 1) % 65536) ≡ slice_index code (at + 1) = ap (byte_at p.state.memory code_segment) next
    ∙ h.sees.code_bytes (at + 1) (omega arith) in
    ap (λ g. word_at s.memory g (offset_of s place)) (cs ∙ segment) ∙ ap (word_at s.memory code_segment) there ∙ ap (λ m. word_at m code_segment at) m
    ∙ table_word _ _ _ _ w low high n.1.is
