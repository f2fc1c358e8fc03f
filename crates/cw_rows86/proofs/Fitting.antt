-- States that fit a view, and what reading and writing an operand does to them.
use Rattle.std.proofs.Common.{◌≡◌, ℕ, ◌+◌, ◌*◌, ◌%◌, ◌<◌, ◌≤◌, Bool, true, false, List, length, refl, ap, ap₂, subst, ◌∙◌, arith}
use Rattle.std.specs.Prelude.{slice_index, slice_set, if◌then◌else◌}
use Rattle.cw_i86.specs.State.{State, word_at, with_word, byte_at, data_segment, stack_segment, default_segment, segment_of, offset_of, operand, with_operand, value_at, with_value_at, sized_register, with_sized_register}
use Rattle.cw_i86.specs.declared.instr.Mem.{Mem}
use Rattle.cw_i86.specs.declared.instr.Rm.{Rm}
use Rattle.cw_i86.specs.declared.instr.Rm.TheVariants as rms
use Rattle.cw_i86.specs.declared.instr.Place.{Place}
use Rattle.cw_i86.specs.declared.instr.Place.TheVariants.{Direct}
use Rattle.cw_run86.specs.Views.{View, code_segment, put_word}
use Rattle.cw_run86.proofs.Addressing.{offset_is}
use Rattle.cw_run86.proofs.Memory.{Holds, holds_cell, holds_stack}
use Rattle.cw_rows86.specs.Locations.{Location, InRegister, InData, InStack, InCode, contents, with_contents, IsWritable, is_of_stack, Denotes}

-- the state holds this code, these registers and these words
pub record Fits (code registers : List ℕ) (cells stack : ℕ → ℕ) (s : State) : Type 0 where
  pub memory : Holds code cells stack s.memory
  pub same_registers : s.registers ≡ registers
  pub segment : s.code_segment ≡ code_segment

abbrev pub FitsView : List ℕ → View → State → Type 0
FitsView code v s = Fits code v.registers v.cells v.stack s

-- ---- where an operand is

segment_is : (place : Place) → default_segment place ≡ (if is_of_stack place then stack_segment else data_segment)
segment_is (Direct at) = refl
segment_is _ = refl

of_default : (s : State) (m : Mem) (b : Bool) → m.cs ≡ false → is_of_stack m.place ≡ b → segment_of s m ≡ (if b then stack_segment else data_segment)
unfolding segment_of
of_default s m b plain is = ap (λ c. if c then s.code_segment else default_segment m.place) plain ∙ segment_is m.place ∙ ap (λ c. if c then stack_segment else data_segment) is

of_code : (s : State) (m : Mem) → m.cs ≡ true → s.code_segment ≡ code_segment → segment_of s m ≡ code_segment
unfolding segment_of
of_code s m prefixed is = ap (λ c. if c then s.code_segment else default_segment m.place) prefixed ∙ is

-- ---- reading

code_word : (m : List ℕ) (code : List ℕ) (at : ℕ) → length code ≤ 65536 → ((k : ℕ) → k < length code → byte_at m code_segment k ≡ slice_index code k) → at + 2 ≤ length code
    → word_at m code_segment at ≡ slice_index code at + 256 * slice_index code (at + 1)
unfolding word_at
code_word m code at fits bytes within =
    let next : (at + 1) % 65536 ≡ at + 1 = omega arith in
    let low : byte_at m code_segment at ≡ slice_index code at = bytes at (omega arith) in
    let high : byte_at m code_segment ((at + 1) % 65536) ≡ slice_index code (at + 1) = ap (byte_at m code_segment) next ∙ bytes (at + 1) (omega arith) in
    ap₂ (λ a b. a + 256 * b) low high

pub reads : (code : List ℕ) (u : View) (s : State) (rm : Rm) (o : Location) → Denotes code u.registers rm o → FitsView code u s → operand s true rm ≡ contents code u o
unfolding operand sized_register value_at
reads code u s (rms.Reg q) (InRegister r) d f = ap (λ rs. slice_index rs q) f.same_registers ∙ ap (slice_index u.registers) d
reads code u s (rms.Reg q) (InData k) d f = absurd d
reads code u s (rms.Reg q) (InStack k) d f = absurd d
reads code u s (rms.Reg q) (InCode at) d f = absurd d
reads code u s (rms.Mem m) (InRegister r) d f = absurd d
reads code u s (rms.Mem m) (InData k) d f =
    ap₂ (word_at s.memory) (of_default s m false d.0 d.1) (offset_is s u.registers m.place f.same_registers ∙ d.3) ∙ f.memory.data_words k d.2
reads code u s (rms.Mem m) (InStack k) d f =
    ap₂ (word_at s.memory) (of_default s m true d.0 d.1) (offset_is s u.registers m.place f.same_registers ∙ d.3) ∙ f.memory.stack_words k d.2
reads code u s (rms.Mem m) (InCode at) d f =
    ap₂ (word_at s.memory) (of_code s m d.0 f.segment) (offset_is s u.registers m.place f.same_registers ∙ d.2) ∙ code_word s.memory code at f.memory.fits f.memory.code_bytes d.1

-- ---- writing

-- the state behind it, which fits the view with that word
pub record Writes (code : List ℕ) (u : View) (s t : State) : Type 0 where
  pub fits : FitsView code u t
  pub place : t.instruction_pointer ≡ s.instruction_pointer
  pub flags : t.flags ≡ s.flags

pub writes : (code : List ℕ) (u : View) (s : State) (rm : Rm) (o : Location) (written w : ℕ) → Denotes code u.registers rm o → IsWritable o → written ≡ w → FitsView code u s
    → Writes code (with_contents o w u) s (with_operand s true rm written)
unfolding with_operand with_sized_register with_value_at
writes code u s (rms.Reg q) (InRegister r) written w d able e f =
    let set : slice_set s.registers q written ≡ slice_set u.registers r w = ap (λ rs. slice_set rs q written) f.same_registers ∙ ap₂ (slice_set u.registers) d e in
    record { fits = record { memory = f.memory; same_registers = set; segment = f.segment }; place = refl; flags = refl }
writes code u s (rms.Reg q) (InData k) written w d able e f = absurd d
writes code u s (rms.Reg q) (InStack k) written w d able e f = absurd d
writes code u s (rms.Reg q) (InCode at) written w d able e f = absurd d
writes code u s (rms.Mem m) (InRegister r) written w d able e f = absurd d
writes code u s (rms.Mem m) (InData k) written w d able e f =
    let seg = of_default s m false d.0 d.1 in
    let off = offset_is s u.registers m.place f.same_registers ∙ d.3 in
    let at : with_word s.memory data_segment (2 * k) w ≡ with_word s.memory (segment_of s m) (offset_of s m.place) written = cc in
    record {
      fits = record { memory = subst (Holds code (put_word u.cells k w) u.stack) at (holds_cell code u.cells u.stack s.memory k w d.2 f.memory); same_registers = f.same_registers; segment = f.segment };
      place = refl;
      flags = refl;
    }
writes code u s (rms.Mem m) (InStack k) written w d able e f =
    let seg = of_default s m true d.0 d.1 in
    let off = offset_is s u.registers m.place f.same_registers ∙ d.3 in
    let at : with_word s.memory stack_segment (2 * k) w ≡ with_word s.memory (segment_of s m) (offset_of s m.place) written = cc in
    record {
      fits = record { memory = subst (Holds code u.cells (put_word u.stack k w)) at (holds_stack code u.cells u.stack s.memory k w d.2 f.memory); same_registers = f.same_registers; segment = f.segment };
      place = refl;
      flags = refl;
    }
writes code u s (rms.Mem m) (InCode at) written w d able e f = absurd able
