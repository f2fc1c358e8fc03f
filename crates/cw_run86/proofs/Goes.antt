-- An instruction that stands in the code is what the processor does.
use Rattle.std.proofs.Common.{◌≡◌, ℕ, zero, suc, ◌+◌, ◌%◌, ◌<◌, ◌≤◌, List, [], ◌∷◌, ◌++◌, length, refl, sym, ap, subst, ◌∙◌, arith}
use Rattle.std.specs.Prelude.{slice_index}
use Rattle.cw_i86.specs.Encoding.{bytes_of}
use Rattle.cw_i86.specs.State.{State, byte_at, window}
use Rattle.cw_i86.specs.MachineRun.{code_at, Stands}
use Rattle.cw_i86.specs.declared.instr.Instr.{Instr}
use Rattle.cw_run86.specs.Processor.{Processor, does, fetched, step_at, processor_step, with_state}
use Rattle.cw_run86.specs.Views.{View, Sees, Has, Goes, code_segment}
use Rattle.cw_run86.proofs.Tests.{Finds}
use Rattle.cw_run86.proofs.Memory.{Holds}

-- bytes that stand from a place on begin the window there
window_begins : (m bs : List ℕ) (n at : ℕ) → length bs ≤ n → at + length bs ≤ 65536 → ((k : ℕ) → k < length bs → byte_at m code_segment (at + k) ≡ slice_index bs k)
    → (rest : List ℕ) × (window n m code_segment at ≡ bs ++ rest)
unfolding window
window_begins m [] n at short within is = (window n m code_segment at, refl)
window_begins m (b ∷ []) (suc n) at short within is =
    let here : byte_at m code_segment at ≡ b = ap (byte_at m code_segment) (omega arith) ∙ is 0 (omega arith) in
    (window n m code_segment ((at + 1) % 65536), ap (λ x. x ∷ window n m code_segment ((at + 1) % 65536)) here)
window_begins m (b ∷ c ∷ bs) (suc n) at short within is =
    let here : byte_at m code_segment at ≡ b = ap (byte_at m code_segment) (omega arith) ∙ is 0 (omega arith) in
    let next : (at + 1) % 65536 ≡ at + 1 = omega arith in
    let rest = window_begins m (c ∷ bs) n (at + 1) (omega arith) (omega arith) (λ k lt. ap (byte_at m code_segment) (omega arith) ∙ is (suc k) (omega arith)) in
    let on : window n m code_segment ((at + 1) % 65536) ≡ (c ∷ bs) ++ rest.0 = ap (window n m code_segment) next ∙ rest.1 in
    (rest.0, ap (λ x. x ∷ window n m code_segment ((at + 1) % 65536)) here ∙ ap (λ xs. b ∷ xs) on)
window_begins m (b ∷ bs) zero at short within is = absurd (omega arith)

stands : (code : List ℕ) (v : View) (p : Processor) (i : Instr) → Sees code v p → Has code v.place i → length (bytes_of i) ≤ 7 → Stands p.state i
stands code v p i s has short =
    let byte : (k : ℕ) → k < length (bytes_of i) → byte_at p.state.memory code_segment (v.place + k) ≡ slice_index (bytes_of i) k =
    λ k lt. s.code_bytes (v.place + k) (omega (arith, has.within)) ∙ has.bytes k lt in
    let begins = window_begins p.state.memory (bytes_of i) 7 v.place short (omega (arith, has.within, s.fits)) byte in
    let there : code_at p.state ≡ window 7 p.state.memory code_segment v.place =
    ap (λ c. window 7 p.state.memory c p.state.instruction_pointer) s.segment ∙ ap (window 7 p.state.memory code_segment) s.place in
    (has.is_instr, (begins.0, there ∙ begins.1))

pub step_is : Finds → (code : List ℕ) (v : View) (p : Processor) (i : Instr) → Sees code v p → Has code v.place i → length (bytes_of i) ≤ 7 → processor_step p ≡ does i p
step_is finds code v p i s has short =
    ap (λ e. step_at e p) s.at_work ∙ ap (λ o. fetched o p) (finds p.state i (stands code v p i s has short))

-- It is enough to say what the instruction does.
pub goes : Finds → (code : List ℕ) (v w : View) (i : Instr) → Has code v.place i → length (bytes_of i) ≤ 7 → ((p : Processor) → Sees code v p → Sees code w (does i p)) → Goes code v w
goes finds code v w i has short leads p s = subst (Sees code w) (sym (step_is finds code v p i s has short)) (leads p s)

-- ---- what an instruction leaves

-- registers, place, overflow flag and what passes the ports change, and the memory is told of
pub sees_past : (code : List ℕ) (v w : View) (p q : Processor) → Sees code v p → q.end ≡ p.end → Holds code w.cells w.stack q.state.memory → q.state.code_segment ≡ p.state.code_segment
    → q.state.registers ≡ w.registers → q.state.instruction_pointer ≡ w.place → q.state.flags.of ≡ w.overflow → q.input ≡ w.input → q.told ≡ w.told → Sees code w q
sees_past code v w p q old end memory segment registers place overflow input told = record {
  at_work = end ∙ old.at_work;
  bytes = memory.bytes;
  fits = old.fits;
  segment = segment ∙ old.segment;
  code_bytes = memory.code_bytes;
  registers = registers;
  place = place;
  overflow = overflow;
  words = memory.data_words;
  stack = memory.stack_words;
  input = input;
  told = told;
}

-- the same where nothing passes the ports
pub sees : (code : List ℕ) (v w : View) (p : Processor) (s : State) → Sees code v p → Holds code w.cells w.stack s.memory → s.code_segment ≡ p.state.code_segment
    → s.registers ≡ w.registers → s.instruction_pointer ≡ w.place → s.flags.of ≡ w.overflow → v.input ≡ w.input → v.told ≡ w.told → Sees code w (with_state s p)
sees code v w p s old memory segment registers place overflow input told =
    sees_past code v w p (with_state s p) old refl memory segment registers place overflow (old.input ∙ input) (old.told ∙ told)
