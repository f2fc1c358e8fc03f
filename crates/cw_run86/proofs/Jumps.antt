-- Jumps and calls, the ports, and the end.
use Rattle.std.proofs.Common.{◌≡◌, ℕ, suc, ◌+◌, ◌*◌, ◌/◌, ◌%◌, ◌<◌, Bool, true, false, List, refl, sym, ap, subst, ◌∙◌, arith, ◌≤◌, length}
use Rattle.std.specs.Prelude.{slice_index, slice_set, not}
use Rattle.cw_i86.specs.State.{sign_extended, sized_register, operand, push, byte_at, word_at, segment_of, offset_of, form_base, value_at}
use Rattle.cw_i86.specs.Effect.{holds as meets, jumped_if, called, returned}
use Rattle.cw_i86.specs.MachineRun.{taken, left_after, End, Running, end_told, Observed}
use Rattle.cw_i86.specs.declared.instr.Instr.TheVariants as i86
use Rattle.cw_i86.specs.declared.instr.Rm.TheVariants as rms
use Rattle.cw_i86.specs.declared.instr.Place.TheVariants as places
use Rattle.cw_run86.specs.Processor.{Processor, Told, does, behind, with_given, with_state, processor_step, observed}
use Rattle.cw_run86.specs.Views.{View, Sees, Has, Goes, IsTop, register as register_of, on, with_place, with_register, with_stack, with_input, with_told}
use Rattle.cw_run86.proofs.Tests.{Finds}
use Rattle.cw_run86.proofs.Memory.{holds}
use Rattle.cw_run86.proofs.Goes.{goes, sees, sees_past, step_is}
use Rattle.cw_run86.proofs.Runs.{resting}
use Rattle.cw_run86.proofs.Stack.{register_is, stack_written, stack_read, down, up, even, once_set}

-- from behind an instruction of so many bytes
pub from_behind : (at place n by : ℕ) → at ≡ place → ((at + n) % 65536 + by) % 65536 ≡ (place + n + by) % 65536
from_behind at place n by e = omega arith

pub table_word : (low high a b to : ℕ) → low ≡ a → high ≡ b → a + 256 * b ≡ to → low + 256 * high ≡ to
table_word low high a b to e f g = omega arith

module _ (finds : Finds) (code : List ℕ) (v : View) where
  pub near : (by : ℕ) → Has code v.place (i86.Jump by) → Goes code v (with_place ((v.place + 3 + by) % 65536) v)
  near by has =
      goes finds code v _ _ has (omega arith)
      (λ p s. sees code v _ p _ s (holds code v p s) refl s.registers (from_behind _ v.place 3 by s.place) s.overflow refl refl)

  pub short : (by : ℕ) → Has code v.place (i86.JumpShort by) → Goes code v (with_place ((v.place + 2 + sign_extended by) % 65536) v)
  short by has =
      goes finds code v _ _ has (omega arith)
      (λ p s. sees code v _ p _ s (holds code v p s) refl s.registers (from_behind _ v.place 2 (sign_extended by) s.place) s.overflow refl refl)

  pub register : (r : ℕ) → Has code v.place (i86.JumpRm (rms.Reg r)) → Goes code v (with_place (register_of v r) v)
  unfolding operand sized_register
  register r has =
      goes finds code v _ _ has (omega arith)
      (λ p s. sees code v _ p _ s (holds code v p s) refl s.registers (register_is code v p r s) s.overflow refl refl)

  -- JNO, as its condition says
  conditional : (by : ℕ) (p : Processor) (o : Bool) → Sees code v p → v.overflow ≡ o
      → with_state (jumped_if (behind (i86.JumpIf 1 by) p.state) (not o) by) p ≡ does (i86.JumpIf 1 by) p
  unfolding meets
  conditional by p o s is = ap (λ b. with_state (jumped_if (behind (i86.JumpIf 1 by) p.state) (not b) by) p) (sym (s.overflow ∙ is))

  pub no_overflow : (by : ℕ) → Has code v.place (i86.JumpIf 1 by) → v.overflow ≡ false → Goes code v (with_place ((v.place + 2 + sign_extended by) % 65536) v)
  no_overflow by has is =
      goes finds code v _ _ has (omega arith)
      (λ p s. subst (Sees code (with_place ((v.place + 2 + sign_extended by) % 65536) v)) (conditional by p false s is)
      (sees code v _ p _ s (holds code v p s) refl s.registers (from_behind _ v.place 2 (sign_extended by) s.place) s.overflow refl refl))

  pub passes : (by : ℕ) → Has code v.place (i86.JumpIf 1 by) → v.overflow ≡ true → Goes code v (on (i86.JumpIf 1 by) v)
  passes by has is =
      goes finds code v _ _ has (omega arith)
      (λ p s. subst (Sees code (on (i86.JumpIf 1 by) v)) (conditional by p true s is)
      (sees code v _ p _ s (holds code v p s) refl s.registers (ap (λ n. (n + 2) % 65536) s.place) s.overflow refl refl))

  pub call : (by n : ℕ) → Has code v.place (i86.Call by) → n < 32768 → IsTop v (suc n)
      → Goes code v (with_place ((v.place + 3 + by) % 65536) (with_register 4 (2 * n) (with_stack n ((v.place + 3) % 65536) v)))
  unfolding called push
  call by n has lt top =
      goes finds code v _ _ has (omega arith)
      (λ p s. let lower = down n _ _ lt (register_is code v p 4 s) top in
      let behind_it : (p.state.instruction_pointer + 3) % 65536 ≡ (v.place + 3) % 65536 = ap (λ n. (n + 3) % 65536) s.place in
      sees code v _ p _ s (stack_written code v p _ n _ ((v.place + 3) % 65536) s lt lower behind_it) refl (once_set _ _ 4 _ _ s.registers lower)
      (from_behind _ v.place 3 by s.place) s.overflow refl refl)

  pub back : (n : ℕ) → Has code v.place i86.Ret → n < 32768 → IsTop v n → Goes code v (with_place (v.stack n) (with_register 4 (2 * suc n % 65536) v))
  unfolding returned
  back n has lt top =
      goes finds code v _ _ has (omega arith)
      (λ p s. let sp = register_is code v p 4 s in
      sees code v _ p _ s (holds code v p s) refl (once_set _ _ 4 _ _ s.registers (up n _ _ lt sp top)) (stack_read code v p _ n s lt (sp ∙ even n _ lt top)) s.overflow refl refl)

  pub take : (port : ℕ) → Has code v.place (i86.In port) → Goes code v (with_input (left_after port v.input) (with_register 0 (register_of v 0 / 256 * 256 + taken port v.input) (on (i86.In port) v)))
  take port has =
      goes finds code v _ _ has (omega arith)
      (λ p s. sees_past code v _ p _ s refl (holds code v p s) refl
      (ap (λ rs. slice_set rs 0 (slice_index rs 0 / 256 * 256 + taken port p.input)) s.registers ∙ ap (λ i. slice_set v.registers 0 (register_of v 0 / 256 * 256 + taken port i)) s.input)
      (ap (λ n. (n + 2) % 65536) s.place) s.overflow (ap (left_after port) s.input) s.told)

  -- by a word of a table in the code
  pub through_table : (by at to : ℕ) → Has code v.place (i86.JumpRm (rms.Mem (record { cs = true; place = places.Far 7 by }))) → (register_of v 3 + by) % 65536 ≡ at → at + 2 ≤ length code
      → slice_index code at + 256 * slice_index code (at + 1) ≡ to → Goes code v (with_place to v)
  unfolding operand segment_of offset_of form_base value_at word_at
  through_table by at to has is within word =
      goes finds code v _ _ has (omega arith)
      (λ p s. let there : (slice_index p.state.registers 3 + by) % 65536 ≡ at = ap (λ n. (n + by) % 65536) (register_is code v p 3 s) ∙ is in
      let fits = s.fits in
      let next : (at + 1) % 65536 ≡ at + 1 = omega arith in
      let low : byte_at p.state.memory p.state.code_segment at ≡ slice_index code at = ap (λ c. byte_at p.state.memory c at) s.segment ∙ s.code_bytes at (omega arith) in
      let high : byte_at p.state.memory p.state.code_segment ((at + 1) % 65536) ≡ slice_index code (at + 1) =
      ap (byte_at p.state.memory p.state.code_segment) next ∙ ap (λ c. byte_at p.state.memory c (at + 1)) s.segment ∙ s.code_bytes (at + 1) (omega arith) in
      let read : word_at p.state.memory p.state.code_segment ((slice_index p.state.registers 3 + by) % 65536) ≡ to =
      ap (word_at p.state.memory p.state.code_segment) there ∙ table_word _ _ _ _ _ low high word in
      sees code v _ p _ s (holds code v p s) refl s.registers read s.overflow refl refl)

  pub out : (port : ℕ) → Has code v.place (i86.Out port) → Goes code v (with_told (with_given port (register_of v 0 % 256) v.told) (on (i86.Out port) v))
  out port has =
      goes finds code v _ _ has (omega arith)
      (λ p s. sees_past code v _ p _ s refl (holds code v p s) refl s.registers (ap (λ n. (n + 2) % 65536) s.place) s.overflow s.input
      (ap (λ rs. with_given port (slice_index rs 0 % 256) p.told) s.registers ∙ ap (with_given port (register_of v 0 % 256)) s.told))

  pub halts : (p : Processor) → Has code v.place i86.Hlt → Sees code v p
      → observed (processor_step p) ≡ record { output = v.told.output; end = end_told v.told.kind v.told.segment (v.told.line_low + 256 * v.told.line_high) }
  halts p has s =
      let shown : Told → Observed = λ t. record { output = t.output; end = end_told t.kind t.segment (t.line_low + 256 * t.line_high) } in
      ap observed (step_is finds code v p i86.Hlt s has (omega arith)) ∙ ap shown s.told

  pub rests : (p : Processor) → Has code v.place i86.Hlt → Sees code v p → processor_step (processor_step p) ≡ processor_step p
  rests p has s =
      let step = step_is finds code v p i86.Hlt s has (omega arith) in
      let stays : processor_step (does i86.Hlt p) ≡ does i86.Hlt p = resting p.told.kind p.told.segment (p.told.line_low + 256 * p.told.line_high) (does i86.Hlt p) refl in
      ap processor_step step ∙ stays ∙ sym step

  pub runs : (p : Processor) → Sees code v p → observed p ≡ record { output = v.told.output; end = Running }
  runs p s =
      let made : (o : List ℕ) (e : End) → Observed = λ o e. record { output = o; end = e } in
      ap (λ t. made t.output p.end) s.told ∙ ap (made v.told.output) s.at_work
