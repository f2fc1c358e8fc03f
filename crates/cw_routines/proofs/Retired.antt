-- At the entries of earlier libraries no instruction begins.
use Rattle.std.proofs.Common.{◌≡◌, ℕ, ◌+◌, ◌%◌, List, ◌∷◌, ◌++◌, refl, ap, ◌∙◌}
use Rattle.std.specs.Prelude.{None}
use Rattle.cw_dec86.specs.Rows.{instr_at, row, plain_row, middle_row}
use Rattle.cw_i86.specs.State.{window, byte_at}
use Rattle.cw_i86.specs.MachineRun.{Bad, code_at}
use Rattle.cw_run86.specs.Fetching.{instruction_at, tested}
use Rattle.cw_run86.specs.Processor.{Processor, processor_step, step_at, fetched, with_end}
use Rattle.cw_run86.specs.Views.{View, Sees, code_segment}
use Rattle.cw_tmpl.specs.Library.{library_bytes, no_instruction, retired_place}
use Rattle.cw_routines.proofs.Valid.{retired_byte}

no_row : (rest : List ℕ) → instr_at (0xCC ∷ rest) ≡ None
unfolding instr_at row plain_row middle_row
no_row rest = refl

begins : (b : ℕ) (m : List ℕ) (at : ℕ) → byte_at m code_segment at ≡ b → (rest : List ℕ) × (window 7 m code_segment at ≡ b ∷ rest)
unfolding window
begins b m at e = (window 6 m code_segment ((at + 1) % 65536), ap (λ x. x ∷ window 6 m code_segment ((at + 1) % 65536)) e)

pub bad_there : (code behind : List ℕ) (v : View) (p : Processor) → code ≡ library_bytes ++ behind → v.place ≡ retired_place → Sees code v p
    → processor_step p ≡ with_end (Bad retired_place) p
unfolding instruction_at
bad_there code behind v p e there s =
    let r = retired_byte code behind e in
    let w = begins no_instruction p.state.memory 4 (s.code_bytes 4 r.0 ∙ r.1) in
    let place : p.state.instruction_pointer ≡ 4 = s.place ∙ there in
    let window_is : code_at p.state ≡ no_instruction ∷ w.0 = ap (λ c. window 7 p.state.memory c p.state.instruction_pointer) s.segment
    ∙ ap (window 7 p.state.memory code_segment) place ∙ w.1 in
    let none : instruction_at p.state ≡ None = ap (λ l. tested l (instr_at l)) window_is ∙ ap (tested (no_instruction ∷ w.0)) (no_row w.0) in
    ap (λ e. step_at e p) s.at_work ∙ ap (λ o. fetched o p) none ∙ ap (λ n. with_end (Bad n) p) place
