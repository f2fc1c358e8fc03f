-- Where an instruction leads, when it is known what it does.
use Rattle.std.proofs.Common.{◌≡◌, ℕ, ◌+◌, ◌%◌, ◌<◌, ◌≤◌, true, false, List, length, refl, sym, ap, subst, ◌∙◌, arith}
use Rattle.cw_i86.specs.Encoding.{bytes_of}
use Rattle.cw_i86.specs.State.{State, sign_extended}
use Rattle.std.specs.Prelude.{slice_index, ◌==◌}
use Rattle.cw_i86.specs.Effect.{holds as meets, jumped_if, looped}
use Rattle.cw_i86.specs.declared.flags.Flags.{Flags}
use Rattle.cw_i86.specs.declared.instr.Instr.{Instr}
use Rattle.cw_i86.specs.declared.instr.Instr.TheVariants as i86
use Rattle.cw_run86.specs.Processor.{Processor, does, behind, processor_step, with_state}
use Rattle.cw_run86.specs.Views.{View, Has}
use Rattle.cw_run86.proofs.Tests.{Finds}
use Rattle.cw_run86.proofs.Memory.{Holds, holds}
use Rattle.cw_run86.proofs.Goes.{sees_past, step_is}
use Rattle.cw_routines.specs.Ways.{At, standing}

-- an instruction that stands in the code stands below 65,536
pub here : {code : List ℕ} {at : ℕ} {v : View} {f : Flags} {p : Processor} (i : Instr) → 0 < length (bytes_of i) → Has code at i → At code at v f p → Has code (at % 65536) i
here {code} {at} i some h s =
    let within = h.within in
    let fits = s.sees.fits in
    let e : at ≡ at % 65536 = omega arith in
    subst (λ n. Has code n i) e h

-- the memory that a view tells of
pub held : {code : List ℕ} {at : ℕ} {v : View} {f : Flags} {p : Processor} → At code at v f p → Holds code v.cells v.stack p.state.memory
held {code} {at} {v} {f} {p} s = holds code (standing at f v) p s.sees

-- the processor behind an instruction
pub arrives_past : Finds → {code : List ℕ} {at to : ℕ} {v w : View} {f g : Flags} {p q : Processor} (i : Instr) → 0 < length (bytes_of i) → length (bytes_of i) ≤ 7
    → Has code at i → At code at v f p
    → does i p ≡ q → q.end ≡ p.end → Holds code w.cells w.stack q.state.memory → q.state.code_segment ≡ p.state.code_segment → q.state.registers ≡ w.registers
    → q.state.instruction_pointer ≡ to % 65536 → q.state.flags ≡ g → q.input ≡ w.input → q.told ≡ w.told
    → At code to w g (processor_step p)
arrives_past finds {code} {at} {to} {v} {w} {f} {g} {p} {q} i some short h s does_it end memory segment registers place flags input told =
    let e : processor_step p ≡ q = step_is finds code (standing at f v) p i s.sees (here i some h s) short ∙ does_it in
    subst (At code to w g) (sym e) (record {
      sees = sees_past code (standing at f v) (standing to g w) p q s.sees end memory segment registers place (ap (λ x. x.of) flags) input told;
      flags = flags;
    })

-- so where it changes nothing but the state
pub arrives : Finds → {code : List ℕ} {at to : ℕ} {v w : View} {f g : Flags} {p : Processor} {t : State} (i : Instr) → 0 < length (bytes_of i) → length (bytes_of i) ≤ 7
    → Has code at i → At code at v f p
    → does i p ≡ with_state t p → Holds code w.cells w.stack t.memory → t.code_segment ≡ p.state.code_segment → t.registers ≡ w.registers → t.instruction_pointer ≡ to % 65536
    → t.flags ≡ g → v.input ≡ w.input → v.told ≡ w.told
    → At code to w g (processor_step p)
arrives finds {p = p} {t = t} i some short h s does_it memory segment registers place flags input told =
    arrives_past finds {q = with_state t p} i some short h s does_it refl memory segment registers place flags (s.sees.input ∙ input) (s.sees.told ∙ told)

-- past an instruction, modulo 65,536
pub past_it : (ip at n : ℕ) → ip ≡ at % 65536 → (ip + n) % 65536 ≡ (at + n) % 65536
past_it ip at n e = omega arith

pub past_by : (ip at n by : ℕ) → ip ≡ at % 65536 → ((ip + n) % 65536 + by) % 65536 ≡ (at + n + by) % 65536
past_by ip at n by e = omega arith

-- ---- conditional jumps

module _ (finds : Finds) {code : List ℕ} {at : ℕ} {v : View} {f : Flags} {p : Processor} where
  pub jumps_if : (cond by : ℕ) → Has code at (i86.JumpIf cond by) → meets f cond ≡ true → At code at v f p → At code (at + 2 + sign_extended by) v f (processor_step p)
  jumps_if cond by h is s =
      let j = i86.JumpIf cond by in
      let met : meets p.state.flags cond ≡ true = ap (λ f. meets f cond) s.flags ∙ is in
      arrives finds {w = v} {t = jumped_if (behind j p.state) true by} j (omega arith) (omega arith) h s
      (ap (λ b. with_state (jumped_if (behind j p.state) b by) p) met)
      (held s) refl s.sees.registers (past_by _ at 2 (sign_extended by) s.sees.place) s.flags refl refl

  pub passes_if : (cond by : ℕ) → Has code at (i86.JumpIf cond by) → meets f cond ≡ false → At code at v f p → At code (at + 2) v f (processor_step p)
  passes_if cond by h is s =
      let j = i86.JumpIf cond by in
      let met : meets p.state.flags cond ≡ false = ap (λ f. meets f cond) s.flags ∙ is in
      arrives finds {w = v} {t = jumped_if (behind j p.state) false by} j (omega arith) (omega arith) h s
      (ap (λ b. with_state (jumped_if (behind j p.state) b by) p) met)
      (held s) refl s.sees.registers (past_it _ at 2 s.sees.place) s.flags refl refl

  -- JCXZ
  pub jumps_if_none : (by : ℕ) → Has code at (i86.Loop 3 by) → slice_index v.registers 1 ≡ 0 → At code at v f p → At code (at + 2 + sign_extended by) v f (processor_step p)
  unfolding looped
  jumps_if_none by h is s =
      let j = i86.Loop 3 by in
      let met : (slice_index p.state.registers 1 == 0) ≡ true = ap (λ rs. slice_index rs 1 == 0) s.sees.registers ∙ ap (λ n. n == 0) is in
      arrives finds {w = v} {t = jumped_if (behind j p.state) true by} j (omega arith) (omega arith) h s
      (ap (λ b. with_state (jumped_if (behind j p.state) b by) p) met)
      (held s) refl s.sees.registers (past_by _ at 2 (sign_extended by) s.sees.place) s.flags refl refl

  pub passes_if_some : (by : ℕ) → Has code at (i86.Loop 3 by) → (slice_index v.registers 1 == 0) ≡ false → At code at v f p → At code (at + 2) v f (processor_step p)
  unfolding looped
  passes_if_some by h is s =
      let j = i86.Loop 3 by in
      let met : (slice_index p.state.registers 1 == 0) ≡ false = ap (λ rs. slice_index rs 1 == 0) s.sees.registers ∙ is in
      arrives finds {w = v} {t = jumped_if (behind j p.state) false by} j (omega arith) (omega arith) h s
      (ap (λ b. with_state (jumped_if (behind j p.state) b by) p) met)
      (held s) refl s.sees.registers (past_it _ at 2 s.sees.place) s.flags refl refl
