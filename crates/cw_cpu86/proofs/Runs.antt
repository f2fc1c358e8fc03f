-- Runs one step longer.
use Rattle.std.proofs.Common.{◌≡◌, ℕ, suc, ◌+◌, ◌<◌, [], ◌∷◌, ◌++◌, refl, sym, ap, ◌∙◌, subst, arith}
use Rattle.cw_i86.specs.State.{State}
use Rattle.cw_i86.specs.MachineRun.{Runs, Steps, Outcome}
use Rattle.cw_cpu86.specs.Ports.{Device}
use Rattle.cw_cpu86.specs.Answers.{Went, StepAnswers}
use Rattle.cw_cpu86.specs.declared.cpu.Step.TheVariants.{Ran}
use Rattle.cw_cpu86.proofs.Told.{follows_more}

pub one_more : (n : ℕ) (s : State) (d : Device) (t : State) (e : Device) (u : State) (f : Device) → Went n s d t e → StepAnswers Ran t e u f → Went (n + 1) s d u f
one_more n s d t e u f went step =
    let next : suc n ≡ n + 1 = omega arith in
    record {
      events = went.events ++ step.0 ∷ [];
      runs = subst (λ m. Runs m s (went.events ++ step.0 ∷ []) u) next (t, went.events, step.0, went.runs, step.1, refl);
      follows = follows_more went.events step.0 d e f went.follows step.2;
    }

-- a step that was refused leaves the run where it was
pub refused : (limit n : ℕ) (s : State) (d : Device) (t : State) (e : Device) (u : State) (f : Device) (o : Outcome) (offset : ℕ) → n < limit → Went n s d t e
    → Steps t o → offset ≡ t.instruction_pointer → u ≡ t → f ≡ e → (n < limit) × Went n s d u f × Steps u o × (offset ≡ u.instruction_pointer)
refused limit n s d t e u f o offset room went steps is same same_ports = (
  room,
  subst (λ x. Went n s d x f) (sym same) (subst (λ x. Went n s d t x) (sym same_ports) went),
  subst (λ x. Steps x o) (sym same) steps,
  is ∙ ap (λ x. x.instruction_pointer) (sym same),
)
