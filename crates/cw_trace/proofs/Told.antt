-- What is told of a run, one instruction further.
use Rattle.std.proofs.Common.{◌≡◌, ℕ, zero, suc, ◌+◌, ◌-◌, ◌<◌, ◌≤◌, List, [], ◌∷◌, ◌++◌, take, Option, Err, refl, sym, ap, subst, ◌∙◌, inl, inr, arith, append_assoc, append-nil}
use Rattle.std.specs.Prelude.{◌⊎◌}
use Rattle.std.proofs.lemmas.Bool.{cases_lt}
use Rattle.cw_io.specs.Bytes.{after_told}
use Rattle.cw_io.specs.declared.source.Failed.{Failed}
use Rattle.cw_i86.specs.State.{State}
use Rattle.cw_i86.specs.MachineRun.{Event, End, Outcome, Runs, Steps, Halts, Divides, Undefined, Bad, Divided, end_after, IsOver}
use Rattle.cw_cpu86.specs.Ports.{Device}
use Rattle.cw_cpu86.specs.Answers.{Went, StepAnswers, PortFails}
use Rattle.cw_cpu86.specs.declared.cpu.Step.TheVariants.{Ran}
use Rattle.cw_cpu86.specs.declared.cpu.RunEnd.TheVariants as ends
use Rattle.cw_cpu86.proofs.Told.{follows_more}
use Rattle.cw_write.specs.Said.{Writes}
use Rattle.cw_write.proofs.Said.{after_told-append}
use Rattle.cw_trace.specs.Reports.{Reports, told_at}
use Rattle.cw_trace.specs.Answers.{Tells, WatchAnswers}
use Rattle.cw_trace.specs.declared.watch.Watch.{Watch}
use Rattle.cw_trace.specs.declared.watch.WatchEnd.TheVariants.{Run, SayFault}

-- ---- a run that goes on

-- what is told in n instructions of a run which comes so far
abbrev pub Told : Watch → State → List Event → (n : ℕ) → List ℕ → Type 0
Told watch s events zero text = text ≡ []
Told watch s events (suc n) text =
    (before : List ℕ) × Told watch s events n before
    × ((t : State) × (said rest : List Event) × Runs n s said t × (events ≡ said ++ rest) × (text ≡ before ++ told_at watch t))

told_longer : (watch : Watch) (s : State) (events more : List Event) (n : ℕ) (text : List ℕ) → Told watch s events n text → Told watch s (events ++ more) n text
told_longer watch s events more zero text is = is
told_longer watch s events more (suc n) text (before, told, (t, said, rest, runs, is, ends)) =
    (before, told_longer watch s events more n before told, (t, said, rest ++ more, runs, ap (λ xs. xs ++ more) is ∙ append_assoc said rest more, ends))

pub reports_told : (watch : Watch) (s : State) (events : List Event) (n : ℕ) (text : List ℕ) → Told watch s events n text → Reports watch s events n text
reports_told watch s events zero text is = is
reports_told watch s events (suc n) text (before, told, (t, said, rest, runs, is, ends)) =
    (before, reports_told watch s events n before told, inl (t, said, rest, runs, is, ends))

-- so many steps that go on, and all that is told in them was written
pub record Going (watch : Watch) (n : ℕ) (s : State) (d : Device) (s' : State) (d' : Device) (held held' : Option (List ℕ)) : Type 0 where
  pub went : Went n s d s' d'
  pub text : List ℕ
  pub told : Told watch s went.events n text
  pub said : held' ≡ after_told held text

more_said : (held now next : Option (List ℕ)) (text more : List ℕ) → now ≡ after_told held text → next ≡ after_told now more → next ≡ after_told held (text ++ more)
more_said held now next text more is also = also ∙ ap (λ told. after_told told more) is ∙ after_told-append held text more

-- one step more, before which all was written that is told there
pub going_on : (watch : Watch) (n : ℕ) (s : State) (d : Device) (t : State) (e : Device) (u : State) (f : Device) (held now next : Option (List ℕ))
    → Going watch n s d t e held now → next ≡ after_told now (told_at watch t) → StepAnswers Ran t e u f → Going watch (n + 1) s d u f held next
going_on watch n s d t e u f held now next going also (event, steps, answers) =
    let next_is : suc n ≡ n + 1 = omega arith in
    let events = going.went.events ++ event ∷ [] in
    record {
      went = record {
        events = events;
        runs = subst (λ m. Runs m s events u) next_is (t, going.went.events, event, going.went.runs, steps, refl);
        follows = follows_more going.went.events event d e f going.went.follows answers;
      };
      text = going.text ++ told_at watch t;
      told = subst (λ m. Told watch s events m (going.text ++ told_at watch t)) next_is
          (going.text, told_longer watch s going.went.events (event ∷ []) n going.text going.told, (t, going.went.events, event ∷ [], going.went.runs, refl, refl));
      said = more_said held now next going.text (told_at watch t) going.said also;
    }

-- ---- ends

-- with what is told before an instruction that was tried
tried : (watch : Watch) (n : ℕ) (s : State) (d : Device) (t : State) (e : Device) (held now : Option (List ℕ)) (going : Going watch n s d t e held now)
    → Reports watch s going.went.events (suc n) (going.text ++ told_at watch t)
tried watch n s d t e held now going =
    (going.text, reports_told watch s going.went.events n going.text going.told, inl (t, going.went.events, [], going.went.runs, sym (append-nil going.went.events), refl))

-- behind the end of a run nothing is told
rests : (watch : Watch) (s : State) (events : List Event) (end : End) (n limit : ℕ) (text : List ℕ) → n ≤ limit → ((k : ℕ) → n ≤ k → IsOver s k events end)
    → Reports watch s events n text → Reports watch s events limit text
rests watch s events end n zero text within over reports = subst (λ m. Reports watch s events m text) {y = zero} (omega (arith, within)) reports
rests watch s events end n (suc limit) text within over reports = elim (cases_lt limit n) [
  | inl less ↦ subst (λ m. Reports watch s events m text) {y = suc limit} (omega (arith, within, less)) reports
  | inr more ↦ (text, rests watch s events end n limit text more over reports, inr (end, over limit more, refl))
]

-- the machine is over at this state
abbrev pub Over : State → List Event → End → Type 0
Over t events end =
    ((u : State) × Steps t (Halts u) × (end ≡ end_after events))
    ⊎ (Steps t Undefined × (end ≡ Bad t.instruction_pointer))
    ⊎ (Steps t Divides × (end ≡ Divided t.instruction_pointer))

pub ended : (watch : Watch) (n limit : ℕ) (s : State) (d : Device) (t : State) (e : Device) (held now next : Option (List ℕ)) (end : End)
    → (going : Going watch n s d t e held now) → next ≡ after_told now (told_at watch t) → n < limit → Over t going.went.events end
    → Tells watch s going.went.events limit held next
ended watch n limit s d t e held now next end going also less over = (
  going.text ++ told_at watch t,
  rests watch s going.went.events end (suc n) limit (going.text ++ told_at watch t) less (λ k more. (n, t, more, going.went.runs, over)) (tried watch n s d t e held now going),
  more_said held now next going.text (told_at watch t) going.said also,
)

-- ---- answers

pub comes_to_limit : (watch : Watch) (n limit : ℕ) (s : State) (d : Device) (t : State) (e : Device) (held now : Option (List ℕ))
    → Going watch n s d t e held now → n ≡ limit → WatchAnswers watch (Run ends.Limit) limit s d t e held now
comes_to_limit watch n limit s d t e held now so_far is =
    let going = subst (λ m. Going watch m s d t e held now) is so_far in
    (going.went, (going.text, reports_told watch s going.went.events limit going.text going.told, going.said))

pub halts : (watch : Watch) (n limit : ℕ) (s : State) (d : Device) (t : State) (e : Device) (u : State) (f : Device) (held now next : Option (List ℕ))
    → Going watch n s d t e held now → next ≡ after_told now (told_at watch t) → n < limit → Steps t (Halts u) → f ≡ e
    → WatchAnswers watch (Run (ends.Halted (n + 1))) limit s d u f held next
halts watch n limit s d t e u f held now next so_far also less steps same =
    let going = subst (λ x. Going watch n s d t x held now) (sym same) so_far in
    let before : n ≡ n + 1 - 1 = omega arith in
    let went : Went (n + 1 - 1) s d t f =
    record { events = going.went.events; runs = subst (λ m. Runs m s going.went.events t) before going.went.runs; follows = going.went.follows } in
    ((omega arith, omega (arith, less), (t, went, steps)), ended watch n limit s d t f held now next (end_after going.went.events) going also less (inl (u, steps, refl)))

-- an instruction that does not run, as there is none or its quotient faults
pub stops : (watch : Watch) (n limit offset : ℕ) (s : State) (d : Device) (t : State) (e : Device) (u : State) (f : Device) (held now next : Option (List ℕ)) (cause : Outcome) (end : End)
    → Going watch n s d t e held now → next ≡ after_told now (told_at watch t) → n < limit → Steps t cause → offset ≡ t.instruction_pointer → u ≡ t → f ≡ e → ((events : List Event) → Over t events end)
    → (answer : (n < limit) × Went n s d u f × Steps u cause × (offset ≡ u.instruction_pointer)) × Tells watch s answer.1.events limit held next
stops watch n limit offset s d t e u f held now next cause end so_far also less steps is same same_ports over =
    subst (λ x. (answer : (n < limit) × Went n s d x f × Steps x cause × (offset ≡ x.instruction_pointer)) × Tells watch s answer.1.events limit held next) (sym same)
    (let going = subst (λ x. Going watch n s d t x held now) (sym same_ports) so_far in
    ((less, going.went, steps, is), ended watch n limit s d t f held now next end going also less (over going.went.events)))

pub port_fails : (watch : Watch) (n limit : ℕ) (s : State) (d : Device) (t : State) (e : Device) (u : State) (f : Device) (held now next : Option (List ℕ))
    → Going watch n s d t e held now → next ≡ after_told now (told_at watch t) → n < limit → PortFails t e f → u ≡ t
    → WatchAnswers watch (Run (ends.PortFault n)) limit s d u f held next
port_fails watch n limit s d t e u f held now next going also less fails same =
    let next_is : suc n ≡ n + 1 = omega arith in
    subst (λ x. WatchAnswers watch (Run (ends.PortFault n)) limit s d x f held next) (sym same) (
      (less, (e, going.went, fails)),
      (
        going.text ++ told_at watch t,
        subst (λ m. Reports watch s going.went.events m (going.text ++ told_at watch t)) next_is (tried watch n s d t e held now going),
        more_said held now next going.text (told_at watch t) going.said also,
      ),
    )

pub say_fails : (watch : Watch) (n limit : ℕ) (s : State) (d : Device) (t : State) (e : Device) (held now next : Option (List ℕ)) (faults faults' : ℕ) (failed : Failed)
    → Going watch n s d t e held now → n < limit → Writes {E = Failed} now next faults faults' (told_at watch t) (Err failed)
    → WatchAnswers watch SayFault limit s d t e held next
say_fails watch n limit s d t e held now next faults faults' failed going less writes = (
  n,
  less,
  (
    going.went,
    (
      going.text,
      reports_told watch s going.went.events n going.text going.told,
      (writes.cut.0, writes.cut.1, more_said held now next going.text (take writes.cut.0 (told_at watch t)) going.said writes.cut.2),
    ),
  ),
)
