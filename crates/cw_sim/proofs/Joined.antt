-- The two halves, one on the other, and the bound in steps.
use Rattle.std.proofs.Common.{◌≡◌, ℕ, zero, suc, ◌+◌, ◌*◌, ◌≤◌, false, List, [], ◌++◌, append_assoc, refl, sym, ap, ◌∙◌, subst, inl, inr, ⊎_elim, arith}
use Rattle.std.proofs.lemmas.List.{append-nil}
use Rattle.cw_track.specs.Machine.{Machine, state_after, shown_after}
use Rattle.cw_track.specs.Watching.{watched}
use Rattle.cw_track.specs.Tracking.{Tracks, TracksAfter, KeepsPace}
use Rattle.cw_track.proofs.Composition.{tracks_through}
use Rattle.cw_track.proofs.Watching.{shown_unwatched}
use Rattle.cw_track.proofs.Budgets.{keeps_budget}
use Rattle.cw_i86.specs.State.{State}
use Rattle.cw_i86.specs.MachineRun as run
use Rattle.cw_unit.specs.declared.unit.Unit.{Unit as SourceUnit}
use Rattle.cw_unit.specs.declared.layout.Limits.{Limits}
use Rattle.cw_unit.specs.declared.layout.Map.{Map}
use Rattle.cw_unit.specs.Program.{Program, program_at}
use Rattle.cw_unit.specs.InitialMemory.{initial_memory}
use Rattle.cw_unit.specs.Configuration.{Configuration}
use Rattle.cw_unit.specs.Step.{step, steps}
use Rattle.cw_unit.specs.Begun.{Begun, begins, begun_from}
use Rattle.cw_unit.specs.Behaviour.{Observation, shown, is_running, initial_configuration, observed as meant}
use Rattle.cw_order.specs.OrderProgram.{OrderProgram}
use Rattle.cw_order.specs.OrderMachine.{order_machine}
use Rattle.cw_order.specs.Starting.{starts}
use Rattle.cw_gen_unit.specs.ReferenceUnits.{meaning, orders_program, first_order}
use Rattle.cw_image.specs.Begun.{Begins}
use Rattle.cw_follow.specs.Passing.{passes, statement_places}
use Rattle.cw_follow.specs.Showing.{shown_as}
use Rattle.cw_follow.specs.Placing.{NeverStuck, startup_cost}
use Rattle.cw_run86.specs.Processor.{Processor, processor_machine, processor_start, processor_after, processor_step, observed}
use Rattle.cw_sim.specs.Preservation.{ShowsAs, Preserves, Completes, IsLoaded}
use Rattle.cw_sim.specs.Statements.{BeginsStatements}
use Rattle.cw_sim.proofs.Given.{Given}
use Rattle.cw_sim.proofs.Ends.{shows_as}

-- the machines go the steps of the definitions
steps_are : (p : Program) (n : ℕ) (c : Configuration) → state_after (meaning p) n c ≡ steps p n c
steps_are p zero c = refl
steps_are p (suc n) c = steps_are p n _

instructions_are : (n : ℕ) (q : Processor) → state_after (processor_machine shown_as) n q ≡ processor_after n q
instructions_are zero q = refl
instructions_are (suc n) q = instructions_are n (processor_step q)

-- what is noted of the source is what it begins
noted_is : (p : Program) (n : ℕ) (c : Configuration) (es : List Begun) → (shown_after (watched (meaning p) begins) n (c, es)).1 ≡ es ++ begun_from p n c
noted_is p zero c es = sym (append-nil es)
noted_is p (suc n) c es = noted_is p n (step p c) (es ++ begins c) ∙ append_assoc es (begins c) (begun_from p n (step p c))

module _ (given : Given) (us : List SourceUnit) (m : Map) (limits : Limits) (input : List ℕ) (s : State) (loaded : IsLoaded us m limits input s) where
  abbrev p : Program
  p = program_at us m limits

  abbrev q : OrderProgram
  q = orders_program us m limits loaded.room

  means : (n : ℕ) → shown_after (meaning p) n (initial_configuration p input) ≡ meant p input n
  means n = ap shown (steps_are p n (initial_configuration p input))

  abbrev A : Machine (Observation × List Begun)
  A = watched (meaning p) begins

  abbrev B : Machine (Observation × List Begun)
  B = watched (order_machine q) (starts q)

  abbrev C : Machine (Observation × List Begun)
  C = watched (processor_machine shown_as) (passes (statement_places q) limits.area)

  abbrev first : Processor
  first = processor_start s input

  upper : Tracks (λ o. is_running o.0) A (initial_configuration p input, []) B (first_order us m limits loaded.room input, [])
  upper = given.upper us m limits loaded.room input loaded.well_formed loaded.built loaded.suits loaded.bytes

  -- what the source shows after so many steps, and what the processor shows after so many instructions
  shown_source : (n : ℕ) → (shown_after A n (initial_configuration p input, [])).0 ≡ meant p input n
  shown_source n = shown_unwatched (meaning p) begins n (initial_configuration p input) [] ∙ means n

  shown_image : (k : ℕ) → (shown_after C k (first, [])).0 ≡ shown_as (observed (processor_after k first))
  shown_image k = shown_unwatched (processor_machine shown_as) (passes (statement_places q) limits.area) k first [] ∙ ap (λ x. shown_as (observed x)) (instructions_are k first)

  orders_never_stuck : NeverStuck q (initial_memory us m limits.area) input
  orders_never_stuck k e =
      let a = upper.shows_only k in
      let same = sym (shown_unwatched (order_machine q) (starts q) k (first_order us m limits loaded.room input) []) ∙ ap (λ x. x.0) a.1 ∙ shown_source a.0 in
      given.sound p input a.0 loaded.well_formed (ap (λ x. x.end) (sym same) ∙ e)

  lower : TracksAfter (λ o. is_running o.0) startup_cost B (first_order us m limits loaded.room input, []) C (first, [])
  lower =
      given.lower q loaded.image loaded.words (initial_memory us m limits.area) input s (statement_places q) loaded.is_image
      (given.places q loaded.image loaded.is_image loaded.codable) loaded.codable loaded.begins orders_never_stuck loaded.starts loaded.bytes

  whole : TracksAfter (λ o. is_running o.0) startup_cost A (initial_configuration p input, []) C (first, [])
  whole = tracks_through (λ o. is_running o.0) A B C 0 startup_cost startup_cost _ _ _ refl upper lower

  pace : KeepsPace (λ o. is_running o.0) 256 A (initial_configuration p input, []) C (first, [])
  pace = keeps_budget (λ o. is_running o.0) A C startup_cost (let l : startup_cost ≤ 32 = omega arith in l) (λ c. let l : 224 ≤ 224 = omega arith in l) (λ c. let l : 1 ≤ 1 = omega arith in l) _ _ whole

  shows_then : (k n : ℕ) → shown_after C k (first, []) ≡ shown_after A n (initial_configuration p input, []) → ShowsAs (observed (processor_after k first)) (meant p input n)
  shows_then k n e = shows_as _ _ (sym (shown_image k) ∙ (ap (λ x. x.0) e ∙ shown_source n)) (given.sound p input n loaded.well_formed)

  -- what is preserved, and that all is the same that an observer sees and has noted
  found : (k : ℕ) (o : run.Observed) → run.Shows s input k o → (r : Preserves p input k o) × (shown_after C k (first, []) ≡ shown_after A r.steps (initial_configuration p input, []))
  found k o shows =
      let a = pace.shows_only k in
      let same : observed (processor_after k first) ≡ o = given.once s input k _ _ (given.runs s input k loaded.bytes) shows in (
        record {
          steps = a.0;
          shows = subst (λ x. ShowsAs x (meant p input a.0)) same (shows_then k a.0 a.1);
          pace = ⊎_elim
              (λ (l : k ≤ 256 * (a.0 + 1)). inl l)
              (λ (off : is_running (shown_after C k (first, [])).0 ≡ false). inr (ap is_running (sym (ap (λ x. x.0) a.1 ∙ shown_source a.0)) ∙ off))
              a.2;
        },
        a.1,
      )

  pub preserves : (k : ℕ) (o : run.Observed) → run.Shows s input k o → Preserves p input k o
  preserves k o shows = (found k o shows).0

  pub begins_statements : (k : ℕ) (o : run.Observed) (started : List Begun) → run.Shows s input k o → Begins (statement_places q) limits.area s input k started → BeginsStatements p input k o started
  begins_statements k o started shows begun =
      let f = found k o shows in
      record { preserved = f.0; same = given.began (statement_places q) limits.area s input k started loaded.bytes begun ∙ ap (λ x. x.1) f.1 ∙ noted_is p f.0.steps (initial_configuration p input) [] }

  pub completes : (n : ℕ) → Completes p input n s
  completes n =
      let a = pace.shows_all n in
      record { k = a.0; shown = observed (processor_after a.0 first); shows_at = given.runs s input a.0 loaded.bytes; shows = shows_then a.0 n a.1; pace = a.2 }
