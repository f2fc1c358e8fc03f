-- After each number of steps the machine is where a run of the 8086 is.
use Rattle.std.proofs.Common.{◌≡◌, ℕ, zero, suc, ◌+◌, ◌*◌, ◌<◌, List, [], ◌∷◌, ◌++◌, length, drop, refl, sym, ap, subst, ◌∙◌, inl, inr, arith, true, false, Bool}
use Rattle.std.proofs.lemmas.List.{append-nil}
use Rattle.std.proofs.lemmas.List.Elements.{All-drop, All-get_or}
use Rattle.std.specs.Prelude.{◌⊎◌, ◌==◌, if◌then◌else◌, slice_index, All, Option, Some, None}
use Rattle.cw_i86.specs.State.{State, byte_register}
use Rattle.cw_i86.specs.Effect.{executed}
use Rattle.cw_i86.specs.MachineRun as machine
use Rattle.cw_i86.specs.MachineRun.{Event, Silent, Takes, Gives, Outcome, GoesOn, Halts, Divides, Undefined, Stands, NothingStands, Does, Steps, Runs, taken, left_after, left_behind, FitsInput, written, End, Running, Ended, Stopped, Bad, Divided, end_told, end_after, IsAtWork, IsOver, Observed, Shows}
use Rattle.cw_i86.specs.declared.instr.Instr.{Instr}
use Rattle.cw_i86.specs.declared.instr.Instr.TheVariants.{In, Out, Hlt}
use Rattle.cw_run86.specs.Fetching.{instruction_at}
use Rattle.cw_run86.specs.Reaching.{IsReached}
use Rattle.cw_run86.specs.Processor.{Processor, Told, behind, does, fetched, completed, step_at, processor_step, processor_after, processor_start, observed}
use Rattle.cw_run86.proofs.Tests.{Finds, Only}
use Rattle.cw_run86.proofs.Told.{told_by, after_event, told_more, left_behind-more, fits_more}

-- ---- bytes of the input

abbrev Bytes : List ℕ → Type 0
Bytes input = All (λ b. b < 256) input

bytes_left : (port : ℕ) (input : List ℕ) → Bytes input → Bytes (left_after port input)
bytes_left port input bytes =
    let drops : (test : Bool) → Bytes (if test then drop 1 input else input) =
    elim [ true ↦ All-drop (λ b. b < 256) 1 input bytes | false ↦ bytes ] in
    drops (port == 0x10)

first_byte : (input : List ℕ) → Bytes input → slice_index input 0 < 256
first_byte [] bytes = omega arith
first_byte (b ∷ input) bytes = All-get_or (λ b. b < 256) (b ∷ input) 0 0 (omega arith) bytes

byte_taken : (port : ℕ) (input : List ℕ) → Bytes input → taken port input < 256
byte_taken port input bytes =
    let told : (test : Bool) → (if test then 1 else 0) < 256 = elim [ true ↦ omega arith | false ↦ omega arith ] in
    let other : (test : Bool) → (if test then (if length input == 0 then 1 else 0) else 0) < 256 = elim [ true ↦ told (length input == 0) | false ↦ omega arith ] in
    let gives : (test : Bool) → (if test then slice_index input 0 else if port == 0x11 then (if length input == 0 then 1 else 0) else 0) < 256 =
    elim [ true ↦ first_byte input bytes | false ↦ other (port == 0x11) ] in
    gives (port == 0x10)

-- ---- what an instruction does

-- But for IN, OUT and HLT, an instruction does what its effect says.
record IsPlain (i : Instr) (p : Processor) : Type 0 where
  same : does i p ≡ completed (executed i (behind i p.state)) p
  steps : (o : Outcome) → o ≡ machine.completed (executed i (behind i p.state)) → Does i (behind i p.state) o

sort_of : (i : Instr) (p : Processor) → ((port : ℕ) × (i ≡ In port)) ⊎ ((port : ℕ) × (i ≡ Out port)) ⊎ (i ≡ Hlt) ⊎ IsPlain i p
sort_of (In port) p = inl (port, refl)
sort_of (Out port) p = inr (inl (port, refl))
sort_of Hlt p = inr (inr (inl refl))
sort_of i p = inr (inr (inr (record { same = refl; steps = λ o e. e })))

-- ---- the run so far

-- at work after so many steps
record Going (s : State) (input : List ℕ) (n : ℕ) (p : Processor) : Type 0 where
  events : List Event
  runs : Runs n s events p.state
  fits : FitsInput input events
  left : p.input ≡ left_behind events input
  bytes : Bytes p.input
  told : p.told ≡ told_by events
  at_work : p.end ≡ Running

-- over
record Over (s : State) (input : List ℕ) (n : ℕ) (p : Processor) : Type 0 where
  events : List Event
  fits : FitsInput input events
  output : p.told.output ≡ written events
  over : IsOver s n events p.end
  rests : processor_step p ≡ p

abbrev After : State → List ℕ → ℕ → Processor → Type 0
After s input n p = Going s input n p ⊎ Over s input n p

at_start : (s : State) (input : List ℕ) → Bytes input → Going s input 0 (processor_start s input)
unfolding told_by
at_start s input bytes = record { events = []; runs = (refl, refl); fits = tt; left = refl; bytes = bytes; told = refl; at_work = refl }

-- one event more
goes_on : (s : State) (input : List ℕ) (n : ℕ) (p q : Processor) (e : Event) → (g : Going s input n p) → Steps p.state (GoesOn q.state e) → FitsInput p.input (e ∷ [])
    → q.input ≡ left_behind (e ∷ []) p.input → Bytes q.input → q.told ≡ after_event e p.told → q.end ≡ Running → Going s input (suc n) q
goes_on s input n p q e g steps fits left bytes told at_work = record {
  events = g.events ++ e ∷ [];
  runs = (p.state, g.events, e, g.runs, steps, refl);
  fits = fits_more g.events e input g.fits (subst (λ x. FitsInput x (e ∷ [])) g.left fits);
  left = left ∙ ap (left_behind (e ∷ [])) g.left ∙ sym (left_behind-more g.events e input);
  bytes = bytes;
  told = told ∙ ap (after_event e) g.told ∙ sym (told_more g.events e);
  at_work = at_work;
}

-- the step is the last
abbrev Last : State → List Event → End → Type 0
Last t events end =
    ((u : State) × Steps t (Halts u) × (end ≡ end_after events))
    ⊎ (Steps t Undefined × (end ≡ Bad t.instruction_pointer))
    ⊎ (Steps t Divides × (end ≡ Divided t.instruction_pointer))

ends : (s : State) (input : List ℕ) (n : ℕ) (p q : Processor) → (g : Going s input n p) → q.told ≡ p.told → Last p.state g.events q.end → processor_step q ≡ q → Over s input (suc n) q
unfolding told_by
ends s input n p q g told last rests = record {
  events = g.events;
  fits = g.fits;
  output = ap (λ t. t.output) (told ∙ g.told);
  over = (n, p.state, omega arith, g.runs, last);
  rests = rests;
}

step_of : (s : State) (i : Instr) (o : Outcome) → Stands s i → Does i (behind i s) o → Steps s o
step_of s i o stands does = inl (i, stands, does)

-- nothing said to the ports
told_silent : (t : Told) → t ≡ after_event Silent t
told_silent t = rw append-nil refl

completes : (s : State) (input : List ℕ) (n : ℕ) (p : Processor) (i : Instr) (o : Option State) → Going s input n p → Stands p.state i → executed i (behind i p.state) ≡ o
    → ((o : Outcome) → o ≡ machine.completed (executed i (behind i p.state)) → Does i (behind i p.state) o) → After s input (suc n) (completed o p)
completes s input n p i (Some t) g stands e does =
    let steps : Steps p.state (GoesOn t Silent) = step_of p.state i _ stands (does _ (ap machine.completed (sym e))) in
    inl (goes_on s input n p (completed (Some t) p) Silent g steps tt refl g.bytes (told_silent p.told) g.at_work)
completes s input n p i None g stands e does =
    let steps : Steps p.state Divides = step_of p.state i _ stands (does _ (ap machine.completed (sym e))) in
    inr (ends s input n p (completed None p) g refl (inr (inr (steps, refl))) refl)

pub resting : (kind segment line : ℕ) (p : Processor) → p.end ≡ end_told kind segment line → processor_step p ≡ p
resting kind segment line p e =
    let stays : (test : Bool) → step_at (if test then Ended else Stopped kind segment line) p ≡ p = elim [ true ↦ refl | false ↦ refl ] in
    ap (λ end. step_at end p) e ∙ stays (kind == 0)

one_does : (s : State) (input : List ℕ) (n : ℕ) (p : Processor) (i : Instr) → Going s input n p → Stands p.state i → After s input (suc n) (does i p)
unfolding told_by
one_does s input n p i g stands = elim (sort_of i p) [
  | inl (port, is) ↦
      let there : Stands p.state (In port) = subst (Stands p.state) is stands in
      let steps : Steps p.state (GoesOn (does (In port) p).state (Takes port (taken port p.input))) = step_of p.state (In port) _ there (taken port p.input, byte_taken port p.input g.bytes, refl) in
      let made : Going s input (suc n) (does (In port) p) =
      goes_on s input n p (does (In port) p) (Takes port (taken port p.input)) g steps (refl, tt) refl (bytes_left port p.input g.bytes) (rw append-nil refl) g.at_work in
      inl (subst (λ j. Going s input (suc n) (does j p)) (sym is) made)
  | inr (inl (port, is)) ↦
      let there : Stands p.state (Out port) = subst (Stands p.state) is stands in
      let value = byte_register (behind (Out port) p.state) 0 in
      let steps : Steps p.state (GoesOn (does (Out port) p).state (Gives port value)) = step_of p.state (Out port) _ there refl in
      let made : Going s input (suc n) (does (Out port) p) = goes_on s input n p (does (Out port) p) (Gives port value) g steps tt refl g.bytes refl g.at_work in
      inl (subst (λ j. Going s input (suc n) (does j p)) (sym is) made)
  | inr (inr (inl is)) ↦
      let there : Stands p.state Hlt = subst (Stands p.state) is stands in
      let steps : Steps p.state (Halts (behind Hlt p.state)) = step_of p.state Hlt _ there refl in
      let end : (does Hlt p).end ≡ end_after g.events = ap (λ t. end_told t.kind t.segment (t.line_low + 256 * t.line_high)) g.told in
      let made : Over s input (suc n) (does Hlt p) =
      ends s input n p (does Hlt p) g refl (inl (behind Hlt p.state, steps, end)) (resting p.told.kind p.told.segment (p.told.line_low + 256 * p.told.line_high) (does Hlt p) refl) in
      inr (subst (λ j. Over s input (suc n) (does j p)) (sym is) made)
  | inr (inr (inr plain)) ↦
      subst (After s input (suc n)) (sym plain.same) (completes s input n p i (executed i (behind i p.state)) g stands refl plain.steps)
]

-- ---- the runs

fetches : Finds → Only → (s : State) (input : List ℕ) (n : ℕ) (p : Processor) (o : Option Instr) → instruction_at p.state ≡ o → Going s input n p → After s input (suc n) (fetched o p)
fetches finds only s input n p (Some i) e g = one_does s input n p i g (only p.state i e)
fetches finds only s input n p None e g =
    let nothing : NothingStands p.state = λ i stands. let found = finds p.state i stands in cc in
    inr (ends s input n p (fetched None p) g refl (inr (inl (inr (nothing, refl), refl))) refl)

one_more : Finds → Only → (s : State) (input : List ℕ) (n : ℕ) (p : Processor) → After s input n p → After s input (suc n) (processor_step p)
one_more finds only s input n p (inl g) =
    let step : processor_step p ≡ fetched (instruction_at p.state) p = ap (λ end. step_at end p) g.at_work in
    subst (After s input (suc n)) (sym step) (fetches finds only s input n p (instruction_at p.state) refl g)
one_more finds only s input n p (inr over) =
    let (k, t, less, runs, last) = over.over in
    let later : Over s input (suc n) p = record { events = over.events; fits = over.fits; output = over.output; over = (k, t, omega arith, runs, last); rests = over.rests } in
    inr (subst (Over s input (suc n)) (sym over.rests) later)

after-suc : (n : ℕ) (p : Processor) → processor_after (suc n) p ≡ processor_step (processor_after n p)
after-suc zero p = refl
after-suc (suc n) p = after-suc n (processor_step p)

runs_so : Finds → Only → (s : State) (input : List ℕ) (n : ℕ) → Bytes input → After s input n (processor_after n (processor_start s input))
runs_so finds only s input zero bytes = inl (at_start s input bytes)
runs_so finds only s input (suc n) bytes =
    let p = processor_after n (processor_start s input) in
    subst (After s input (suc n)) (sym (after-suc n (processor_start s input))) (one_more finds only s input n p (runs_so finds only s input n bytes))

shown_after : (s : State) (input : List ℕ) (n : ℕ) (p : Processor) → After s input n p → Shows s input n (observed p)
unfolding told_by
shown_after s input n p (inl g) = record { events = g.events; fits = g.fits; output = ap (λ t. t.output) g.told; end = inl (p.state, g.runs, g.at_work) }
shown_after s input n p (inr over) = record { events = over.events; fits = over.fits; output = over.output; end = inr over.over }

pub shows : Finds → Only → (s : State) (input : List ℕ) (n : ℕ) → Bytes input → Shows s input n (observed (processor_after n (processor_start s input)))
shows finds only s input n bytes = shown_after s input n _ (runs_so finds only s input n bytes)

reached : (s : State) (input : List ℕ) (n : ℕ) (p : Processor) → After s input n p → IsReached s input n p
reached s input n p (inl g) = record { events = g.events; fits = g.fits; is = inl (g.runs, g.at_work) }
reached s input n p (inr over) = record { events = over.events; fits = over.fits; is = inr over.over }

pub reaches : Finds → Only → (s : State) (input : List ℕ) (n : ℕ) → Bytes input → IsReached s input n (processor_after n (processor_start s input))
reaches finds only s input n bytes = reached s input n _ (runs_so finds only s input n bytes)
