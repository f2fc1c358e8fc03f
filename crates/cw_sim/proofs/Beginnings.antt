-- The statements that a run begins are those that the processor passes.
use Rattle.std.proofs.Common.{◌≡◌, ◌⊎◌, ℕ, zero, suc, ◌+◌, ◌<◌, List, [], ◌++◌, refl, sym, ap, ap₂, ◌∙◌, inl, inr}
use Rattle.std.proofs.lemmas.List.{append-nil}
use Rattle.std.specs.Prelude.{ℤ, All}
use Rattle.cw_track.specs.Machine.{Machine, state_after}
use Rattle.cw_track.specs.Watching.{watched, noted_before}
use Rattle.cw_cpu86.proofs.Ends.{has_ended}
use Rattle.cw_i86.specs.Encoding.{IsInstr, BeginsWith}
use Rattle.cw_i86.specs.State.{State}
use Rattle.cw_i86.specs.MachineRun.{Event, Runs, FitsInput, written, End, Running, IsAtWork, IsOver, Observed, Shows}
use Rattle.cw_i86.specs.declared.instr.Instr.{Instr}
use Rattle.cw_cpu86.proofs.Once.{runs_same}
use Rattle.cw_run86.specs.Processor.{Processor, processor_machine, processor_start, processor_step, processor_after, observed}
use Rattle.cw_run86.specs.Reaching.{IsReached}
use Rattle.cw_image.specs.Begun.{StatementPlace, beginning, Begins}
use Rattle.cw_follow.specs.Showing.{shown_as}
use Rattle.cw_follow.specs.Passing.{at_work, passes}

-- what is known of the runs of the 8086, and of the processor
pub record RunLaws : Type 0 where
  pub one : (bytes : List ℕ) (i j : Instr) → IsInstr i → IsInstr j → BeginsWith bytes i → BeginsWith bytes j → i ≡ j
  pub once : (s : State) (input : List ℕ) (n : ℕ) (a b : Observed) → Shows s input n a → Shows s input n b → a ≡ b
  pub runs : (s : State) (input : List ℕ) (n : ℕ) → All (λ b. b < 256) input → Shows s input n (observed (processor_after n (processor_start s input)))
  pub reached : (s : State) (input : List ℕ) (n : ℕ) → All (λ b. b < 256) input → IsReached s input n (processor_after n (processor_start s input))

-- ---- a machine that is watched, one step further

state_after-suc : {O : Type 0} (M : Machine O) (n : ℕ) (s : M.State) → state_after M (suc n) s ≡ M.step (state_after M n s)
state_after-suc M zero s = refl
state_after-suc M (suc n) s = state_after-suc M n (M.step s)

-- ---- ends

-- then nothing begins
rests : (end : End) (begun : List (ℕ × ℕ × List ℤ)) → (end ≡ Running → ⊥) → at_work end begun ≡ []
rests Running begun over = absurd (over refl)
rests _ begun over = refl

module _ (laws : RunLaws) (places : List StatementPlace) (area : ℕ) (s : State) (input : List ℕ) (bytes : All (λ b. b < 256) input) where
  abbrev notes : Processor → List (ℕ × ℕ × List ℤ)
  notes = passes places area

  -- the processor after so many instructions, and what it has passed before
  abbrev after : ℕ → Processor
  after n = processor_after n (processor_start s input)

  abbrev passed : ℕ → List (ℕ × ℕ × List ℤ)
  passed n = noted_before (processor_machine shown_as) notes n (processor_start s input)

  state_is : (n : ℕ) (p : Processor) (begun : List (ℕ × ℕ × List ℤ)) → (state_after (watched (processor_machine shown_as) notes) n (p, begun)).0 ≡ processor_after n p
  state_is zero p begun = refl
  state_is (suc n) p begun = state_is n (processor_step p) (begun ++ notes p)

  passed-suc : (n : ℕ) → passed (suc n) ≡ passed n ++ notes (after n)
  passed-suc n =
      ap (λ w. w.1) (state_after-suc (watched (processor_machine shown_as) notes) n (processor_start s input, []))
      ∙ ap (λ p. passed n ++ notes p) (state_is n (processor_start s input) [])

  -- the end of a run is that of the processor
  end_is : (n : ℕ) (events : List Event) (end : End) → FitsInput input events → IsAtWork s n events end ⊎ IsOver s n events end → end ≡ (after n).end
  end_is n events end fits how =
      let shown : Observed = record { output = written events; end = end } in
      let shows : Shows s input n shown = record { events = events; fits = fits; output = refl; end = how } in
      ap (λ o. o.end) (laws.once s input n shown (observed (after n)) shows (laws.runs s input n bytes))

  -- a run leads to the state of the processor, which is at work
  leads_there : (n : ℕ) (events : List Event) (t : State) → FitsInput input events → Runs n s events t → (t ≡ (after n).state) × ((after n).end ≡ Running)
  leads_there n events t fits runs =
      let on : (after n).end ≡ Running = sym (end_is n events Running fits (inl (t, runs, refl))) in
      let r = laws.reached s input n bytes in
      elim r.is [
        | inl (also, also_on) ↦ ((runs_same laws.one n s input events r.events t (after n).state runs also fits r.fits).1, on)
        | inr over ↦ absurd (has_ended s n r.events (after n).end over on)
      ]

  pub begins_are : (n : ℕ) (begun : List (ℕ × ℕ × List ℤ)) → Begins places area s input n begun → begun ≡ passed n
  begins_are zero begun is = is
  begins_are (suc n) begun (before, events, earlier, fits, inl (t, runs, is)) =
      let there = leads_there n events t fits runs in
      let same : beginning places area t ≡ notes (after n) = ap (beginning places area) there.0 ∙ sym (ap (λ end. at_work end (beginning places area (after n).state)) there.1) in
      is ∙ ap₂ (λ x y. x ++ y) (begins_are n before earlier) same ∙ sym (passed-suc n)
  begins_are (suc n) begun (before, events, earlier, fits, inr (end, over, is)) =
      let ended : (after n).end ≡ Running → ⊥ = λ on. has_ended s n events end over (end_is n events end fits (inr over) ∙ on) in
      is ∙ begins_are n before earlier ∙ sym (append-nil (passed n)) ∙ ap (λ x. passed n ++ x) (sym (rests (after n).end (beginning places area (after n).state) ended)) ∙ sym (passed-suc n)

  pub begins_some : (n : ℕ) → (begun : List (ℕ × ℕ × List ℤ)) × Begins places area s input n begun
  begins_some zero = ([], refl)
  begins_some (suc n) =
      let (before, earlier) = begins_some n in
      let shows = laws.runs s input n bytes in
      elim shows.end [
        | inl (t, runs, on) ↦ (before ++ beginning places area t, (before, shows.events, earlier, shows.fits, inl (t, runs, refl)))
        | inr over ↦ (before, (before, shows.events, earlier, shows.fits, inr ((after n).end, over, refl)))
      ]
