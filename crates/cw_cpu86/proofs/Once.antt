-- A step has one outcome, and so a run shows one thing.
use Rattle.std.proofs.Common.{◌≡◌, ℕ, zero, suc, ◌<◌, List, [], ◌∷◌, ◌++◌, length, refl, sym, ap, subst, ◌∙◌, inl, inr, arith}
use Rattle.std.proofs.lemmas.Bool.{cases_order}
use Rattle.std.specs.Prelude.{◌⊎◌}
use Rattle.cw_i86.specs.Encoding.{bytes_of, IsInstr, BeginsWith}
use Rattle.cw_i86.specs.State.{State, past, with_byte_register}
use Rattle.cw_i86.specs.MachineRun.{Event, Silent, Takes, Gives, Outcome, GoesOn, Halts, Divides, Undefined, code_at, Stands, Does, Steps, TakeAlike, Runs, taken, left_behind, FitsInput, written, End, Bad, Divided, end_after, IsAtWork, IsOver, Observed, Shows}
use Rattle.cw_i86.specs.declared.instr.Instr.{Instr}
use Rattle.cw_i86.specs.declared.instr.Instr.TheVariants.{In}
use Rattle.cw_cpu86.proofs.Told.{FitsInput-parts}

-- ---- a step

-- bytes begin with at most one instruction
abbrev OneInstr : Type 0
OneInstr = (bytes : List ℕ) (i j : Instr) → IsInstr i → IsInstr j → BeginsWith bytes i → BeginsWith bytes j → i ≡ j

same_instr : OneInstr → (s : State) (i j : Instr) → Stands s i → Stands s j → i ≡ j
same_instr one s i j a b = one (code_at s) i j a.0 b.0 a.1 b.1

does_same : (i : Instr) (s : State) (o p : Outcome) → Does i s o → Does i s p → TakeAlike o p → o ≡ p
does_same (In port) s o p a b alike =
    let alike_made : TakeAlike (GoesOn (with_byte_register s 0 a.0) (Takes port a.0)) (GoesOn (with_byte_register s 0 b.0) (Takes port b.0)) =
    subst (λ x. TakeAlike x (GoesOn (with_byte_register s 0 b.0) (Takes port b.0))) a.2 (subst (λ x. TakeAlike o x) b.2 alike) in
    let same_byte : a.0 ≡ b.0 = alike_made refl in
    a.2 ∙ ap (λ v. GoesOn (with_byte_register s 0 v) (Takes port v)) same_byte ∙ sym b.2
does_same _ s o p a b alike = a ∙ sym b

pub steps_same : OneInstr → (s : State) (o p : Outcome) → Steps s o → Steps s p → TakeAlike o p → o ≡ p
steps_same one s o p (inl (i, a, does)) (inl (j, b, also)) alike =
    let same = same_instr one s i j a b in
    does_same i (past s (length (bytes_of i))) o p does (subst (λ k. Does k (past s (length (bytes_of k))) p) (sym same) also) alike
steps_same one s o p (inl (i, a, does)) (inr (none, is)) alike = absurd (none i a)
steps_same one s o p (inr (none, is)) (inl (i, a, does)) alike = absurd (none i a)
steps_same one s o p (inr (none, is)) (inr (nothing, also)) alike = is ∙ sym also

-- ---- a run

-- two steps from one state, whose bytes taken are those of one input, took no different bytes
alike_here : (input : List ℕ) (a b : Event) (t u : State) → FitsInput input (a ∷ []) → FitsInput input (b ∷ []) → TakeAlike (GoesOn t a) (GoesOn u b)
alike_here input (Takes port value) (Takes other given) t u fits also = λ e. fits.0 ∙ ap (λ p. taken p input) e ∙ sym also.0
alike_here input (Takes port value) Silent t u fits also = tt
alike_here input (Takes port value) (Gives other given) t u fits also = tt
alike_here input Silent b t u fits also = tt
alike_here input (Gives port value) b t u fits also = tt

pub runs_same : OneInstr → (n : ℕ) (s : State) (input : List ℕ) (a b : List Event) (t u : State)
    → Runs n s a t → Runs n s b u → FitsInput input a → FitsInput input b → (a ≡ b) × (t ≡ u)
runs_same one zero s input a b t u ra rb fa fb = (ra.0 ∙ sym rb.0, ra.1 ∙ sym rb.1)
runs_same one (suc n) s input a b t u (v, a0, x, ra, sa, ea) (w, b0, y, rb, sb, eb) fa fb =
    let pa = FitsInput-parts a0 (x ∷ []) input (subst (FitsInput input) ea fa) in
    let pb = FitsInput-parts b0 (y ∷ []) input (subst (FitsInput input) eb fb) in
    let before = runs_same one n s input a0 b0 v w ra rb pa.0 pb.0 in
    let also : Steps v (GoesOn u y) = subst (λ z. Steps z (GoesOn u y)) (sym before.1) sb in
    let behind : FitsInput (left_behind a0 input) (y ∷ []) = subst (λ z. FitsInput (left_behind z input) (y ∷ [])) (sym before.0) pb.1 in
    let same : GoesOn t x ≡ GoesOn u y = steps_same one v (GoesOn t x) (GoesOn u y) sa also (alike_here (left_behind a0 input) x y t u pa.1 behind) in
    let events : x ≡ y = cc in
    let states : t ≡ u = cc in
    (ea ∙ ap (λ z. z ++ x ∷ []) before.0 ∙ ap (λ z. b0 ++ z ∷ []) events ∙ sym eb, states)

-- a run has each shorter one in it, which goes on
record Shorter (k : ℕ) (s : State) (input : List ℕ) : Type 0 where
  state : State
  events : List Event
  after : State
  event : Event
  runs : Runs k s events state
  fits : FitsInput input events
  steps : Steps state (GoesOn after event)

shorter : (n k : ℕ) → k < n → (s : State) (input : List ℕ) (a : List Event) (t : State) → Runs n s a t → FitsInput input a → Shorter k s input
shorter zero k less s input a t runs fits = absurd (omega arith)
shorter (suc n) k less s input a t (v, a0, x, ra, sa, ea) fits =
    let parts = FitsInput-parts a0 (x ∷ []) input (subst (FitsInput input) ea fits) in
    elim (cases_order k n) [
      | inl e ↦ record { state = v; events = a0; after = t; event = x; runs = subst (λ m. Runs m s a0 v) (sym e) ra; fits = parts.0; steps = sa }
      | inr (inl lt) ↦ shorter n k lt s input a0 v ra parts.0
      | inr (inr gt) ↦ absurd (omega arith)
    ]

-- ---- what shows

-- the machine is over at this state
abbrev Over : State → List Event → End → Type 0
Over t events end =
    ((u : State) × Steps t (Halts u) × (end ≡ end_after events))
    ⊎ (Steps t Undefined × (end ≡ Bad t.instruction_pointer))
    ⊎ (Steps t Divides × (end ≡ Divided t.instruction_pointer))

over_goes_on : OneInstr → (t : State) (events : List Event) (end : End) (u : State) (event : Event) → Over t events end → Steps t (GoesOn u event) → ⊥
over_goes_on one t events end u event (inl (v, steps, is)) on = let same = steps_same one t (Halts v) (GoesOn u event) steps on tt in cc
over_goes_on one t events end u event (inr (inl (steps, is))) on = let same = steps_same one t Undefined (GoesOn u event) steps on tt in cc
over_goes_on one t events end u event (inr (inr (steps, is))) on = let same = steps_same one t Divides (GoesOn u event) steps on tt in cc

over_same : OneInstr → (t : State) (events : List Event) (a b : End) → Over t events a → Over t events b → a ≡ b
over_same one t events a b (inl (u, sa, ea)) (inl (v, sb, eb)) = ea ∙ sym eb
over_same one t events a b (inl (u, sa, ea)) (inr (inl (sb, eb))) = let same = steps_same one t (Halts u) Undefined sa sb tt in cc
over_same one t events a b (inl (u, sa, ea)) (inr (inr (sb, eb))) = let same = steps_same one t (Halts u) Divides sa sb tt in cc
over_same one t events a b (inr (inl (sa, ea))) (inl (v, sb, eb)) = let same = steps_same one t Undefined (Halts v) sa sb tt in cc
over_same one t events a b (inr (inl (sa, ea))) (inr (inl (sb, eb))) = ea ∙ sym eb
over_same one t events a b (inr (inl (sa, ea))) (inr (inr (sb, eb))) = let same = steps_same one t Undefined Divides sa sb tt in cc
over_same one t events a b (inr (inr (sa, ea))) (inl (v, sb, eb)) = let same = steps_same one t Divides (Halts v) sa sb tt in cc
over_same one t events a b (inr (inr (sa, ea))) (inr (inl (sb, eb))) = let same = steps_same one t Divides Undefined sa sb tt in cc
over_same one t events a b (inr (inr (sa, ea))) (inr (inr (sb, eb))) = ea ∙ sym eb

-- a machine that is over at k is not at work after more steps
over_before : OneInstr → (k n : ℕ) → k < n → (s : State) (input : List ℕ) (a b : List Event) (t u : State) (end : End)
    → Runs k s a t → FitsInput input a → Over t a end → Runs n s b u → FitsInput input b → ⊥
over_before one k n less s input a b t u end ra fa over rb fb =
    let part = shorter n k less s input b u rb fb in
    let same = runs_same one k s input a part.events t part.state ra part.runs fa part.fits in
    over_goes_on one t a end part.after part.event over (subst (λ z. Steps z (GoesOn part.after part.event)) (sym same.1) part.steps)

ends_same : OneInstr → (s : State) (input : List ℕ) (n : ℕ) (a b : List Event) (x y : End)
    → FitsInput input a → FitsInput input b → IsAtWork s n a x ⊎ IsOver s n a x → IsAtWork s n b y ⊎ IsOver s n b y → (a ≡ b) × (x ≡ y)
ends_same one s input n a b x y fa fb (inl (t, ra, ea)) (inl (u, rb, eb)) =
    ((runs_same one n s input a b t u ra rb fa fb).0, ea ∙ sym eb)
ends_same one s input n a b x y fa fb (inl (t, ra, ea)) (inr (k, u, less, rb, over)) = absurd (over_before one k n less s input b a u t y rb fb over ra fa)
ends_same one s input n a b x y fa fb (inr (k, t, less, ra, over)) (inl (u, rb, eb)) = absurd (over_before one k n less s input a b t u x ra fa over rb fb)
ends_same one s input n a b x y fa fb (inr (k, t, less, ra, over)) (inr (m, u, fewer, rb, also)) =
    elim (cases_order k m) [
      | inl e ↦
          let runs : Runs k s b u = subst (λ z. Runs z s b u) (sym e) rb in
          let same = runs_same one k s input a b t u ra runs fa fb in
          let there : Over t a y = subst (λ z. Over z a y) (sym same.1) (subst (λ z. Over u z y) (sym same.0) also) in
          (same.0, over_same one t a x y over there)
      | inr (inl lt) ↦ absurd (over_before one k m lt s input a b t u x ra fa over rb fb)
      | inr (inr gt) ↦ absurd (over_before one m k gt s input b a u t y rb fb also ra fa)
    ]

pub shows_same : OneInstr → (s : State) (input : List ℕ) (n : ℕ) (a b : Observed) → Shows s input n a → Shows s input n b → a ≡ b
shows_same one s input n a b p q =
    let same = ends_same one s input n p.events q.events a.end b.end p.fits q.fits p.end q.end in
    let outputs : a.output ≡ b.output = p.output ∙ ap written same.0 ∙ sym q.output in
    ap (λ z. let made : Observed = record { output = z; end = a.end } in made) outputs ∙ ap (λ z. let made : Observed = record { output = b.output; end = z } in made) same.1
