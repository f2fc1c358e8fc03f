-- What the activations of a run keep: a step leaves them, drops some, or adds one whose depth and frame were tested.
use Rattle.std.proofs.Common.{◌≡◌, ℕ, zero, suc, ◌+◌, ◌-◌, ◌<◌, ◌≤◌, ℤ, pos, ◌-ℤ◌, List, [], ◌∷◌, length, drop, Bool, true, false, Option, Some, None, refl, sym, ap, subst, arith, slice_get, nat_lt, nat_le, ltb-true, leb-true}
use Rattle.std.proofs.lemmas.Option.{none-some, same_Some}
use Rattle.cw_unit.specs.declared.unit.Unit.{Unit as SourceUnit}
use Rattle.cw_unit.specs.declared.unit.Proc.{Proc}
use Rattle.cw_unit.specs.declared.unit.Label.{Label}
use Rattle.cw_unit.specs.declared.unit.Goal.{Goal}
use Rattle.cw_unit.specs.declared.unit.Dest.{Dest}
use Rattle.cw_unit.specs.declared.unit.Dest.TheVariants as dest
use Rattle.cw_unit.specs.declared.unit.Felem.{Felem}
use Rattle.cw_unit.specs.declared.unit.Ref.{Ref, out-Ref}
use Rattle.cw_unit.specs.declared.unit.Expr.{Expr, out-Expr}
use Rattle.cw_unit.specs.declared.unit.Arg.{Arg, out-Arg}
use Rattle.cw_unit.specs.declared.unit.Cond.{Cond, out-Cond}
use Rattle.cw_unit.specs.declared.unit.Spot.{Spot, out-Spot}
use Rattle.cw_unit.specs.declared.unit.Arg.TheOpen as layer
use Rattle.cw_unit.specs.declared.unit.Arg.TheOpen.{Arg-F, Spot-F}
use Rattle.cw_word.specs.FixedPoint.{fits_word}
use Rattle.cw_unit.specs.Program.{Program, definition_of, item_address}
use Rattle.cw_unit.specs.Stop.{AddressRange, Running}
use Rattle.cw_unit.specs.Words.{Control, LabelControl, SwitchControl, ProcedureControl, Operand, Word, Held, Words, Outcome, Changed, put_if, is_below, word_at}
use Rattle.cw_unit.specs.Operation.{Form, Keep, SetVariable, AddStep, ReadByte, WriteByte, perform, holds}
use Rattle.cw_unit.specs.Work.{Work, Nothing, Run, Eval, Address, FormAt, Do, Test, Choose, Jump, Give, Enter, Return, Leave, KeepAt, SetVar, Element, Turn, Bump, On, Loop, expression_work, condition_work, element_at}
use Rattle.cw_unit.specs.LabelContinuation.{label_continuation}
use Rattle.cw_unit.specs.Configuration.{Configuration, at, Activation, FramesApart, activations_of, segment_of, control_at, procedure_at, frame_size_of, frame_top, address_at}
use Rattle.cw_unit.specs.Behaviour.{initial_configuration, configuration_after}
use Rattle.cw_unit.specs.Step.{after, label_of_goal, switch_of_def, procedure_of_def, with_label_owner, with_switch_owner, as_procedure, held, Callee, Reading, Writing, Calling, Missing, callee_of, Bound, bind_all, first_operands, begun, come_back, come_back_with, work_from, kept, jump_in_procedure, jump_in_unit, jump_to_unit, jump_to, jump_to_control, goal_at, jump_to_goal, switch_in, jump_by_list, jump_by_switch, jump_by_control, choose_with, address_step, put_constant, in_unit, here, compares_in, stuck, give_step, read_step, enter_framed, enter_procedure, enter_step, jump_step, element_step, turn_step, next_body, advance, step, steps, addressing_of}

module _ (p : Program) (Q : List Activation → Type 0) (none : Q []) (dropped : (n : ℕ) (acts : List Activation) → Q acts → Q (drop n acts)) (pushed : (acts : List Activation) (a : Activation) → a.frame_base ≡ frame_top p acts → length acts < p.limits.depth → frame_top p acts + frame_size_of p a.segment a.procedure ≤ p.limits.area → Q acts → Q (a ∷ acts)) where
  abbrev Fine : Configuration → Type 0
  Fine c = Q (activations_of c)

  after-fine : (o : Outcome) (s line : ℕ) (now next : Work) (acts : List Activation) (w : Words) → Q acts → Fine (after o s line now next acts w)
  after-fine (Changed v) s line now next acts w h = h
  after-fine _ s line now next acts w h = h

  in_unit-fine : (u : Option SourceUnit) (f : SourceUnit → Configuration) (other : Configuration) → ((u : SourceUnit) → Fine (f u)) → Fine other → Fine (in_unit p u f other)
  in_unit-fine None f other h k = k
  in_unit-fine (Some u) f other h k = h u

  address_step-fine : (c : Bool) (spot : Spot) (l : Spot-F Arg Cond Expr Spot Ref) (s line : ℕ) (k : Work) (acts : List Activation) (w : Words) → Q acts → Fine (address_step p c spot l s line k acts w)
  address_step-fine c spot (layer.Direct i) s line k acts w h = h
  address_step-fine c spot _ s line k acts w h = h

  give_step-fine : (a : Arg-F Arg Cond Expr Spot Ref) (s line : ℕ) (now k : Work) (acts : List Activation) (w : Words) → Q acts → Fine (give_step p a s line now k acts w)
  give_step-fine (layer.Value e f) s line now k acts w h = h
  give_step-fine (layer.Place r) s line now k acts w h = h
  give_step-fine (layer.Array i l) s line now k acts w h =
      let z : ℤ = pos (address_at p s acts i) -ℤ l in
      after-fine (put_if (fits_word z) AddressRange z w) s line now k acts w h
  give_step-fine (layer.Same i) s line now k acts w h = h
  give_step-fine (layer.Base i) s line now k acts w h = h
  give_step-fine (layer.Goal g) s line now k acts w h =
      after-fine (held (with_label_owner (length acts) (label_of_goal p (segment_of s acts) g)) w) s line now k acts w h
  give_step-fine (layer.Switch n) s line now k acts w h = h
  give_step-fine (layer.CommonSwitch d) s line now k acts w h =
      after-fine (held (with_switch_owner (length acts) (switch_of_def (definition_of p (segment_of s acts) d))) w) s line now k acts w h
  give_step-fine (layer.Proc q) s line now k acts w h = h
  give_step-fine (layer.CommonProc d) s line now k acts w h =
      after-fine (held (as_procedure (procedure_of_def (definition_of p (segment_of s acts) d))) w) s line now k acts w h
  give_step-fine (layer.Special n) s line now k acts w h = after-fine (held (control_at acts n) w) s line now k acts w h

  -- ---- calls

  begun-fine : (s g q : ℕ) (proc : Proc) (wanted : Bool) (now k : Work) (acts : List Activation) (w : Words) (b : Option Bound) → length acts < p.limits.depth → frame_top p acts + frame_size_of p g q ≤ p.limits.area → Q acts → Fine (begun s g q proc wanted (frame_top p acts) now k acts w b)
  begun-fine s g q proc wanted now k acts w None d f h = h
  begun-fine s g q proc wanted now k acts w (Some b) d f h = pushed acts _ refl d f h

  enter_framed-fine : (b : Bool) (s line g q : ℕ) (proc : Proc) (wanted : Bool) (now k : Work) (acts : List Activation) (w : Words) → length acts < p.limits.depth → (b ≡ true → frame_top p acts + frame_size_of p g q ≤ p.limits.area) → Q acts → Fine (enter_framed p b s line g q proc wanted now k acts w)
  enter_framed-fine false s line g q proc wanted now k acts w d f h = h
  enter_framed-fine true s line g q proc wanted now k acts w d f h =
      begun-fine s g q proc wanted now k acts w
      (bind_all (λ i. item_address p g i (frame_top p acts)) proc.params (first_operands (length proc.params) w.operands) (Some (record { memory = w.memory; controls = [] })))
      d
      (f refl)
      h

  enter_procedure-fine : (b : Bool) (proc : Option Proc) (s line g q : ℕ) (wanted : Bool) (now k : Work) (acts : List Activation) (w : Words) → (b ≡ true → length acts < p.limits.depth) → Q acts → Fine (enter_procedure p b proc s line g q wanted now k acts w)
  enter_procedure-fine true None s line g q wanted now k acts w d h = h
  enter_procedure-fine false None s line g q wanted now k acts w d h = h
  enter_procedure-fine false (Some proc) s line g q wanted now k acts w d h = h
  enter_procedure-fine true (Some proc) s line g q wanted now k acts w d h =
      enter_framed-fine (nat_le (frame_top p acts + frame_size_of p g q) p.limits.area) s line g q proc wanted now k acts w (d refl)
      (leb-true (frame_top p acts + frame_size_of p g q) p.limits.area)
      h

  read_step-fine : (b : Bool) (s line : ℕ) (now k : Work) (acts : List Activation) (w : Words) → Q acts → Fine (read_step p b s line now k acts w)
  read_step-fine true s line now k acts w h = after-fine (perform p.limits.area ReadByte w) s line now k acts w h
  read_step-fine false s line now k acts w h = h

  enter_step-fine : (c : Callee) (s line : ℕ) (wanted : Bool) (now k : Work) (acts : List Activation) (w : Words) → Q acts → Fine (enter_step p c s line wanted now k acts w)
  enter_step-fine Reading s line wanted now k acts w h = read_step-fine wanted s line now k acts w h
  enter_step-fine Writing s line wanted now k acts w h = after-fine (perform p.limits.area WriteByte w) s line now k acts w h
  enter_step-fine (Calling g q) s line wanted now k acts w h =
      enter_procedure-fine (nat_lt (length acts) p.limits.depth) (procedure_at p g q) s line g q wanted now k acts w (ltb-true (length acts) p.limits.depth) h
  enter_step-fine Missing s line wanted now k acts w h = h

  come_back-fine : (z : ℤ) (s : ℕ) (now : Work) (acts : List Activation) (w : Words) → Q acts → Fine (come_back z s now acts w)
  come_back-fine z s now [] w h = h
  come_back-fine z s now (a ∷ acts) w h = dropped 1 (a ∷ acts) h

  come_back_with-fine : (xs : List Operand) (s : ℕ) (now : Work) (acts : List Activation) (w : Words) → Q acts → Fine (come_back_with xs s now acts w)
  come_back_with-fine [] s now acts w h = h
  come_back_with-fine (Held c ∷ rest) s now acts w h = h
  come_back_with-fine (Word z ∷ rest) s now acts w h = come_back-fine z s now acts w h

  -- ---- jumps

  work_from-fine : (s : ℕ) (k : Option Work) (acts : List Activation) (w : Words) → Q acts → Fine (work_from s k acts w)
  work_from-fine s None acts w h = h
  work_from-fine s (Some k) acts w h = h

  jump_in_procedure-fine : (q : Option Proc) (s l owner : ℕ) (now : Work) (acts : List Activation) (w : Words) → Q acts → Fine (jump_in_procedure q s l owner now acts w)
  jump_in_procedure-fine None s l owner now acts w h = h
  jump_in_procedure-fine (Some q) s l owner now acts w h =
      work_from-fine s (label_continuation l q.body Leave) (kept owner acts) w (dropped (length acts - owner) acts h)

  jump_in_unit-fine : (u : SourceUnit) (m : Option Label) (s g l owner : ℕ) (now : Work) (acts : List Activation) (w : Words) → Q acts → Fine (jump_in_unit u m s g l owner now acts w)
  jump_in_unit-fine u None s g l owner now acts w h = h
  jump_in_unit-fine u (Some m) s g l owner now acts w h =
      elim m.proc as
      (λ o.
      Fine
      (elim o [
        | None ↦ work_from g (label_continuation l u.body Nothing) [] w
        | Some q ↦ jump_in_procedure (slice_get u.procs q) s l owner now acts w
      ])) [
        | None ↦ work_from-fine g (label_continuation l u.body Nothing) [] w none
        | Some q ↦ jump_in_procedure-fine (slice_get u.procs q) s l owner now acts w h
      ]

  jump_to_unit-fine : (u : Option SourceUnit) (s g l owner : ℕ) (now : Work) (acts : List Activation) (w : Words) → Q acts → Fine (jump_to_unit u s g l owner now acts w)
  jump_to_unit-fine None s g l owner now acts w h = h
  jump_to_unit-fine (Some u) s g l owner now acts w h = jump_in_unit-fine u (slice_get u.labels l) s g l owner now acts w h

  jump_to-fine : (l : Option (ℕ × ℕ)) (owner s : ℕ) (now : Work) (acts : List Activation) (w : Words) → Q acts → Fine (jump_to p l owner s now acts w)
  jump_to-fine None owner s now acts w h = h
  jump_to-fine (Some l) owner s now acts w h = jump_to_unit-fine (slice_get p.units l.0) s l.0 l.1 owner now acts w h

  jump_to_control-fine : (c : Option Control) (s : ℕ) (now : Work) (acts : List Activation) (w : Words) → Q acts → Fine (jump_to_control p c s now acts w)
  jump_to_control-fine None s now acts w h = h
  jump_to_control-fine (Some (LabelControl g l owner)) s now acts w h = jump_to-fine (Some (g, l)) owner s now acts w h
  jump_to_control-fine (Some (SwitchControl g n owner)) s now acts w h = h
  jump_to_control-fine (Some (ProcedureControl g q)) s now acts w h = h

  jump_to_goal-fine : (l : Option Goal) (g owner s line : ℕ) (now : Work) (acts : List Activation) (w : Words) → Q acts → Fine (jump_to_goal p l g owner s line now acts w)
  jump_to_goal-fine None g owner s line now acts w h = h
  jump_to_goal-fine (Some l) g owner s line now acts w h = jump_to-fine (label_of_goal p g l) owner s now acts w h

  jump_by_list-fine : (gs : Option (List Goal)) (xs : List Operand) (g owner s line : ℕ) (now : Work) (acts : List Activation) (w : Words) → Q acts → Fine (jump_by_list p gs xs g owner s line now acts w)
  jump_by_list-fine None xs g owner s line now acts w h = h
  jump_by_list-fine (Some gs) [] g owner s line now acts w h = h
  jump_by_list-fine (Some gs) (Held c ∷ rest) g owner s line now acts w h = h
  jump_by_list-fine (Some gs) (Word z ∷ rest) g owner s line now acts w h = jump_to_goal-fine (goal_at gs z) g owner s line now acts w h

  jump_by_switch-fine : (n : Option (ℕ × ℕ)) (owner s line : ℕ) (now : Work) (acts : List Activation) (w : Words) → Q acts → Fine (jump_by_switch p n owner s line now acts w)
  jump_by_switch-fine None owner s line now acts w h = h
  jump_by_switch-fine (Some n) owner s line now acts w h =
      jump_by_list-fine (switch_in (slice_get p.units n.0) n.1) w.operands n.0 owner s line now acts w h

  jump_by_control-fine : (c : Option Control) (s line : ℕ) (now : Work) (acts : List Activation) (w : Words) → Q acts → Fine (jump_by_control p c s line now acts w)
  jump_by_control-fine None s line now acts w h = h
  jump_by_control-fine (Some (SwitchControl g n owner)) s line now acts w h = jump_by_switch-fine (Some (g, n)) owner s line now acts w h
  jump_by_control-fine (Some (LabelControl g l owner)) s line now acts w h = h
  jump_by_control-fine (Some (ProcedureControl g q)) s line now acts w h = h

  jump_step-fine : (d : Dest) (s line : ℕ) (now : Work) (acts : List Activation) (w : Words) → Q acts → Fine (jump_step p d s line now acts w)
  jump_step-fine (dest.Goal g) s line now acts w h = jump_to-fine (label_of_goal p (segment_of s acts) g) (length acts) s now acts w h
  jump_step-fine (dest.Special k) s line now acts w h = jump_to_control-fine (control_at acts k) s now acts w h
  jump_step-fine (dest.Switch n e) s line now acts w h = jump_by_switch-fine (Some (segment_of s acts, n)) (length acts) s line now acts w h
  jump_step-fine (dest.CommonSwitch d e) s line now acts w h =
      jump_by_switch-fine (switch_of_def (definition_of p (segment_of s acts) d)) (length acts) s line now acts w h
  jump_step-fine (dest.SpecialSwitch k e) s line now acts w h = jump_by_control-fine (control_at acts k) s line now acts w h

  -- ---- loops, choices and bodies

  choose_with-fine : (f : ℤ → ℤ → Bool) (xs : List Operand) (s : ℕ) (now pass fail : Work) (acts : List Activation) (w : Words) → Q acts → Fine (choose_with f xs s now pass fail acts w)
  choose_with-fine f (Word y ∷ Word x ∷ rest) s now pass fail acts w h = h
  choose_with-fine f _ s now pass fail acts w h = h

  element_step-fine : (e : Option Felem) (s i : ℕ) (c : Loop) (k : Work) (acts : List Activation) (w : Words) → Q acts → Fine (element_step p e s i c k acts w)
  element_step-fine None s i c k acts w h = h
  element_step-fine (Some e) s i c k acts w h = h

  turn_step-fine : (b : Bool) (s a i : ℕ) (c : Loop) (now k : Work) (acts : List Activation) (w : Words) → Q acts → Fine (turn_step p b s a i c now k acts w)
  turn_step-fine false s a i c now k acts w h = h
  turn_step-fine true s a i c now k acts w h = h

  next_body-fine : (u : Option SourceUnit) (s : ℕ) (acts : List Activation) (w : Words) → Q acts → Fine (next_body p u s acts w)
  next_body-fine None s acts w h = h
  next_body-fine (Some u) s acts w h = h

  advance-fine : (s : ℕ) (k : Work) (acts : List Activation) (w : Words) → Q acts → Fine (advance p s k acts w)
  advance-fine s Nothing acts w h = next_body-fine (slice_get p.units (s + 1)) s acts w h
  advance-fine s (Run t k) acts w h = h
  advance-fine s (Eval e f line k) acts w h =
      in_unit-fine (here p s acts) (λ u. at s (expression_work u (out-Expr e) f line k) acts (put_constant p (out-Expr e) s f acts w) Running)
      (stuck p s (Eval e f line k) acts w)
      (λ u. h)
      h
  advance-fine s (Address r line k) acts w h = address_step-fine (compares_in p (here p s acts)) (out-Ref r).at (out-Spot (out-Ref r).at) s line k acts w h
  advance-fine s (FormAt spot line k) acts w h =
      after-fine (perform p.limits.area (Form (addressing_of p (out-Spot spot) s acts w)) w) s line (FormAt spot line k) k acts w h
  advance-fine s (Do op line k) acts w h = after-fine (perform p.limits.area op w) s line (Do op line k) k acts w h
  advance-fine s (Test c line pass fail) acts w h =
      in_unit-fine (here p s acts) (λ u. at s (condition_work u (out-Cond c) line pass fail) acts w Running) (stuck p s (Test c line pass fail) acts w) (λ u. h) h
  advance-fine s (Choose op line pass fail) acts w h = choose_with-fine (holds op) w.operands s (Choose op line pass fail) pass fail acts w h
  advance-fine s (Jump d line) acts w h = jump_step-fine d s line (Jump d line) acts w h
  advance-fine s (Give a line k) acts w h = give_step-fine (out-Arg a) s line (Give a line k) k acts w h
  advance-fine s (Enter t line wanted k) acts w h =
      enter_step-fine (callee_of p (segment_of s acts) acts t) s line wanted (Enter t line wanted k) k acts w h
  advance-fine s Return acts w h = come_back_with-fine w.operands s Return acts w h
  advance-fine s Leave acts w h = come_back-fine (pos 0) s Leave acts w h
  advance-fine s (KeepAt n c k) acts w h =
      after-fine (perform p.limits.area (Keep (address_at p s acts c.item + n)) w) s c.line (KeepAt n c k) k acts w h
  advance-fine s (SetVar c k) acts w h =
      after-fine (perform p.limits.area (SetVariable (address_at p s acts c.item)) w) s c.line (SetVar c k) k acts w h
  advance-fine s (Element i c k) acts w h = element_step-fine (element_at c.elements i) s i c k acts w h
  advance-fine s (Turn i c k) acts w h =
      turn_step-fine (is_below (word_at w.memory (address_at p s acts c.item)) p.limits.area) s (address_at p s acts c.item) i c (Turn i c k) k acts w h
  advance-fine s (Bump i c k) acts w h =
      after-fine (perform p.limits.area (AddStep (address_at p s acts c.item)) w) s c.line (Bump i c k) (Turn i c k) acts w h
  advance-fine s (On c k) acts w h = h

  step-fine : (c : Configuration) → Fine c → Fine (step p c)
  step-fine (at s k acts w Running) h = advance-fine s k acts w h
  step-fine _ h = h

  steps-fine : (m : ℕ) (c : Configuration) → Fine c → Fine (steps p m c)
  steps-fine zero c h = h
  steps-fine (suc m) c h = steps-fine m (step p c) (step-fine c h)

-- ---- no more calls than are allowed

drop-shorter : {A : Type 0} (n : ℕ) (xs : List A) → length (drop n xs) ≤ length xs
drop-shorter zero xs = omega arith
drop-shorter (suc n) [] = omega arith
drop-shorter (suc n) (x ∷ xs) = omega (arith, drop-shorter n xs)

pub few-calls : (p : Program) (input : List ℕ) (m : ℕ) → length (activations_of (configuration_after p input m)) ≤ p.limits.depth
few-calls p input m =
    steps-fine p (λ acts. length acts ≤ p.limits.depth) (omega arith) (λ n acts h. omega (arith, h, drop-shorter n acts))
    (λ acts a b d f h. omega (arith, d))
    m
    (initial_configuration p input)
    (omega arith)

-- ---- frames

-- each frame begins where the one before it ends, and ends in the area
FramesStand : Program → List Activation → Type 0
FramesStand p [] = Unit {0}
FramesStand p (a ∷ acts) = (a.frame_base ≡ frame_top p acts) × (frame_top p (a ∷ acts) ≤ p.limits.area) × FramesStand p acts

stand-drop : (p : Program) (n : ℕ) (acts : List Activation) → FramesStand p acts → FramesStand p (drop n acts)
unfolding FramesStand
stand-drop p zero acts h = h
stand-drop p (suc n) [] h = h
stand-drop p (suc n) (a ∷ acts) h = stand-drop p n acts h.2

stand-push : (p : Program) (acts : List Activation) (a : Activation) → a.frame_base ≡ frame_top p acts → frame_top p acts + frame_size_of p a.segment a.procedure ≤ p.limits.area → FramesStand p acts → FramesStand p (a ∷ acts)
unfolding FramesStand
stand-push p acts a b f h = (b, omega (arith, b, f), h)

above-start : (p : Program) (acts : List Activation) → FramesStand p acts → p.limits.area - p.limits.frames ≤ frame_top p acts
unfolding FramesStand
above-start p [] h = omega arith
above-start p (a ∷ acts) h = omega (arith, h.0, above-start p acts h.2)

frame-above : (p : Program) (acts : List Activation) → FramesStand p acts → (n : ℕ) (a : Activation) → slice_get acts n ≡ Some a → p.limits.area - p.limits.frames ≤ a.frame_base
unfolding FramesStand
frame-above p [] h n a e = absurd (none-some a e)
frame-above p (b ∷ acts) h zero a e = rw (sym (ap (λ x. x.frame_base) (same_Some b a e))) (omega (arith, h.0, above-start p acts h.2))
frame-above p (b ∷ acts) h (suc n) a e = frame-above p acts h.2 n a e

-- a frame ends where no later one begins
frame-below : (p : Program) (acts : List Activation) → FramesStand p acts → (n : ℕ) (a : Activation) → slice_get acts n ≡ Some a → a.frame_base + frame_size_of p a.segment a.procedure ≤ frame_top p acts
unfolding FramesStand
frame-below p [] h n a e = absurd (none-some a e)
frame-below p (b ∷ acts) h zero a e =
    subst (λ x. x.frame_base + frame_size_of p x.segment x.procedure ≤ frame_top p (b ∷ acts)) (same_Some b a e) (omega arith)
frame-below p (b ∷ acts) h (suc n) a e = omega (arith, frame-below p acts h.2 n a e, h.0)

top-below : (p : Program) (acts : List Activation) → FramesStand p acts → (n : ℕ) (a : Activation) → slice_get acts n ≡ Some a → frame_top p acts ≤ p.limits.area
unfolding FramesStand
top-below p [] h n a e = absurd (none-some a e)
top-below p (b ∷ acts) h n a e = h.1

frame-apart : (p : Program) (acts : List Activation) → FramesStand p acts → (n m : ℕ) (a b : Activation) → n < m → slice_get acts n ≡ Some a → slice_get acts m ≡ Some b → b.frame_base + frame_size_of p b.segment b.procedure ≤ a.frame_base
unfolding FramesStand
frame-apart p [] h n m a b l e f = absurd (none-some a e)
frame-apart p (c ∷ acts) h n zero a b l e f = absurd (omega (arith, l))
frame-apart p (c ∷ acts) h zero (suc m) a b l e f =
    let here : c.frame_base ≡ a.frame_base = ap (λ x. x.frame_base) (same_Some c a e) in
    omega (arith, here, h.0, frame-below p acts h.2 m b f)
frame-apart p (c ∷ acts) h (suc n) (suc m) a b l e f = frame-apart p acts h.2 n m a b (omega (arith, l)) e f

stand-nothing : (p : Program) → FramesStand p []
unfolding FramesStand
stand-nothing p = tt

pub frames-apart : (p : Program) (input : List ℕ) (m : ℕ) → FramesApart p (activations_of (configuration_after p input m))
frames-apart p input m =
    let acts : List Activation = activations_of (configuration_after p input m) in
    let h : FramesStand p acts =
    steps-fine p (FramesStand p) (stand-nothing p) (stand-drop p) (λ acts a b d f h. stand-push p acts a b f h) m (initial_configuration p input) (stand-nothing p) in
    record {
      above = frame-above p acts h;
      below = λ n a e. omega (arith, frame-below p acts h n a e, top-below p acts h n a e);
      apart = frame-apart p acts h;
    }
