-- The orders follow the source through all works, where statements, jumps and the parts of loops follow it; and so the machine of the
-- orders tracks the source.
use Rattle.std.proofs.Common.{◌≡◌, ◌⊎◌, inl, inr, ⊎_elim, ℕ, suc, ◌+◌, ◌<◌, ◌≤◌, ℤ, List, [], ◌∷◌, length, set, Bool, true, false, Option, Some, None, refl, sym, ap, ap₂, ◌∙◌, subst, arith}
use Rattle.std.specs.Prelude.{slice_get, IsTrue, nat_lt, option_map}
use Rattle.std.proofs.lemmas.Bool.{true≢false, false≢true}
use Rattle.std.proofs.lemmas.Option.{slice_get-map}
use Rattle.cw_track.specs.Tracking.{Tracks}
use Rattle.cw_track.proofs.Paths.{Path, stay, next as move}
use Rattle.cw_track.specs.Watching.{watched}
use Rattle.cw_track.proofs.Simulations.{tracks_leaping}
use Rattle.cw_track.proofs.Watching.{Notes, nothing as none_noted, same as same_noted, SilentWay, only_step, step_then, FollowedNoting, LeaptNoting, SimulationNoting, simulation_watched}
use Rattle.cw_unit.specs.declared.unit.Unit.{Unit as SourceUnit}
use Rattle.cw_unit.specs.declared.unit.Proc.{Proc}
use Rattle.cw_unit.specs.declared.unit.Param.{Param}
use Rattle.cw_unit.specs.declared.unit.Stmt.{Stmt}
use Rattle.cw_unit.specs.declared.unit.Dest.{Dest}
use Rattle.cw_unit.specs.declared.unit.Spot.{Spot, out-Spot}
use Rattle.cw_unit.specs.declared.unit.Ref.{Ref}
use Rattle.cw_unit.specs.declared.unit.Target.{Target}
use Rattle.cw_unit.specs.declared.unit.Target.TheVariants as target_of
use Rattle.cw_unit.specs.Storage.{layout_of}
use Rattle.cw_unit.specs.Program.{definition_of, item_address}
use Rattle.cw_unit.specs.Stop.{End, Running, Ended, Stopped, Stuck}
use Rattle.cw_unit.specs.Words.{Control, LabelControl, SwitchControl, ProcedureControl, Operand, Word, Words, Changed, with_memory}
use Rattle.cw_unit.specs.Work.{Work, Nothing, Run, Eval, Address, FormAt, Do, Test, Choose, Jump, Give, Enter, Return, Leave, KeepAt, SetVar, Element, Turn, Bump, On, Loop}
use Rattle.cw_unit.specs.Configuration.{Configuration, at as configuration, Activation, segment_of, control_at, frame_size_of, frame_top}
use Rattle.cw_unit.specs.Step.{Callee, Calling, Missing, Reading, Writing, callee_of, callee_of_place, callee_of_control, procedure_of_def, as_procedure, enter_procedure, enter_step, next_body as source_next_body}
use Rattle.cw_unit.specs.Behaviour.{Observation, is_running}
use Rattle.cw_unit.specs.Begun.{Begun, begins}
use Rattle.cw_order.specs.declared.order.Order.{Order}
use Rattle.cw_order.specs.declared.order.Order.TheVariants as order
use Rattle.cw_order.specs.OrderState.{OrderActivation, OrderState, at as state, operand_words, record_words, stack_words, argument_behind, control_at as order_control}
use Rattle.cw_order.specs.Loading.{loaded_after}
use Rattle.cw_order.specs.OrderActions.{action_of}
use Rattle.cw_order.specs.OrderCosts.{weight_of}
use Rattle.cw_order.specs.OrderMachine.{act, call, next_body as order_next_body}
use Rattle.cw_order.specs.Starting.{started_by, starts}
use Rattle.cw_order.specs.FittingWords.{WordsFit, StateFits}
use Rattle.cw_gen_expr.specs.ReferenceExpressions.{at_line, argument_words, control_place, call_order}
use Rattle.cw_gen_expr.specs.BuiltExpressions.{most_levels}
use Rattle.cw_carry.proofs.Expressions.Standing.{Stands}
use Rattle.cw_carry.proofs.Expressions.Effects.{BeginsNone, effect}
use Rattle.cw_carry.proofs.Expressions.Carried.{Via, Ready, after_call, answered, takes_index, takes_number, who_of, CarriedIn, going, beginning, over}
use Rattle.cw_gen_expr.specs.ReferenceEntries.{parameters_of}
use Rattle.cw_carry.proofs.Expressions.Operations.{ItemsStand, FormsOf}
use Rattle.cw_carry.proofs.Expressions.Stepping.{Compiled, source, target, orders, A, B, AllCalls, Belong, Goes, GoesNoting, Leaps, quietly, IsSane, rank}
use Rattle.cw_carry.proofs.Expressions.Moments.{Moment, here_in, scope, code, marks, At, Leads_to, Steps, StepsNoting, Leap, next, Facts}
use Rattle.cw_carry.proofs.Expressions.Moments
use Rattle.cw_carry.proofs.Expressions.Addresses.{operation, address_formed}
use Rattle.cw_carry.proofs.Expressions.Knowing.{evaluation_goes, address_goes}
use Rattle.cw_carry.proofs.Expressions.Conditions.{test_follows, choice_follows}
use Rattle.cw_carry.proofs.Expressions.Arguments.{control_is, defined_is, argument_follows, word_kept, variable_set, byte_read, byte_written}
use Rattle.cw_gen_expr.specs.ReferenceEntries.{bound_order}
use Rattle.cw_carry.proofs.Expressions.Calls.{ProcedureAt, call_follows}
use Rattle.cw_carry.proofs.Expressions.Ways.{JumpSound}
use Rattle.cw_carry.proofs.Expressions.Returns.{return_follows, leave_follows}
use Rattle.cw_gen_unit.specs.Endings.{comes_to_end}

module _ (c : Compiled) where
  -- what statements, jumps and loops must do, how each body begins, and where procedures stand
  pub record Rules : Type 0 where
    pub statement : (t : Moment c) (s : Stmt) (k : Work) (q n levels j : ℕ) (w : Words) → (c.places (here_in c t) t.unit (who_of t.acts)).StatementAt q s levels n → j + levels ≤ 64 → (IsTrue (comes_to_end s) → Via (code c t) (marks c t) j n false (λ x m. At c t x m false k)) → Facts c t (Run s k) w → StepsNoting c t (Run s k) q false w
    pub jump : (t : Moment c) (d : Dest) (line q : ℕ) (w : Words) → (c.places (here_in c t) t.unit (who_of t.acts)).JumpAt line q d → Facts c t (Jump d line) w → JumpSound c t.segment t.acts w d → Steps c t (Jump d line) q (takes_number d) w
    pub element : (t : Moment c) (i : ℕ) (x : Loop) (k : Work) (q n j : ℕ) (w : Words) → (c.places (here_in c t) t.unit (who_of t.acts)).ElementAt q i x n → suc j ≤ 64 → Via (code c t) (marks c t) j n false (λ y m. At c t y m false k) → Facts c t (Element i x k) w → Steps c t (Element i x k) q false w
    pub beginning : (t : Moment c) (a : Ref) (x : Loop) (k : Work) (q n j : ℕ) (w : Words) → (c.places (here_in c t) t.unit (who_of t.acts)).BeginningAt q a x n → suc j ≤ 64 → Via (code c t) (marks c t) j n false (λ y m. At c t y m false k)
        → Facts c t (Address a x.line (KeepAt 0 x (Element 1 x k))) w → Leap c t (Address a x.line (KeepAt 0 x (Element 1 x k))) q false w
    pub turn : (t : Moment c) (i : ℕ) (x : Loop) (k : Work) (q n j : ℕ) (w : Words) → (c.places (here_in c t) t.unit (who_of t.acts)).TurnAt q i x n → suc j ≤ 64 → Via (code c t) (marks c t) j n false (λ y m. At c t y m false k) → Facts c t (Turn i x k) w → Moments.Goes c t (Turn i x k) q false w
    pub bump : (t : Moment c) (i : ℕ) (x : Loop) (k : Work) (q n j : ℕ) (w : Words) → (c.places (here_in c t) t.unit (who_of t.acts)).BumpAt q i x n → suc j ≤ 64 → Via (code c t) (marks c t) j n false (λ y m. At c t y m false k) → Facts c t (Bump i x k) w → Steps c t (Bump i x k) q false w
    pub on : (t : Moment c) (x : Loop) (k : Work) (q n j : ℕ) (w : Words) → (c.places (here_in c t) t.unit (who_of t.acts)).OnAt q x n → suc j ≤ 64 → Via (code c t) (marks c t) j n false (λ y m. At c t y m false k) → Facts c t (On x k) w → Moments.Goes c t (On x k) q false w
    pub begins : (g : ℕ) (v : SourceUnit) → slice_get c.units g ≡ Some v → CarriedIn c.units c.addresses c.limits c.orders_for c.places c.has_words g v None (c.orders_for v).entry false false (Run v.body Nothing)
    pub procedures : (h p : ℕ) (v : SourceUnit) (proc : Proc) → slice_get c.units h ≡ Some v → slice_get v.procs p ≡ Some proc → ProcedureAt c h v p proc

  -- ---- the words of the control stack

  abbrev pub parameters_at : Option SourceUnit → (procedure : ℕ) → List Param
  parameters_at None p = []
  parameters_at (Some u) p = parameters_of u (Some p)

  -- the words of the operands, and of each call: its record, its arguments, and the operands below it
  abbrev pub held_words : List Operand → List Activation → ℕ
  held_words xs [] = operand_words xs
  held_words xs (a ∷ acts) = operand_words xs + (record_words + (argument_words (parameters_at (slice_get c.units a.segment) a.procedure) + held_words a.operands acts))

  pub words_held : (s : ℕ) (xs : List Operand) (acts : List Activation) (bs : List OrderActivation) → AllCalls c s acts bs → stack_words xs bs ≡ held_words xs acts
  words_held s xs [] [] calls = refl
  words_held s xs [] (b ∷ bs) calls = absurd calls
  words_held s xs (a ∷ acts) [] calls = absurd calls
  words_held s xs (a ∷ acts) (b ∷ bs) calls =
      let one = calls.0 in
      ap₂ (λ m n. operand_words xs + (record_words + (m + n))) (one.words ∙ ap (λ v. argument_words (parameters_at v a.procedure)) (sym one.callee_is)) (ap (λ ys. stack_words ys bs) one.operands ∙ words_held s a.operands acts bs calls.1)

  roomy : (s : ℕ) (xs : List Operand) (acts : List Activation) (bs : List OrderActivation) → AllCalls c s acts bs → 24 + held_words xs acts ≤ c.room → 24 + stack_words xs bs ≤ c.room
  roomy s xs acts bs calls h = subst (λ n. 24 + n ≤ c.room) (sym (words_held s xs acts bs calls)) h

  -- what must hold of a configuration of the run, whatever records of calls stand for its activations: the next step is not stuck, the
  -- memory is the whole data area, the control stack has room for 24 words more, items stand where they are said to, at a call there are its arguments, the labels
  -- that a jump names have their owners, indexes that are compared lie between their bounds, and a body ends with nothing in hand
  pub record Sound (s : ℕ) (k : Work) (acts : List Activation) (w : Words) : Type 0 where
    pub sane : IsSane ((A c).step (configuration s k acts w Running))
    pub memory : length w.memory ≡ c.limits.area
    pub room : 24 + held_words w.operands acts ≤ c.room
    pub stand : (bs : List OrderActivation) (u : SourceUnit) → AllCalls c s acts bs → slice_get c.units (segment_of s acts) ≡ Some u → ItemsStand (target c) (segment_of s acts) bs (source c) s acts (layout_of u) (c.has_words (segment_of s acts) u (who_of acts))
    pub binds : (bs : List OrderActivation) (h p : ℕ) (v : SourceUnit) → AllCalls c s acts bs → slice_get c.units h ≡ Some v → (proc : Proc) → slice_get v.procs p ≡ Some proc → frame_top (source c) acts + frame_size_of (source c) h p ≤ c.limits.area → (b : OrderActivation) (j i : ℕ) (z : ℤ) (x : Words) → b.frame_base ≡ frame_top (source c) acts → IsTrue (c.has_words h v (Some p) i 1) → argument_behind j b.arguments ≡ Some (Word z) → effect (target c) h (b ∷ bs) (bound_order (layout_of v) j i) x ≡ Changed (with_memory x (set x.memory (item_address (source c) h i (frame_top (source c) acts)) z))
    pub enough : (tg : Target) (line : ℕ) (wanted : Bool) (k' : Work) → k ≡ Enter tg line wanted k' → (h p : ℕ) (v : SourceUnit) (proc : Proc) → callee_of (source c) (segment_of s acts) acts tg ≡ Calling h p → slice_get c.units h ≡ Some v → slice_get v.procs p ≡ Some proc → length proc.params ≤ length w.operands
    pub jumps : (d : Dest) (line : ℕ) → k ≡ Jump d line → JumpSound c s acts w d
    pub compared : (u : SourceUnit) → slice_get c.units (segment_of s acts) ≡ Some u → (spot : Spot) (line : ℕ) (next : Work) → k ≡ FormAt spot line next → FormsOf u.bounds (out-Spot spot) w.operands
    pub ends : k ≡ Nothing → (acts ≡ []) × (w.operands ≡ [])

  abbrev pub SoundAt : Configuration → Type 0
  SoundAt (configuration s k acts w Running) = Sound s k acts w
  SoundAt (configuration s k acts w _) = Unit {0}

  module _ (rules : Rules) (in_words : c.limits.area ≤ 32768) where
    -- ---- calls

    module _ (t : Moment c) (tg : Target) (line : ℕ) (wanted : Bool) (k : Work) (q n : ℕ) (w : Words) (o : Order) (call_here : slice_get (code c t) q ≡ Some o) (turn : loaded_after o false ≡ Some false) (cheap : weight_of o ≤ 16) (some : 0 < weight_of o) (none_begins : BeginsNone o) (behind : Stands (code c t) (q + 1) (after_call (target_of.Own 0) wanted) n) (carried : Leads_to c t n wanted false k) (facts : Facts c t (Enter tg line wanted k) w) (sound : Sound t.segment (Enter tg line wanted k) t.acts w) where
      no_procedure : (h p : ℕ) (b : Bool) (r : Option Proc) → r ≡ None → enter_procedure (source c) b r t.segment line h p wanted (Enter tg line wanted k) k t.acts w ≡ configuration t.segment (Enter tg line wanted k) t.acts w Stuck
      no_procedure h p true r e = ap (λ x. enter_procedure (source c) true x t.segment line h p wanted (Enter tg line wanted k) k t.acts w) e
      no_procedure h p false r e = ap (λ x. enter_procedure (source c) false x t.segment line h p wanted (Enter tg line wanted k) k t.acts w) e

      entered : (h p : ℕ) → callee_of (source c) (here_in c t) t.acts tg ≡ Calling h p → act (target c) (action_of (target c) (here_in c t) t.calls_below o) (here_in c t) q false t.calls_below w ≡ call (target c) line (Some (ProcedureControl h p)) (here_in c t) q false t.calls_below w → Steps c t (Enter tg line wanted k) q false w
      entered h p callee calls_it = in_unit (slice_get c.units h) refl
        where
          steps : next c t (Enter tg line wanted k) w ≡ enter_step (source c) (Calling h p) t.segment line wanted (Enter tg line wanted k) k t.acts w
          steps = ap (λ x. enter_step (source c) x t.segment line wanted (Enter tg line wanted k) k t.acts w) callee

          lost : Rattle.cw_unit.specs.Configuration.procedure_at (source c) h p ≡ None → Steps c t (Enter tg line wanted k) q false w
          lost e = absurd (subst IsSane (steps ∙ no_procedure h p (nat_lt (length t.acts) c.limits.depth) (Rattle.cw_unit.specs.Configuration.procedure_at (source c) h p) e) facts.sane)

          in_procs : (v : SourceUnit) → slice_get c.units h ≡ Some v → (r : Option Proc) → slice_get v.procs p ≡ r → Steps c t (Enter tg line wanted k) q false w
          in_procs v v_is None e = lost (ap (λ x. Rattle.cw_unit.specs.Configuration.procedure_in x p) v_is ∙ e)
          in_procs v v_is (Some proc) e =
              call_follows c t tg line wanted k q n w h p v proc o v_is e (rules.procedures h p v proc v_is e) call_here turn cheap some none_begins calls_it steps behind carried facts (sound.enough tg line wanted k refl h p v proc callee v_is e) (sound.binds t.calls_below h p v t.calls v_is proc e)

          in_unit : (v : Option SourceUnit) → slice_get c.units h ≡ v → Steps c t (Enter tg line wanted k) q false w
          in_unit None e = lost (ap (λ x. Rattle.cw_unit.specs.Configuration.procedure_in x p) e)
          in_unit (Some v) e = in_procs v e (slice_get v.procs p) refl

      -- what is called, as the orders have it
      entered_by : (x : Callee) (y : Option Control) → callee_of (source c) (here_in c t) t.acts tg ≡ x → act (target c) (action_of (target c) (here_in c t) t.calls_below o) (here_in c t) q false t.calls_below w ≡ call (target c) line y (here_in c t) q false t.calls_below w → ((h p : ℕ) → x ≡ Calling h p → y ≡ Some (ProcedureControl h p)) → (x ≡ Reading → ⊥) → (x ≡ Writing → ⊥) → Steps c t (Enter tg line wanted k) q false w
      entered_by (Calling h p) y e f g0 r0 r1 = entered h p e (f ∙ ap (λ z. call (target c) line z (here_in c t) q false t.calls_below w) (g0 h p refl))
      entered_by Missing y e f g0 r0 r1 = absurd (subst IsSane (ap (λ x. enter_step (source c) x t.segment line wanted (Enter tg line wanted k) k t.acts w) e) facts.sane)
      entered_by Reading y e f g0 r0 r1 = absurd (r0 refl)
      entered_by Writing y e f g0 r0 r1 = absurd (r1 refl)

    -- of a place, or of a control argument
    abbrev Which : Callee → ℕ × ℕ
    Which (Calling h p) = (h, p)
    Which _ = (0, 0)

    abbrev IsCalling : Callee → Type 0
    IsCalling (Calling h p) = Unit {0}
    IsCalling _ = ⊥

    place_is : (x : Option (ℕ × ℕ)) (h p : ℕ) → callee_of_place x ≡ Calling h p → as_procedure x ≡ Some (ProcedureControl h p)
    place_is None h p e = absurd (subst IsCalling (sym e) tt)
    place_is (Some (a, b)) h p e = ap (λ z. Some (ProcedureControl z.0 z.1)) (ap Which e)

    control_of : (x : Option Control) (h p : ℕ) → callee_of_control x ≡ Calling h p → x ≡ Some (ProcedureControl h p)
    control_of None h p e = absurd (subst IsCalling (sym e) tt)
    control_of (Some (LabelControl a b d)) h p e = absurd (subst IsCalling (sym e) tt)
    control_of (Some (SwitchControl a b d)) h p e = absurd (subst IsCalling (sym e) tt)
    control_of (Some (ProcedureControl a b)) h p e = ap (λ z. Some (ProcedureControl z.0 z.1)) (ap Which e)

    abbrev IsByte : Callee → Type 0
    IsByte Reading = Unit {0}
    IsByte Writing = Unit {0}
    IsByte _ = ⊥

    place_no_byte : (x : Option (ℕ × ℕ)) → IsByte (callee_of_place x) → ⊥
    place_no_byte None h = h
    place_no_byte (Some q) h = h

    control_no_byte : (x : Option Control) → IsByte (callee_of_control x) → ⊥
    control_no_byte (Some (LabelControl a b d)) h = h
    control_no_byte _ h = h

    reading : (x : Callee) → x ≡ Reading → IsByte x
    reading x e = subst IsByte (sym e) tt

    writing : (x : Callee) → x ≡ Writing → IsByte x
    writing x e = subst IsByte (sym e) tt

    own_after : (p : ℕ) (wanted : Bool) → after_call (target_of.Own p) wanted ≡ after_call (target_of.Own 0) wanted
    own_after p true = refl
    own_after p false = refl

    common_after : (d : ℕ) (wanted : Bool) → after_call (target_of.Common d) wanted ≡ after_call (target_of.Own 0) wanted
    common_after d true = refl
    common_after d false = refl

    special_after : (j : ℕ) (f : Option Rattle.cw_unit.specs.declared.descriptor.Scale.Scale) (wanted : Bool) → after_call (target_of.Special j f) wanted ≡ after_call (target_of.Own 0) wanted
    special_after j f true = refl
    special_after j f false = refl

    enters : (t : Moment c) (tg : Target) (line : ℕ) (wanted : Bool) (k : Work) (q n : ℕ) (w : Words) → Stands (code c t) q (call_order (at_line line (scope c t)) tg ∷ after_call tg wanted) n → IsTrue (answered tg wanted) → Leads_to c t n wanted false k → Facts c t (Enter tg line wanted k) w → Sound t.segment (Enter tg line wanted k) t.acts w → Steps c t (Enter tg line wanted k) q false w
    enters t (target_of.Own p) line wanted k q n w stands answer carried facts sound =
        entered t (target_of.Own p) line wanted k q n w (order.CallProc p line) stands.0 refl (omega arith) (omega arith) (λ g x. refl) (subst (λ os. Stands (code c t) (q + 1) os n) (own_after p wanted) stands.1) carried facts sound (here_in c t) p refl refl
    enters t (target_of.Common d) line wanted k q n w stands answer carried facts sound =
        let x = procedure_of_def (definition_of (source c) (here_in c t) d) in
        entered_by t (target_of.Common d) line wanted k q n w (order.CallCommon d line) stands.0 refl (omega arith) (omega arith) (λ g x. refl) (subst (λ os. Stands (code c t) (q + 1) os n) (common_after d wanted) stands.1) carried facts sound
        (callee_of_place x) (as_procedure x) refl
        (ap (λ z. call (target c) line (as_procedure (procedure_of_def z)) (here_in c t) q false t.calls_below w) (defined_is c t d))
        (λ h p e. place_is x h p e)
        (λ e. place_no_byte x (reading (callee_of_place x) e))
        (λ e. place_no_byte x (writing (callee_of_place x) e))
    enters t (target_of.Special j f) line wanted k q n w stands answer carried facts sound =
        let at = control_place (scope c t).parameters j in
        by_control (control_at t.acts j) refl
      where
        by_control : (x : Option Control) → control_at t.acts j ≡ x → Steps c t (Enter (target_of.Special j f) line wanted k) q false w
        by_control x e =
            let at = control_place (scope c t).parameters j in
            entered_by t (target_of.Special j f) line wanted k q n w (order.CallSpecial at line) stands.0 refl (omega arith) (omega arith) (λ g x. refl) (subst (λ os. Stands (code c t) (q + 1) os n) (special_after j f wanted) stands.1) carried facts sound
            (callee_of_control x) (order_control t.calls_below at) (ap callee_of_control e) refl
            (λ h p is. control_is c t.segment t.acts t.calls_below t.unit t.unit_is t.calls j (ProcedureControl h p) (e ∙ control_of x h p is))
            (λ is. control_no_byte x (reading (callee_of_control x) is))
            (λ is. control_no_byte x (writing (callee_of_control x) is))
    enters t target_of.Read line wanted k q n w stands answer carried facts sound = byte_read c t line wanted k q n w stands carried facts
    enters t target_of.Write line true k q n w stands answer carried facts sound = absurd (false≢true answer)
    enters t target_of.Write line false k q n w stands answer carried facts sound =
        byte_written c t line false k q n w.operands w.memory w.input w.output stands carried facts

    -- ---- the end of a body

    ends_at : (s q : ℕ) (u : SourceUnit) (w : Words) → slice_get c.units s ≡ Some u → slice_get (c.orders_for u).list q ≡ Some order.NextBody → w.operands ≡ [] → Goes c (configuration s Nothing [] w Running) (state s q false [] w Running)
    ends_at s q u w unit_is h empty = next_unit (slice_get c.units (s + 1)) refl
      where
        no_hand : Rattle.cw_unit.specs.Words.with_operands w [] ≡ w
        no_hand = ap (λ xs. Rattle.cw_unit.specs.Words.with_operands w xs) (sym empty)

        at_q : Rattle.cw_order.specs.OrderProgram.order_at (target c) s q ≡ Some order.NextBody
        at_q = Rattle.cw_carry.proofs.Expressions.Stepping.order_here c s [] [] u unit_is q order.NextBody h

        units_are : (v : Option SourceUnit) → slice_get c.units (s + 1) ≡ v → slice_get (target c).units (s + 1) ≡ option_map c.orders_for v
        units_are v e = slice_get-map c.orders_for c.units (s + 1) ∙ ap (option_map c.orders_for) e

        goes_to : (x : Configuration) (y : OrderState) → (A c).step (configuration s Nothing [] w Running) ≡ x → (orders c).step (state s q false [] w Running) ≡ y → Belong c x y → Goes c (configuration s Nothing [] w Running) (state s q false [] w Running)
        goes_to x y e f belongs = record {
          spent = 22;
          reached = y;
          path = move (inl refl, ap (λ x. started_by x s w) at_q) f (let z : 22 ≡ Rattle.cw_order.specs.OrderCosts.weight_at (Rattle.cw_order.specs.OrderProgram.order_at (target c) s q) + 0 = omega (arith, ap Rattle.cw_order.specs.OrderCosts.weight_at at_q) in z) (stay refl refl);
          within = (let z : 22 ≤ 224 = omega arith in z);
          belongs = subst (λ d. Belong c d y) (sym e) belongs;
          progress = inl (let z : 0 < 22 = omega arith in z);
        }

        next_unit : (v : Option SourceUnit) → slice_get c.units (s + 1) ≡ v → Goes c (configuration s Nothing [] w Running) (state s q false [] w Running)
        next_unit None e =
            goes_to (configuration s Nothing [] w Ended) (state s q false [] w Ended) (ap (λ x. source_next_body (source c) x s [] w) e)
            (ap (λ x. Rattle.cw_order.specs.OrderMachine.carry_out (target c) x s q false [] w) at_q ∙ ap (λ x. order_next_body x s q false w) (units_are None e))
            (over refl refl)
        next_unit (Some v) e =
            goes_to (configuration (s + 1) (Run v.body Nothing) [] w Running) (state (s + 1) (c.orders_for v).entry false [] w Running) (ap (λ x. source_next_body (source c) x s [] w) e)
            (ap (λ x. Rattle.cw_order.specs.OrderMachine.carry_out (target c) x s q false [] w) at_q ∙ ap (λ x. order_next_body x s q false w) (units_are (Some v) e) ∙ ap (λ x. state (s + 1) (c.orders_for v).entry false [] x Running) no_hand)
            (going v e false tt (rules.begins (s + 1) v e) tt)

    -- ---- works that look at the calls

    IsEmpty : List Activation → Type 0
    IsEmpty [] = Unit {0}
    IsEmpty (a ∷ acts) = ⊥

    nothing_from : (s : ℕ) (acts : List Activation) (bs : List OrderActivation) (u : SourceUnit) (w : Words) (q : ℕ) → slice_get c.units (segment_of s acts) ≡ Some u → AllCalls c s acts bs → slice_get (c.orders_for u).list q ≡ Some order.NextBody → acts ≡ [] → w.operands ≡ [] → Goes c (configuration s Nothing acts w Running) (state (segment_of s acts) q false bs w Running)
    unfolding IsEmpty
    nothing_from s [] [] u w q unit_is calls h none empty = ends_at s q u w unit_is h empty
    nothing_from s [] (b ∷ bs) u w q unit_is calls h none empty = absurd calls
    nothing_from s (a ∷ acts) bs u w q unit_is calls h none empty = absurd (subst IsEmpty (sym none) tt)

    no_caller : (s : ℕ) (hand : List Operand) (now : Work) (w : Words) → IsSane (Rattle.cw_unit.specs.Step.come_back_with hand s now [] w) → ⊥
    no_caller s (Word z ∷ rest) now w h = h
    no_caller s _ now w h = h

    return_from : (s : ℕ) (acts : List Activation) (bs : List OrderActivation) (u : SourceUnit) (w : Words) (q : ℕ) → slice_get c.units (segment_of s acts) ≡ Some u → AllCalls c s acts bs → slice_get (c.orders_for u).list q ≡ Some (order.Return (argument_words (parameters_of u (who_of acts))) true) → 24 + stack_words w.operands bs ≤ c.room → IsSane ((A c).step (configuration s Return acts w Running)) → Goes c (configuration s Return acts w Running) (state (segment_of s acts) q true bs w Running)
    return_from s [] bs u w q unit_is calls h room sane = absurd (no_caller s w.operands Return w sane)
    return_from s (a ∷ acts) [] u w q unit_is calls h room sane = absurd calls
    return_from s (a ∷ acts) (b ∷ bs) u w q unit_is calls h room sane = return_follows c s a acts b bs u unit_is calls w q w.operands refl h room sane

    leave_from : (s : ℕ) (acts : List Activation) (bs : List OrderActivation) (u : SourceUnit) (w : Words) (q : ℕ) → slice_get c.units (segment_of s acts) ≡ Some u → AllCalls c s acts bs → slice_get (c.orders_for u).list q ≡ Some (order.Const 0) → slice_get (c.orders_for u).list (q + 1) ≡ Some (order.Return (argument_words (parameters_of u (who_of acts))) true) → 24 + stack_words w.operands bs ≤ c.room → IsSane ((A c).step (configuration s Leave acts w Running)) → Goes c (configuration s Leave acts w Running) (state (segment_of s acts) q false bs w Running)
    leave_from s [] bs u w q unit_is calls zero_at h room sane = absurd sane
    leave_from s (a ∷ acts) [] u w q unit_is calls zero_at h room sane = absurd calls
    leave_from s (a ∷ acts) (b ∷ bs) u w q unit_is calls zero_at h room sane = leave_follows c s a acts b bs u unit_is calls w q zero_at h room

    -- ---- all works

    module _ (s : ℕ) (acts : List Activation) (bs : List OrderActivation) (u : SourceUnit) (unit_is : slice_get c.units (segment_of s acts) ≡ Some u) (calls : AllCalls c s acts bs) (w : Words) (fits : WordsFit w) where
      moment : (k : Work) → Sound s k acts w → Moment c
      moment k sound = record {
        segment = s;
        acts = acts;
        calls_below = bs;
        unit = u;
        unit_is = unit_is;
        calls = calls;
        in_words = in_words;
        stand = sound.stand bs u calls unit_is;
      }

      facts_of : (k : Work) (sound : Sound s k acts w) → Facts c (moment k sound) k w
      unfolding moment
      facts_of k sound = record { fits = fits; memory = sound.memory; room = roomy s w.operands acts bs calls sound.room; sane = sound.sane }

      abbrev Carried : (q : ℕ) → (l r : Bool) → Work → Type 0
      Carried q l r k = CarriedIn c.units c.addresses c.limits c.orders_for c.places c.has_words (segment_of s acts) u (who_of acts) q l r k

      abbrev Noting : Work → (q : ℕ) → (l : Bool) → Type 0
      Noting k q l = GoesNoting c (configuration s k acts w Running) (state (segment_of s acts) q l bs w Running) ⊎ Leaps c (configuration s k acts w Running) (state (segment_of s acts) q l bs w Running)

      -- by single steps at which no statement begins
      singly : {k : Work} {q : ℕ} {l : Bool} → Goes c (configuration s k acts w Running) (state (segment_of s acts) q l bs w Running) → begins (configuration s k acts w Running) ≡ [] → Noting k q l
      singly goes none = inl (quietly c goes none)

      -- where the accumulator is as the work has it
      turned_to : (k : Work) (q : ℕ) (l m : Bool) → l ≡ m → Noting k q m → Noting k q l
      turned_to k q l m same goes = subst (Noting k q) (sym same) goes

      goes_on : (k : Work) (q : ℕ) (l r : Bool) → Ready c.limits.area r w.operands → Carried q l r k → Sound s k acts w → Noting k q l
      unfolding moment
      goes_on Nothing q l r ready (h, same) sound = let none = sound.ends refl in turned_to Nothing q l false same (singly (nothing_from s acts bs u w q unit_is calls h none.0 none.1) refl)
      goes_on (Run st k) q l r ready (n, levels, j, at, le, same, via) sound = turned_to (Run st k) q l false same (inl (rules.statement (moment (Run st k) sound) st k q n levels j w at le via (facts_of (Run st k) sound)))
      goes_on (Eval e f line k) q l r ready (n, levels, j, free, last, b, made, le, same, via) sound =
          turned_to (Eval e f line k) q l false same (⊎_elim (λ goes. singly goes refl) (λ leaps. inr leaps) (evaluation_goes c (moment (Eval e f line k) sound) line e f k q n levels j free last w b made le via (facts_of (Eval e f line k) sound)))
      goes_on (Address a line k) q l r ready (n, free, last, b, made, same, carried) sound =
          turned_to (Address a line k) q l false same (⊎_elim (λ goes. singly goes refl) (λ leaps. inr leaps) (address_goes c (moment (Address a line k) sound) line a k q n free last w b made carried (facts_of (Address a line k) sound)))
      goes_on (FormAt spot line k) q l r ready (n, b, stands, same, carried) sound =
          turned_to (FormAt spot line k) q l (takes_index (out-Spot spot)) same (singly (address_formed c (moment (FormAt spot line k) sound) spot line k q n w b stands carried (facts_of (FormAt spot line k) sound) (sound.compared u unit_is spot line k refl)) refl)
      goes_on (Do op line k) q l r ready (n, f, stands, same, carried) sound =
          turned_to (Do op line k) q l true same (singly (operation c (moment (Do op line k) sound) op line k q n r w f stands ready carried (facts_of (Do op line k) sound)) refl)
      goes_on (Test d line pass fail) q l r ready (when, mark, to, n, free, last, b, made, to_is, same, on, at_mark) sound =
          turned_to (Test d line pass fail) q l false same (singly (test_follows c (moment (Test d line pass fail) sound) d when line pass fail q mark to n free last w b made to_is on at_mark) refl)
      goes_on (Choose op line pass fail) q l r ready (when, mark, to, h, to_is, same, on, at_mark) sound =
          turned_to (Choose op line pass fail) q l true same (singly (choice_follows c (moment (Choose op line pass fail) sound) op when line pass fail q mark to w.operands w.memory w.input w.output h to_is on at_mark sound.sane) refl)
      goes_on (Jump d line) q l r ready (at, same) sound = turned_to (Jump d line) q l (takes_number d) same (singly (rules.jump (moment (Jump d line) sound) d line q w at (facts_of (Jump d line) sound) (sound.jumps d line refl)) refl)
      goes_on (Give a line k) q l r ready (n, free, last, b, made, same, carried) sound =
          turned_to (Give a line k) q l false same (singly (argument_follows c (moment (Give a line k) sound) a line k q n free last w b made carried (facts_of (Give a line k) sound)) refl)
      goes_on (Enter tg line wanted k) q l r ready (n, stands, answer, same, carried) sound =
          turned_to (Enter tg line wanted k) q l false same (singly (enters (moment (Enter tg line wanted k) sound) tg line wanted k q n w stands answer carried (facts_of (Enter tg line wanted k) sound) sound) refl)
      goes_on Return q l r ready (h, same) sound = turned_to Return q l true same (singly (return_from s acts bs u w q unit_is calls h (roomy s w.operands acts bs calls sound.room) sound.sane) refl)
      goes_on Leave q l r ready ((zero_at, h), same) sound = turned_to Leave q l false same (singly (leave_from s acts bs u w q unit_is calls zero_at h (roomy s w.operands acts bs calls sound.room) sound.sane) refl)
      goes_on (KeepAt i x k) q l r ready (n, b, lt, stands, same, carried) sound =
          turned_to (KeepAt i x k) q l true same (singly (word_kept c (moment (KeepAt i x k) sound) i x k q n w b lt stands carried (facts_of (KeepAt i x k) sound)) refl)
      goes_on (SetVar x k) q l r ready (n, b, stands, same, carried) sound =
          turned_to (SetVar x k) q l true same (singly (variable_set c (moment (SetVar x k) sound) x k q n w b stands carried (facts_of (SetVar x k) sound)) refl)
      goes_on (Element i x k) q l r ready (n, j, at, le, same, via) sound = turned_to (Element i x k) q l false same (singly (rules.element (moment (Element i x k) sound) i x k q n j w at le via (facts_of (Element i x k) sound)) refl)
      goes_on (Turn i x k) q l r ready (n, j, at, le, same, via) sound = turned_to (Turn i x k) q l false same (⊎_elim (λ goes. singly goes refl) (λ leaps. inr leaps) (rules.turn (moment (Turn i x k) sound) i x k q n j w at le via (facts_of (Turn i x k) sound)))
      goes_on (Bump i x k) q l r ready (n, j, at, le, same, via) sound = turned_to (Bump i x k) q l false same (singly (rules.bump (moment (Bump i x k) sound) i x k q n j w at le via (facts_of (Bump i x k) sound)) refl)
      goes_on (On x k) q l r ready (n, j, at, le, same, via) sound = turned_to (On x k) q l false same (⊎_elim (λ goes. singly goes refl) (λ leaps. inr leaps) (rules.on (moment (On x k) sound) x k q n j w at le via (facts_of (On x k) sound)))

      begins_on : (a : Ref) (x : Loop) (k : Work) (q n j : ℕ) → (c.places (segment_of s acts) u (who_of acts)).BeginningAt q a x n → suc j ≤ most_levels → Via (c.orders_for u).list (c.orders_for u).marks j n false (λ y m. Carried y m false k) → Sound s (Address a x.line (KeepAt 0 x (Element 1 x k))) acts w
          → Noting (Address a x.line (KeepAt 0 x (Element 1 x k))) q false
      unfolding moment
      begins_on a x k q n j at le via sound =
          let now = Address a x.line (KeepAt 0 x (Element 1 x k)) in inr (rules.beginning (moment now sound) a x k q n j w at le via (facts_of now sound))

    -- ---- whole runs

    -- each configuration from here on is sound
    abbrev AllSound : Configuration → Type 0
    AllSound x = (n : ℕ) → SoundAt (Rattle.cw_unit.specs.Step.steps (source c) n x)

    pub record Matches (x : Configuration) (t : OrderState) : Type 0 where
      pub belongs : Belong c x t
      pub sound : AllSound x
      pub words_fit : StateFits t

    matching : {x : Configuration} {t : OrderState} → Belong c x t → AllSound x → StateFits t → Matches x t
    matching belongs sound fits = record { belongs = belongs; sound = sound; words_fit = fits }

    module _ (keeps : (t : OrderState) → StateFits t → StateFits ((orders c).step t)) where
      path-fits : (Allowed : Observation × List Begun → Type 0) (n : ℕ) (t v : OrderState) → Path Allowed (B c) n t v → StateFits t → StateFits v
      path-fits Allowed n t v (stay e z) fits = subst StateFits e fits
      path-fits Allowed n t v (move {w' = n'} {t' = t'} a e w p) fits = path-fits Allowed n' t' v p (subst StateFits e (keeps t fits))

      notes-fit : (x : Configuration) (n : ℕ) (t v : OrderState) → Notes (A c) (orders c) begins (starts (target c)) x t n v → StateFits t → StateFits v
      notes-fit x n t v (none_noted none path) fits = path-fits _ n t v path fits
      notes-fit x n t v (same_noted {rest = rest} quiet notes weight path) fits = path-fits _ rest ((orders c).step t) v path (keeps t fits)

      going_on : (x : Configuration) (t : OrderState) → Belong c x t → is_running ((A c).shown x) ≡ true → StateFits t → AllSound x → GoesNoting c x t ⊎ Leaps c x t
      going_on x t (going {s = s} {q = q} {l = l} {k = k} {acts = acts} {bs = bs} {w = w} u unit_is r ready carried calls) on fits sound =
          goes_on s acts bs u unit_is calls w fits.words k q l r ready carried (sound 0)
      going_on x t (beginning {s = s} {q = q} {acts = acts} {bs = bs} {w = w} u unit_is a y k n j at le via calls) on fits sound =
          begins_on s acts bs u unit_is calls w fits.words a y k q n j at le via (sound 0)
      going_on x t (over off same) on fits sound = absurd (true≢false (sym on ∙ off))

      agrees : (x : Configuration) (t : OrderState) → Belong c x t → (orders c).shown t ≡ (A c).shown x
      agrees x t (going u unit_is r ready carried calls) = refl
      agrees x t (beginning u unit_is a y k n j at le via calls) = refl
      agrees x t (over {e = e} off same) = ap (λ o. record { output = o; end = e }) same

      still : (s : ℕ) (k : Work) (acts : List Activation) (g q : ℕ) (l : Bool) (bs : List OrderActivation) (v w : Words) (e : End) → is_running (record { output = w.output; end = e }) ≡ false → ((A c).step (configuration s k acts w e) ≡ configuration s k acts w e) × ((orders c).step (state g q l bs v e) ≡ state g q l bs v e)
      still s k acts g q l bs v w Running off = absurd (true≢false off)
      still s k acts g q l bs v w _ off = (refl, refl)

      rests : (x : Configuration) (t : OrderState) → Belong c x t → is_running ((A c).shown x) ≡ false → ((A c).step x ≡ x) × ((orders c).step t ≡ t)
      rests x t (going u unit_is r ready carried calls) off = absurd (true≢false off)
      rests x t (beginning u unit_is a y k n j at le via calls) off = absurd (true≢false off)
      rests x t (over {s = s} {g = g} {q = q} {l = l} {k = k} {acts = acts} {bs = bs} {v = v} {w = w} {e = e} h same) off = still s k acts g q l bs v w e h

      none-begun : (s : ℕ) (k : Work) (acts : List Activation) (w : Words) (e : End) → is_running (record { output = w.output; end = e }) ≡ false → begins (configuration s k acts w e) ≡ []
      none-begun s (Run st k) acts w Running off = absurd (true≢false off)
      none-begun s (Run st k) acts w Ended off = refl
      none-begun s (Run st k) acts w (Stopped kind h line) off = refl
      none-begun s (Run st k) acts w Stuck off = refl
      none-begun s _ acts w e off = refl

      none-started : (g q : ℕ) (l : Bool) (bs : List OrderActivation) (v w : Words) (e : End) → is_running (record { output = w.output; end = e }) ≡ false → starts (target c) (state g q l bs v e) ≡ []
      none-started g q l bs v w Running off = absurd (true≢false off)
      none-started g q l bs v w _ off = refl

      idle : (x : Configuration) (t : OrderState) → Belong c x t → is_running ((A c).shown x) ≡ false → (begins x ≡ []) × (starts (target c) t ≡ [])
      idle x t (going u unit_is r ready carried calls) off = absurd (true≢false off)
      idle x t (beginning u unit_is a y k n j at le via calls) off = absurd (true≢false off)
      idle x t (over {s = s} {g = g} {q = q} {l = l} {k = k} {acts = acts} {bs = bs} {v = v} {w = w} {e = e} h same) off = (none-begun s k acts w e h, none-started g q l bs v w e h)

      -- what is behind a sound configuration is sound
      sound-behind : {x y : Configuration} → SilentWay (A c) begins x y → AllSound x → AllSound y
      sound-behind (only_step e none) sound = λ n. subst (λ z. SoundAt (Rattle.cw_unit.specs.Step.steps (source c) n z)) e (sound (suc n))
      sound-behind (step_then e none same way) sound = sound-behind way (λ n. subst (λ z. SoundAt (Rattle.cw_unit.specs.Step.steps (source c) n z)) e (sound (suc n)))

      followed : (x : Configuration) (t : OrderState) → Matches x t → GoesNoting c x t → FollowedNoting (A c) (orders c) begins (starts (target c)) Matches (rank c) x t
      followed x t match goes = record {
        spent = goes.spent;
        reached = goes.reached;
        notes = goes.notes;
        within = goes.within;
        matched = matching goes.belongs (λ n. match.sound (suc n)) (notes-fit x goes.spent t goes.reached goes.notes match.words_fit);
        progress = goes.progress;
      }

      leapt : {x : Configuration} {t : OrderState} → Matches x t → Leaps c x t → LeaptNoting (A c) (orders c) begins (starts (target c)) Matches (rank c) x t
      leapt {t = t} match leaps = record {
        to = leaps.to;
        way = leaps.way;
        spent = leaps.spent;
        reached = leaps.reached;
        path = leaps.path;
        within = leaps.within;
        matched = matching leaps.belongs (sound-behind leaps.way match.sound) (path-fits _ leaps.spent t leaps.reached leaps.path match.words_fit);
        progress = leaps.progress;
      }

      follows : (x : Configuration) (t : OrderState) → Matches x t → is_running ((A c).shown x) ≡ true → FollowedNoting (A c) (orders c) begins (starts (target c)) Matches (rank c) x t ⊎ LeaptNoting (A c) (orders c) begins (starts (target c)) Matches (rank c) x t
      follows x t match on =
          ⊎_elim (λ (goes : GoesNoting c x t). inl (followed x t match goes)) (λ (leaps : Leaps c x t). inr (leapt match leaps))
          (going_on x t match.belongs on match.words_fit match.sound)

      simulation : SimulationNoting is_running (A c) (orders c) begins (starts (target c)) Matches (rank c)
      simulation = record {
        agrees = λ x t match. agrees x t match.belongs;
        rests = λ x t match off. rests x t match.belongs off;
        idle = λ x t match off. idle x t match.belongs off;
        follows = follows;
      }

      -- the orders show what the source shows, and begin the statements that it begins
      pub tracked : (x : Configuration) (t : OrderState) → Matches x t → Tracks (λ o. is_running o.0) (watched (A c) begins) (x, []) (watched (orders c) (starts (target c))) (t, [])
      tracked x t match =
          let begun_by = starts (target c) in
          tracks_leaping (λ o. is_running o.0) (watched (A c) begins) (watched (orders c) begun_by) (λ x t. Matches x.0 t.0 × (t.1 ≡ x.1)) (λ x. rank c x.0) (simulation_watched is_running (A c) (orders c) begins begun_by Matches (rank c) simulation) (x, []) (t, []) (match, refl)
