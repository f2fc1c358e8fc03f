-- The orders follow the source into procedures and back.
use Rattle.std.proofs.Common.{◌≡◌, inl, ℕ, zero, suc, ◌+◌, ◌<◌, ◌≤◌, ℤ, List, [], ◌∷◌, map, length, take, drop, Bool, true, false, Option, Some, None, refl, sym, ap, ap₂, ◌∙◌, subst, arith, leb-true}
use Rattle.std.specs.Prelude.{slice_get, slice_index, slice_index_or, IsTrue, nat_lt, nat_le, ◌&&◌, option_map, set}
use Rattle.std.proofs.lemmas.Bool.{le-leb}
use Rattle.std.proofs.lemmas.Option.{none-some, same_Some, slice_get-map}
use Rattle.cw_track.proofs.Paths.{Path, stay, next as move, join, weaken}
use Rattle.cw_unit.specs.declared.unit.Unit.{Unit as SourceUnit}
use Rattle.cw_unit.specs.declared.unit.Proc.{Proc}
use Rattle.cw_unit.specs.declared.unit.Target.{Target}
use Rattle.cw_unit.specs.declared.unit.Target.TheVariants as target_of
use Rattle.cw_unit.specs.Storage.{layout_of}
use Rattle.cw_unit.specs.Program.{no_layout, item_address}
use Rattle.cw_unit.specs.Stop.{StopKind, DepthReached, FramesFull, Running, Stopped}
use Rattle.cw_unit.specs.Words.{Control, ProcedureControl, Operand, Word, Held, Words, Changed, with_operands, with_memory}
use Rattle.cw_unit.specs.Work.{Work, Run, Enter, Leave}
use Rattle.cw_unit.specs.Configuration.{at as configuration, Activation, procedure_in, frame_size_of, frame_top}
use Rattle.cw_unit.specs.Step.{Bound, bind_all, first_operands, begun, enter_framed, enter_procedure, enter_step, Calling}
use Rattle.cw_unit.specs.Behaviour.{shown}
use Rattle.cw_order.specs.declared.order.Order.{Order}
use Rattle.cw_order.specs.declared.order.Order.TheVariants as order
use Rattle.cw_order.specs.OrderProgram.{mark_in, place_of, procedure_at as order_procedure, procedure_in as order_procedure_in}
use Rattle.cw_order.specs.OrderState.{OrderActivation, OrderState, at as state, operand_words, stack_words, frame_end, argument_behind}
use Rattle.cw_order.specs.Loading.{loaded_after}
use Rattle.cw_order.specs.OrderActions.{action_of}
use Rattle.cw_order.specs.OrderCosts.{weight_of, weight_at}
use Rattle.cw_order.specs.OrderMachine.{act, carry_out, call, called, call_at, call_entry, enter, enter_with}
use Rattle.cw_order.specs.Starting.{started_by}
use Rattle.cw_gen_expr.specs.ReferenceExpressions.{argument_words}
use Rattle.cw_gen_expr.specs.UnitTables.{tables_of, procedure_mark, procedure_entry}
use Rattle.cw_carry.proofs.Expressions.Standing.{Stands}
use Rattle.cw_carry.proofs.Expressions.Effects.{BeginsNone, effect, total_weight, total_growth, run_through}
use Rattle.cw_carry.proofs.Expressions.Carried.{here, LeavesAt, after_call, going, over}
use Rattle.cw_gen_unit.specs.Endings.{comes_to_end}
use Rattle.cw_gen_expr.specs.ReferenceEntries.{parameters_in, parameters_of}
use Rattle.cw_carry.proofs.Expressions.Operations.{words}
use Rattle.cw_carry.proofs.Expressions.Stepping.{Quiet, Compiled, source, target, B, AllCalls, Belong, Seen, IsSane, order_here}
use Rattle.cw_carry.proofs.Expressions.Moments.{Moment, here_in, code, Leads_to, Steps, config, next, Facts, one_order}
use Rattle.cw_carry.proofs.Expressions.Arguments.{same_length}
use Rattle.cw_carry.proofs.Expressions.Binding.{all_bound, bind_light, bind_flat, bind_on_line, bind_free, reversed_words, reversed_back}
use Rattle.cw_gen_expr.specs.NamedItems.{ItemsFit}
use Rattle.cw_gen_expr.specs.ReferenceEntries.{bound_order, bind_orders}

pub layout_is : (us : List SourceUnit) (g : ℕ) (u : SourceUnit) → slice_get us g ≡ Some u → slice_index_or (map layout_of us) g no_layout ≡ layout_of u
layout_is [] g u h = absurd (none-some u h)
layout_is (v ∷ us) zero u h = ap layout_of (same_Some v u h)
layout_is (v ∷ us) (suc g) u h = layout_is us g u h

-- the arguments are counted with the operands that they stood on
taken_words : (n : ℕ) (xs : List Operand) (bs : List OrderActivation) → operand_words (take n xs) + stack_words (drop n xs) bs ≡ stack_words xs bs
taken_words zero xs bs = let e : 0 + stack_words xs bs ≡ stack_words xs bs = omega arith in e
taken_words (suc n) [] bs = let e : 0 + stack_words [] bs ≡ stack_words [] bs = omega arith in e
taken_words (suc n) (Word z ∷ xs) bs = omega (arith, taken_words n xs bs, on_word z xs bs)
  where
    on_word : (z : ℤ) (xs : List Operand) (bs : List OrderActivation) → stack_words (Word z ∷ xs) bs ≡ 1 + stack_words xs bs
    on_word z xs [] = refl
    on_word z xs (b ∷ bs) = omega arith
taken_words (suc n) (Held c ∷ xs) bs = omega (arith, taken_words n xs bs, on_held c xs bs)
  where
    on_held : (c : Control) (xs : List Operand) (bs : List OrderActivation) → stack_words (Held c ∷ xs) bs ≡ 2 + stack_words xs bs
    on_held c xs [] = refl
    on_held c xs (b ∷ bs) = omega arith

module _ (c : Compiled) where
  -- a procedure stands in its unit: its mark, its entry, its body, and the return behind that where a run may come there
  pub record ProcedureAt (h : ℕ) (v : SourceUnit) (p : ℕ) (proc : Proc) : Type 0 where
    pub entry : ℕ
    pub marked : slice_get (c.orders_for v).marks (procedure_mark v p) ≡ Some entry
    pub few : length proc.params ≤ 32
    pub items : ItemsFit (λ i. IsTrue (c.has_words h v (Some p) i 1)) proc.params
    pub start : ℕ
    pub enters : Stands (c.orders_for v).list entry (order.Enter (slice_index (layout_of v).frames p) ∷ bind_orders (layout_of v) proc.params) start
    pub after : ℕ
    pub body : (c.places h v (Some p)).StatementAt start proc.body 64 after
    pub leaves : IsTrue (comes_to_end proc.body) → LeavesAt (c.orders_for v).list after (argument_words proc.params)

  -- where the next frame begins
  pub frames_agree : (s : ℕ) (acts : List Activation) (bs : List OrderActivation) → AllCalls c s acts bs → frame_end (target c) bs ≡ frame_top (source c) acts
  frames_agree s [] [] calls = refl
  frames_agree s [] (b ∷ bs) calls = absurd calls
  frames_agree s (a ∷ acts) [] calls = absurd calls
  frames_agree s (a ∷ acts) (b ∷ bs) calls = calls.0.top

  size_is : (h p : ℕ) (v : SourceUnit) → slice_get c.units h ≡ Some v → slice_index (layout_of v).frames p ≡ frame_size_of (source c) h p
  size_is h p v is = sym (ap (λ y. slice_index y.frames p) (layout_is c.units h v is))

  entry_is : (h p : ℕ) (v : SourceUnit) (proc : Proc) → slice_get c.units h ≡ Some v → slice_get v.procs p ≡ Some proc → order_procedure (target c) h p ≡ Some (procedure_entry v p proc)
  entry_is h p v proc is h' =
      ap (λ x. order_procedure_in x p) (slice_get-map (tables_of c.units) c.units h ∙ ap (option_map (tables_of c.units)) is) ∙ ap (option_map (procedure_entry v p)) h'

  module _ (t : Moment c) (tg : Target) (line : ℕ) (wanted : Bool) (k : Work) (q n : ℕ) (w : Words) (h p : ℕ) (v : SourceUnit) (proc : Proc) (o : Order) (v_is : slice_get c.units h ≡ Some v) (proc_is : slice_get v.procs p ≡ Some proc) (stands : ProcedureAt h v p proc) (call_here : slice_get (code c t) q ≡ Some o) (turn : loaded_after o false ≡ Some false) (cheap : weight_of o ≤ 16) (some : 0 < weight_of o) (none_begins : BeginsNone o) (calls_it : act (target c) (action_of (target c) (here_in c t) t.calls_below o) (here_in c t) q false t.calls_below w ≡ call (target c) line (Some (ProcedureControl h p)) (here_in c t) q false t.calls_below w) (goes_in : next c t (Enter tg line wanted k) w ≡ enter_step (source c) (Calling h p) t.segment line wanted (Enter tg line wanted k) k t.acts w) (behind : Stands (code c t) (q + 1) (after_call (target_of.Own 0) wanted) n) (carried : Leads_to c t n wanted false k) (facts : Facts c t (Enter tg line wanted k) w) (enough : length proc.params ≤ length w.operands) (binds : frame_top (source c) t.acts + frame_size_of (source c) h p ≤ c.limits.area → (b : OrderActivation) (j i : ℕ) (z : ℤ) (x : Words) → b.frame_base ≡ frame_top (source c) t.acts → IsTrue (c.has_words h v (Some p) i 1) → argument_behind j b.arguments ≡ Some (Word z) → effect (target c) h (b ∷ t.calls_below) (bound_order (layout_of v) j i) x ≡ Changed (with_memory x (set x.memory (item_address (source c) h i (frame_top (source c) t.acts)) z))) where
    abbrev now : Work
    now = Enter tg line wanted k

    abbrev bs : List OrderActivation
    bs = t.calls_below

    abbrev g : ℕ
    g = here_in c t

    abbrev size : ℕ
    size = slice_index (layout_of v).frames p

    -- the record of the call, before and after the entry
    abbrev begins : OrderActivation
    begins = called (length proc.params) (frame_end (target c) bs) g q line w.operands

    abbrev entered : OrderActivation
    entered = record begins { entered = true; frame_top = begins.frame_base + size }

    abbrev empty : Words
    empty = with_operands w []

    abbrev activation : Bound → Activation
    activation b = record {
      segment = h;
      procedure = p;
      work = k;
      operands = drop (length proc.params) w.operands;
      controls = b.controls;
      frame_base = frame_top (source c) t.acts;
      wanted = wanted;
    }

    room : nat_le (stack_words [] (begins ∷ bs)) c.room ≡ true
    room =
        let all = taken_words (length proc.params) w.operands bs in
        le-leb (stack_words [] (begins ∷ bs)) c.room (let z : 0 + (6 + (operand_words (take (length proc.params) w.operands) + stack_words (drop (length proc.params) w.operands) bs)) ≤ c.room = omega (arith, facts.room, all) in z)

    placed : place_of (target c) h (procedure_mark v p) ≡ Some stands.entry
    placed = ap (λ x. mark_in x (procedure_mark v p)) (slice_get-map c.orders_for c.units h ∙ ap (option_map c.orders_for) v_is) ∙ stands.marked

    -- the call
    calls_on : Path (Seen c t.segment t.acts bs t.unit t.unit_is w) (B c) (weight_of o) (state g q false bs w Running) (state h stands.entry false (begins ∷ bs) empty Running)
    calls_on =
        one_order c t o q false false w (state h stands.entry false (begins ∷ bs) empty Running) none_begins call_here turn
        (calls_it ∙ ap (λ e. call_entry (target c) line e h g q false bs w) (entry_is h p v proc v_is proc_is)
        ∙ ap₂ (λ a b. call_at (a && b) (place_of (target c) h (procedure_mark v p)) h begins g q false bs w) (le-leb (length proc.params) (length w.operands) enough) room
        ∙ ap (λ x. call_at true x h begins g q false bs w) placed)

    -- the entry
    enter_one : (b : Bound) (u : OrderState) → enter (target c) size h stands.entry false (begins ∷ bs) empty ≡ u → Path (Seen c t.segment t.acts bs t.unit t.unit_is w) (B c) 30 (state h stands.entry false (begins ∷ bs) empty Running) u
    enter_one b u e =
        let at_q = order_here c t.segment (activation b ∷ t.acts) (begins ∷ bs) v v_is stands.entry (order.Enter size) stands.enters.0 in
        move (refl, ap (λ x. started_by x h empty) at_q) (ap (λ x. carry_out (target c) x h stands.entry false (begins ∷ bs) empty) at_q ∙ e) (let z : 30 ≡ weight_at (Rattle.cw_order.specs.OrderProgram.order_at (target c) h stands.entry) + 0 = omega (arith, ap weight_at at_q) in z) (stay refl refl)

    no_bound : Bound
    no_bound = record { memory = []; controls = [] }

    -- a stop at the entry is the caller's
    refuses : (kind : StopKind) → next c t now w ≡ configuration t.segment now t.acts w (Stopped kind (g + 1) line) → enter (target c) size h stands.entry false (begins ∷ bs) empty ≡ state h stands.entry false (begins ∷ bs) empty (Stopped kind (g + 1) line) → Steps c t now q false w
    refuses kind e f =
        let u = state h stands.entry false (begins ∷ bs) empty (Stopped kind (g + 1) line) in
        let path = join (Seen c t.segment t.acts bs t.unit t.unit_is w) (B c) (weight_of o) 30 (weight_of o + 30) (state g q false bs w Running) (state h stands.entry false (begins ∷ bs) empty Running) u refl calls_on (enter_one no_bound u f) in
        record {
          spent = weight_of o + 30;
          reached = u;
          path = weaken (Seen c t.segment t.acts bs t.unit t.unit_is w) (Quiet (shown (config c t now w)) (shown (next c t now w))) (B c) (weight_of o + 30) (state g q false bs w Running) u (λ x y. (inl y.0, y.1)) path;
          within = (let z : weight_of o + 30 ≤ 224 = omega (arith, cheap) in z);
          belongs = subst (λ d. Belong c d u) (sym e) (over refl refl);
          progress = inl (let z : 0 < weight_of o + 30 = omega arith in z);
        }

    -- the body begins
    begins_body : frame_top (source c) t.acts + frame_size_of (source c) h p ≤ c.limits.area → (b : Bound) → bind_all (λ i. item_address (source c) h i (frame_top (source c) t.acts)) proc.params (first_operands (length proc.params) w.operands) (Some (record { memory = w.memory; controls = [] })) ≡ Some b → next c t now w ≡ configuration t.segment (Run proc.body Leave) (activation b ∷ t.acts) (words [] b.memory w.input w.output) Running → enter (target c) size h stands.entry false (begins ∷ bs) empty ≡ state h (stands.entry + 1) false (entered ∷ bs) empty Running → Steps c t now q false w
    begins_body fits b bound e f =
        let base = frames_agree t.segment t.acts bs t.calls in
        let hand = take (length proc.params) w.operands in
        let f' = λ (i : ℕ). item_address (source c) h i (frame_top (source c) t.acts) in
        let all = all_bound (target c) h (entered ∷ bs) (layout_of v) (λ i. IsTrue (c.has_words h v (Some p) i 1)) f' hand (λ j i z x valid here'. binds fits entered j i z x base valid here') proc.params (first_operands (length proc.params) w.operands) (record { memory = w.memory; controls = [] }) b stands.items bound in
        let light = bind_light (layout_of v) proc.params in
        let flat = bind_flat (layout_of v) proc.params in
        let counted = taken_words (length proc.params) w.operands bs in
        let runs = all.runs [] [] w.input w.output (reversed_back hand) in
        let ran = run_through (target c) h (entered ∷ bs) (c.orders_for v).list (order_here c t.segment (activation b ∷ t.acts) (entered ∷ bs) v v_is) 0 (bind_orders (layout_of v) proc.params) (stands.entry + 1) stands.start false false empty stands.enters.1 light.0 (bind_on_line 0 (layout_of v) proc.params) (bind_free (layout_of v) proc.params) (let z : total_growth (bind_orders (layout_of v) proc.params) + (0 + (6 + (operand_words hand + stack_words (drop (length proc.params) w.operands) bs))) ≤ c.room = omega (arith, facts.room, counted, flat) in z) in
        let done = subst (λ x. Rattle.cw_carry.proofs.Expressions.Effects.Ran (target c) h (entered ∷ bs) 0 (stands.entry + 1) stands.start false false (bind_orders (layout_of v) proc.params) empty x) runs ran in
        let weight = total_weight (bind_orders (layout_of v) proc.params) in
        let u = state h stands.start false (entered ∷ bs) (words [] b.memory w.input w.output) Running in
        let seen = Seen c t.segment t.acts bs t.unit t.unit_is w in
        let path = join seen (B c) (weight_of o) (30 + weight) (weight_of o + (30 + weight)) (state g q false bs w Running) (state h stands.entry false (begins ∷ bs) empty Running) u refl calls_on
        (join seen (B c) 30 weight (30 + weight) (state h stands.entry false (begins ∷ bs) empty Running) (state h (stands.entry + 1) false (entered ∷ bs) empty Running) u refl (enter_one b (state h (stands.entry + 1) false (entered ∷ bs) empty Running) f) done.0) in
        let here_params : parameters_of v (Some p) ≡ proc.params = ap parameters_in proc_is in
        record {
          spent = weight_of o + (30 + weight);
          reached = u;
          path = weaken seen (Quiet (shown (config c t now w)) (shown (next c t now w))) (B c) (weight_of o + (30 + weight)) (state g q false bs w Running) u (λ x y. (inl y.0, y.1)) path;
          within = (let z : weight_of o + (30 + weight) ≤ 224 = omega (arith, cheap, light.1, stands.few) in z);
          belongs = subst (λ d. Belong c d u) (sym e)
              (going v v_is false tt
              (stands.after, 64, 0, stands.body, (let z : 0 + 64 ≤ 64 = omega arith in z), refl, (λ ends. (stands.after, false, here refl refl, (subst (λ ps. LeavesAt (c.orders_for v).list stands.after (argument_words ps)) (sym here_params) (stands.leaves ends), refl)))) (
                record {
                  unit = t.unit;
                  unit_is = t.unit_is;
                  callee = v;
                  callee_is = v_is;
                  segment = refl;
                  operands = refl;
                  entered = refl;
                  base = base;
                  top = ap₂ (λ x y. x + y) base (size_is h p v v_is);
                  words = (let r = reversed_words hand [] in let z : operand_words hand ≡ argument_words proc.params = omega (arith, r, all.sizes) in z) ∙ ap argument_words (sym here_params);
                  controls = λ j x found. ap (λ ps. argument_behind (Rattle.cw_gen_expr.specs.ReferenceExpressions.control_place ps j) hand) here_params ∙ ap (argument_behind (Rattle.cw_gen_expr.specs.ReferenceExpressions.control_place proc.params j)) (sym (reversed_back hand)) ∙ all.places [] j x (ap (λ xs. slice_get xs j) (sym all.controls) ∙ found);
                  next = n;
                  drops = behind;
                  carried = carried;
                },
                t.calls,
              ));
          progress = inl (let z : 0 < weight_of o + (30 + weight) = omega arith in z);
        }

    -- by the tests of depth and frame
    enters_framed : (b : Bool) → nat_le (frame_top (source c) t.acts + frame_size_of (source c) h p) c.limits.area ≡ b → next c t now w ≡ enter_framed (source c) b t.segment line h p proc wanted now k t.acts w → enter (target c) size h stands.entry false (begins ∷ bs) empty ≡ enter_with false true b size begins h stands.entry false bs empty → Steps c t now q false w
    enters_framed false is e f = refuses FramesFull e f
    enters_framed true is e f = bound_all (bind_all (λ i. item_address (source c) h i (frame_top (source c) t.acts)) proc.params (first_operands (length proc.params) w.operands) (Some (record { memory = w.memory; controls = [] }))) refl e
      where
        bound_all : (r : Option Bound) → bind_all (λ i. item_address (source c) h i (frame_top (source c) t.acts)) proc.params (first_operands (length proc.params) w.operands) (Some (record { memory = w.memory; controls = [] })) ≡ r → next c t now w ≡ begun t.segment h p proc wanted (frame_top (source c) t.acts) now k t.acts w (bind_all (λ i. item_address (source c) h i (frame_top (source c) t.acts)) proc.params (first_operands (length proc.params) w.operands) (Some (record { memory = w.memory; controls = [] }))) → Steps c t now q false w
        bound_all None r e' = absurd (subst IsSane (e' ∙ ap (begun t.segment h p proc wanted (frame_top (source c) t.acts) now k t.acts w) r) facts.sane)
        bound_all (Some b) r e' = begins_body (leb-true (frame_top (source c) t.acts + frame_size_of (source c) h p) c.limits.area is) b r (e' ∙ ap (begun t.segment h p proc wanted (frame_top (source c) t.acts) now k t.acts w) r) f

    enters_deeper : (b : Bool) → nat_lt (length t.acts) c.limits.depth ≡ b → next c t now w ≡ enter_procedure (source c) b (Some proc) t.segment line h p wanted now k t.acts w → enter (target c) size h stands.entry false (begins ∷ bs) empty ≡ enter_with false b (nat_le (begins.frame_base + size) c.limits.area) size begins h stands.entry false bs empty → Steps c t now q false w
    enters_deeper false is e f = refuses DepthReached e (f ∙ no_frame (nat_le (begins.frame_base + size) c.limits.area))
      where
        no_frame : (b : Bool) → enter_with false false b size begins h stands.entry false bs empty ≡ state h stands.entry false (begins ∷ bs) empty (Stopped DepthReached (g + 1) line)
        no_frame true = refl
        no_frame false = refl
    enters_deeper true is e f =
        let base = frames_agree t.segment t.acts bs t.calls in
        enters_framed (nat_le (frame_top (source c) t.acts + frame_size_of (source c) h p) c.limits.area) refl e
        (f ∙ ap₂ (λ x y. enter_with false true (nat_le (x + y) c.limits.area) size begins h stands.entry false bs empty) base (size_is h p v v_is))

    pub call_follows : Steps c t now q false w
    call_follows =
        enters_deeper (nat_lt (length t.acts) c.limits.depth) refl
        (goes_in ∙ ap (λ x. enter_procedure (source c) (nat_lt (length t.acts) c.limits.depth) x t.segment line h p wanted now k t.acts w) (ap (λ x. procedure_in x p) v_is ∙ proc_is))
        (ap (λ m. enter_with false (nat_lt m c.limits.depth) (nat_le (begins.frame_base + size) c.limits.area) size begins h stands.entry false bs empty) (sym (same_length c t.segment t.acts bs t.calls)))
