-- The orders follow the source through jumps, also those that end activations.
use Rattle.std.proofs.Common.{◌≡◌, inl, ℕ, zero, suc, ◌+◌, ◌-◌, ◌<◌, ◌≤◌, List, [], ◌∷◌, length, drop, Bool, false, Option, Some, None, refl, sym, ap, ◌∙◌, subst, arith}
use Rattle.std.specs.Prelude.{slice_get, is_some, option_map}
use Rattle.std.proofs.lemmas.Option.{slice_get-map}
use Rattle.cw_track.proofs.Paths.{join, weaken}
use Rattle.cw_unit.specs.declared.unit.Unit.{Unit as SourceUnit}
use Rattle.cw_unit.specs.declared.unit.Proc.{Proc}
use Rattle.cw_unit.specs.declared.unit.Label.{Label}
use Rattle.cw_unit.specs.Stop.{Running, Stuck}
use Rattle.cw_unit.specs.Words.{LabelControl, Words, with_operands}
use Rattle.cw_unit.specs.Work.{Work, Nothing, Leave}
use Rattle.cw_unit.specs.LabelContinuation.{label_continuation}
use Rattle.cw_unit.specs.Configuration.{at as configuration, Activation, segment_of}
use Rattle.cw_unit.specs.Step.{kept, work_from, jump_in_procedure, jump_in_unit, jump_to_unit, jump_to}
use Rattle.cw_unit.specs.Behaviour.{shown}
use Rattle.cw_order.specs.declared.order.Order.{Order}
use Rattle.cw_order.specs.OrderProgram.{label_at, label_in, mark_in, place_of}
use Rattle.cw_order.specs.OrderState.{OrderActivation, at as state}
use Rattle.cw_order.specs.Loading.{loaded_after}
use Rattle.cw_order.specs.OrderActions.{action_of}
use Rattle.cw_order.specs.OrderCosts.{weight_of}
use Rattle.cw_order.specs.OrderMachine.{act, leave_for, dropped_by, go_to_entry, go_to}
use Rattle.cw_gen_expr.specs.UnitTables.{tables_of, label_mark, label_entry}
use Rattle.cw_carry.proofs.Expressions.Effects.{BeginsNone}
use Rattle.cw_carry.proofs.Expressions.Carried.{Via, who_of, CarriedIn, going}
use Rattle.cw_carry.proofs.Expressions.Stepping.{Quiet, Compiled, source, target, B, AllCalls, Belong, Seen, IsSane, walk}
use Rattle.cw_carry.proofs.Expressions.Moments.{Moment, here_in, code, Steps, config, next, one_order}
use Rattle.cw_carry.proofs.Expressions.Arguments.{same_length}

module _ (c : Compiled) where
  -- the mark of a label is where its continuation is carried out, in the body that has the label
  pub record Reached (h : ℕ) (v : SourceUnit) (who : Option ℕ) (label : ℕ) (k : Work) : Type 0 where
    pub place : ℕ
    pub marked : slice_get (c.orders_for v).marks (label_mark v label) ≡ Some place
    pub carried : Via (c.orders_for v).list (c.orders_for v).marks 64 place false (λ x m. CarriedIn c.units c.addresses c.limits c.orders_for c.places c.has_words h v who x m false k)

  -- each label of a body is reached
  pub record LabelsReach : Type 0 where
    pub of_body : (h : ℕ) (v : SourceUnit) (label : ℕ) (k : Work) → slice_get c.units h ≡ Some v → (m : Label) → slice_get v.labels label ≡ Some m → m.proc ≡ None → label_continuation label v.body Nothing ≡ Some k → Reached h v None label k
    pub of_procedure : (h q : ℕ) (v : SourceUnit) (proc : Proc) (label : ℕ) (k : Work) → slice_get c.units h ≡ Some v → slice_get v.procs q ≡ Some proc → (m : Label) → slice_get v.labels label ≡ Some m → m.proc ≡ Some q → label_continuation label proc.body Leave ≡ Some k → Reached h v (Some q) label k

  -- calls without the last ones
  pub fewer_calls : (s n : ℕ) (acts : List Activation) (bs : List OrderActivation) → AllCalls c s acts bs → AllCalls c s (drop n acts) (drop n bs)
  fewer_calls s zero acts bs calls = calls
  fewer_calls s (suc n) [] [] calls = tt
  fewer_calls s (suc n) [] (b ∷ bs) calls = absurd calls
  fewer_calls s (suc n) (a ∷ acts) [] calls = absurd calls
  fewer_calls s (suc n) (a ∷ acts) (b ∷ bs) calls = fewer_calls s n acts bs calls.1

  pub all_dropped : (bs : List OrderActivation) → drop (length bs) bs ≡ []
  all_dropped [] = refl
  all_dropped (b ∷ bs) = all_dropped bs

  module _ (t : Moment c) (reach : LabelsReach) (now : Work) (o : Order) (q : ℕ) (l : Bool) (w : Words) (at_q : slice_get (code c t) q ≡ Some o) (turn : loaded_after o l ≡ Some false) (cheap : weight_of o ≤ 50) (some : 0 < weight_of o) (none_begins : BeginsNone o) (sane : IsSane (next c t now w)) where
    abbrev g : ℕ
    g = here_in c t

    abbrev bs : List OrderActivation
    bs = t.calls_below

    abbrev v0 : Words
    v0 = with_operands w []

    -- elsewhere: in another body, with fewer calls
    lands_at : (label h s' : ℕ) (who' : Option ℕ) (acts' : List Activation) (bs' : List OrderActivation) (v : SourceUnit) (k : Work) → segment_of s' acts' ≡ h → who_of acts' ≡ who' → slice_get c.units h ≡ Some v → AllCalls c s' acts' bs' → (at : Reached h v who' label k) → next c t now w ≡ configuration s' k acts' v0 Running → act (target c) (action_of (target c) g bs o) g q false bs w ≡ state h at.place false bs' v0 Running → Steps c t now q l w
    lands_at label h s' who' acts' bs' v k seg whose v_is calls at e f =
        let seen = Seen c t.segment t.acts bs t.unit t.unit_is w in
        let to = at.carried in
        let v_here : slice_get c.units (segment_of s' acts') ≡ Some v = ap (λ z. slice_get c.units z) seg ∙ v_is in
        let on = walk c s' acts' bs' v v_here 64 at.place false to.0 to.1 v0 to.2 in
        let u0 = state g q l bs w Running in
        let u1 = state (segment_of s' acts') at.place false bs' v0 Running in
        let u2 = state (segment_of s' acts') to.0 to.1 bs' v0 Running in
        let all = join seen (B c) (weight_of o) on.0 (weight_of o + on.0) u0 u1 u2 refl (one_order c t o q l false w u1 none_begins at_q turn (f ∙ ap (λ z. state z at.place false bs' v0 Running) (sym seg))) on.2 in
        let there = subst (λ z. CarriedIn c.units c.addresses c.limits c.orders_for c.places c.has_words z v (who_of acts') to.0 to.1 false k) (sym seg) (subst (λ z. CarriedIn c.units c.addresses c.limits c.orders_for c.places c.has_words h v z to.0 to.1 false k) (sym whose) to.3) in
        record {
          spent = weight_of o + on.0;
          reached = u2;
          path = weaken seen (Quiet (shown (config c t now w)) (shown (next c t now w))) (B c) (weight_of o + on.0) u0 u2 (λ x y. (inl y.0, y.1)) all;
          within = (let z : weight_of o + on.0 ≤ 224 = omega (arith, cheap, on.1) in z);
          belongs = subst (λ d. Belong c d u2) (sym e) (going v v_here false tt there calls);
          progress = inl (let z : 0 < weight_of o + on.0 = omega (arith, some) in z);
        }

    pub marked : (h label : ℕ) (v : SourceUnit) (who : Option ℕ) (k : Work) → slice_get c.units h ≡ Some v → (at : Reached h v who label k) → place_of (target c) h (label_mark v label) ≡ Some at.place
    marked h label v who k v_is at = ap (λ x. mark_in x (label_mark v label)) (slice_get-map c.orders_for c.units h ∙ ap (option_map c.orders_for) v_is) ∙ at.marked

    entry_is : (h label : ℕ) (v : SourceUnit) (m : Label) → slice_get c.units h ≡ Some v → slice_get v.labels label ≡ Some m → label_at (target c) h label ≡ Some (label_entry v label m)
    entry_is h label v m v_is m_is = ap (λ x. label_in x label) (slice_get-map (tables_of c.units) c.units h ∙ ap (option_map (tables_of c.units)) v_is) ∙ ap (option_map (label_entry v label)) m_is

    -- a label that is owned as it is said: a procedure's by an activation of that procedure
    module _ (h label owner : ℕ) (jumps : next c t now w ≡ jump_to (source c) (Some (h, label)) owner t.segment now t.acts w) (owned : (v : SourceUnit) (m : Label) (p : ℕ) → slice_get c.units h ≡ Some v → slice_get v.labels label ≡ Some m → m.proc ≡ Some p → (segment_of t.segment (kept owner t.acts) ≡ h) × (who_of (kept owner t.acts) ≡ Some p)) where
      -- what the orders do: they go there, or stay where they can; a mark that is met by a plain jump is of this body, and nothing is in hand
      pub record Goes_to : Type 0 where
        pub to_body : (v : SourceUnit) (m : Label) (k : Work) → slice_get c.units h ≡ Some v → slice_get v.labels label ≡ Some m → m.proc ≡ None → (at : Reached h v None label k) → act (target c) (action_of (target c) g bs o) g q false bs w ≡ state h at.place false [] v0 Running
        pub to_procedure : (v : SourceUnit) (m : Label) (p : ℕ) (k : Work) → slice_get c.units h ≡ Some v → slice_get v.labels label ≡ Some m → m.proc ≡ Some p → (at : Reached h v (Some p) label k) → act (target c) (action_of (target c) g bs o) g q false bs w ≡ state h at.place false (drop (length bs - owner) bs) v0 Running

      pub by_control : act (target c) (action_of (target c) g bs o) g q false bs w ≡ go_to (target c) (Some (LabelControl h label owner)) g q false bs w → Goes_to
      by_control f = record {
        to_body = λ v m k v_is m_is none at.
            f ∙ ap (λ e. go_to_entry (target c) e h owner g q false bs w) (entry_is h label v m v_is m_is)
            ∙ ap (λ x. leave_for (place_of (target c) h (label_mark v label)) h (dropped_by (is_some x) owner bs) g q false bs w) none
            ∙ ap (λ x. leave_for x h (length bs) g q false bs w) (marked h label v None k v_is at)
            ∙ ap (λ x. state h at.place false x v0 Running) (all_dropped bs);
        to_procedure = λ v m p k v_is m_is own at.
            f ∙ ap (λ e. go_to_entry (target c) e h owner g q false bs w) (entry_is h label v m v_is m_is)
            ∙ ap (λ x. leave_for (place_of (target c) h (label_mark v label)) h (dropped_by (is_some x) owner bs) g q false bs w) own
            ∙ ap (λ x. leave_for x h (length bs - owner) g q false bs w) (marked h label v (Some p) k v_is at);
      }

      module _ (goes : Goes_to) where
        lost : next c t now w ≡ configuration t.segment now t.acts w Stuck → Steps c t now q l w
        lost e = absurd (subst IsSane e sane)

        from_body : (v : SourceUnit) (m : Label) → slice_get c.units h ≡ Some v → slice_get v.labels label ≡ Some m → m.proc ≡ None → (k : Option Work) → label_continuation label v.body Nothing ≡ k → next c t now w ≡ work_from h k [] w → Steps c t now q l w
        from_body v m v_is m_is none None k_is e = absurd (subst IsSane e sane)
        from_body v m v_is m_is none (Some k) k_is e =
            let at = reach.of_body h v label k v_is m m_is none k_is in
            let there = goes.to_body v m k v_is m_is none at in
            lands_at label h h None [] [] v k refl refl v_is tt at e there

        from_procedure : (v : SourceUnit) (m : Label) (p : ℕ) (proc : Proc) → slice_get c.units h ≡ Some v → slice_get v.labels label ≡ Some m → m.proc ≡ Some p → slice_get v.procs p ≡ Some proc → (k : Option Work) → label_continuation label proc.body Leave ≡ k → next c t now w ≡ work_from t.segment k (kept owner t.acts) w → Steps c t now q l w
        from_procedure v m p proc v_is m_is own proc_is None k_is e = absurd (subst IsSane e sane)
        from_procedure v m p proc v_is m_is own proc_is (Some k) k_is e =
            let at = reach.of_procedure h p v proc label k v_is proc_is m m_is own k_is in
            let there = goes.to_procedure v m p k v_is m_is own at in
            let who = owned v m p v_is m_is own in
            let same = same_length c t.segment t.acts bs t.calls in
            let calls = subst (λ n. AllCalls c t.segment (kept owner t.acts) (drop (n - owner) bs)) same (fewer_calls t.segment (length t.acts - owner) t.acts bs t.calls) in
            lands_at label h t.segment (Some p) (kept owner t.acts) (drop (length bs - owner) bs) v k who.0 who.1 v_is calls at e there

        in_label : (v : SourceUnit) (m : Label) → slice_get c.units h ≡ Some v → slice_get v.labels label ≡ Some m → (p : Option ℕ) → m.proc ≡ p → next c t now w ≡ jump_in_unit v (Some m) t.segment h label owner now t.acts w → Steps c t now q l w
        in_label v m v_is m_is None none e =
            from_body v m v_is m_is none (label_continuation label v.body Nothing) refl
            (e ∙ ap (λ z. elim z [ None ↦ work_from h (label_continuation label v.body Nothing) [] w | Some r ↦ jump_in_procedure (slice_get v.procs r) t.segment label owner now t.acts w ]) none)
        in_label v m v_is m_is (Some p) own e =
            in_proc (slice_get v.procs p) refl
            (e ∙ ap (λ z. elim z [ None ↦ work_from h (label_continuation label v.body Nothing) [] w | Some r ↦ jump_in_procedure (slice_get v.procs r) t.segment label owner now t.acts w ]) own)
          where
            in_proc : (r : Option Proc) → slice_get v.procs p ≡ r → next c t now w ≡ jump_in_procedure (slice_get v.procs p) t.segment label owner now t.acts w → Steps c t now q l w
            in_proc None r e' = lost (e' ∙ ap (λ z. jump_in_procedure z t.segment label owner now t.acts w) r)
            in_proc (Some proc) r e' =
                from_procedure v m p proc v_is m_is own r (label_continuation label proc.body Leave) refl (e' ∙ ap (λ z. jump_in_procedure z t.segment label owner now t.acts w) r)

        in_labels : (v : SourceUnit) → slice_get c.units h ≡ Some v → (m : Option Label) → slice_get v.labels label ≡ m → next c t now w ≡ jump_in_unit v (slice_get v.labels label) t.segment h label owner now t.acts w → Steps c t now q l w
        in_labels v v_is None m_is e = lost (e ∙ ap (λ z. jump_in_unit v z t.segment h label owner now t.acts w) m_is)
        in_labels v v_is (Some m) m_is e = in_label v m v_is m_is m.proc refl (e ∙ ap (λ z. jump_in_unit v z t.segment h label owner now t.acts w) m_is)

        in_units : (v : Option SourceUnit) → slice_get c.units h ≡ v → Steps c t now q l w
        in_units None v_is = lost (jumps ∙ ap (λ z. jump_to_unit z t.segment h label owner now t.acts w) v_is)
        in_units (Some v) v_is = in_labels v v_is (slice_get v.labels label) refl (jumps ∙ ap (λ z. jump_to_unit z t.segment h label owner now t.acts w) v_is)

        pub label_follows : Steps c t now q l w
        label_follows = in_units (slice_get c.units h) refl
