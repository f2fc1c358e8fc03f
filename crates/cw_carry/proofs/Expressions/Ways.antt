-- The orders follow the source through each kind of jump.
use Rattle.std.proofs.Common.{◌≡◌, ℕ, ◌+◌, ◌-◌, ◌<◌, ◌≤◌, ℤ, List, [], ◌∷◌, length, drop, Bool, false, Option, Some, None, refl, sym, ap, ◌∙◌, subst, arith}
use Rattle.std.specs.Prelude.{slice_get, option_map}
use Rattle.std.proofs.lemmas.Option.{same_Some, slice_get-map}
use Rattle.cw_unit.specs.declared.unit.Unit.{Unit as SourceUnit}
use Rattle.cw_unit.specs.declared.unit.Label.{Label}
use Rattle.cw_unit.specs.declared.unit.Goal.{Goal}
use Rattle.cw_unit.specs.declared.unit.Goal.TheVariants as goal
use Rattle.cw_unit.specs.declared.unit.Dest.{Dest}
use Rattle.cw_unit.specs.declared.unit.Dest.TheVariants as dest
use Rattle.cw_unit.specs.declared.unit.Expr.{Expr}
use Rattle.cw_unit.specs.Program.{definition_of, definition_for}
use Rattle.cw_unit.specs.Stop.{SwitchRange, Running, Stopped, Stuck}
use Rattle.cw_unit.specs.Words.{Control, LabelControl, SwitchControl, ProcedureControl, Operand, Word, Held, Words, with_operands}
use Rattle.cw_unit.specs.Work.{Work}
use Rattle.cw_unit.specs.Configuration.{at as configuration, Activation, segment_of, control_at}
use Rattle.cw_unit.specs.Step.{kept, switch_of_def, label_of_def, label_of_goal, with_label_owner, goal_at, switch_in, jump_to, jump_to_control, jump_to_goal, jump_by_list, jump_by_switch}
use Rattle.cw_order.specs.declared.order.Order.{Order}
use Rattle.cw_order.specs.declared.order.Order.TheVariants as order
use Rattle.cw_order.specs.OrderProgram.{defined_at, defined_in, label_of, place_of, switch_in as order_switch_in}
use Rattle.cw_order.specs.OrderState.{OrderActivation, at as state}
use Rattle.cw_order.specs.Loading.{loaded_after}
use Rattle.cw_order.specs.OrderActions.{action_of}
use Rattle.cw_order.specs.OrderCosts.{weight_of}
use Rattle.cw_order.specs.OrderMachine.{act, go_at, leave_for, go_to, go_to_goal, go_by_list, go_through}
use Rattle.cw_gen_expr.specs.UnitTables.{tables_of, label_mark}
use Rattle.cw_carry.proofs.Expressions.Effects.{BeginsNone}
use Rattle.cw_carry.proofs.Expressions.Carried.{who_of}
use Rattle.cw_carry.proofs.Expressions.Stepping.{Compiled, source, target, IsSane, stops}
use Rattle.cw_carry.proofs.Expressions.Moments.{Moment, here_in, code, Steps, next, one_order}
use Rattle.cw_carry.proofs.Expressions.Arguments.{same_length}
use Rattle.cw_carry.proofs.Expressions.Jumps.{LabelsReach, by_control, marked, all_dropped, label_follows}

module _ (c : Compiled) where
  -- what a descriptor names, as the orders have it
  defined_there : (h d : ℕ) (v : SourceUnit) → slice_get c.units h ≡ Some v → defined_at (target c) h d ≡ definition_of (source c) h d
  defined_there h d v is =
      ap (λ x. defined_in x d) (slice_get-map (tables_of c.units) c.units h ∙ ap (option_map (tables_of c.units)) is)
      ∙ sym (ap (λ x. definition_for (source c) x d) is)

  label_is : (h : ℕ) (v : SourceUnit) → slice_get c.units h ≡ Some v → (x : Goal) → label_of (target c) h x ≡ label_of_goal (source c) h x
  label_is h v is (goal.Own l) = refl
  label_is h v is (goal.Common d) = ap label_of_def (defined_there h d v is)

  -- whose a label is that a jump names: a procedure's is owned by an activation of that procedure
  abbrev pub Owned : (s : ℕ) → List Activation → (h label owner : ℕ) → Type 0
  Owned s acts h label owner =
      (v : SourceUnit) (m : Label) (p : ℕ) → slice_get c.units h ≡ Some v → slice_get v.labels label ≡ Some m → m.proc ≡ Some p → (segment_of s (kept owner acts) ≡ h) × (who_of (kept owner acts) ≡ Some p)

  -- the labels that a jump names, with their owners
  abbrev pub Names : (s : ℕ) → List Activation → Dest → (h label owner : ℕ) → Type 0
  Names s acts (dest.Goal g) h label owner = (label_of_goal (source c) (segment_of s acts) g ≡ Some (h, label)) × (owner ≡ length acts)
  Names s acts (dest.Special k) h label owner = control_at acts k ≡ Some (LabelControl h label owner)
  Names s acts (dest.Switch n e) h label owner =
      (gs : List Goal) × (x : Goal) × (z : ℤ) × (switch_in (slice_get c.units (segment_of s acts)) n ≡ Some gs) × (goal_at gs z ≡ Some x) × (label_of_goal (source c) (segment_of s acts) x ≡ Some (h, label)) × (owner ≡ length acts)
  Names s acts (dest.CommonSwitch d e) h label owner =
      (h0 : ℕ) × (n0 : ℕ) × (gs : List Goal) × (x : Goal) × (z : ℤ) × (switch_of_def (definition_of (source c) (segment_of s acts) d) ≡ Some (h0, n0)) × (switch_in (slice_get c.units h0) n0 ≡ Some gs) × (goal_at gs z ≡ Some x) × (label_of_goal (source c) h0 x ≡ Some (h, label)) × (owner ≡ length acts)
  Names s acts (dest.SpecialSwitch k e) h label owner =
      (h0 : ℕ) × (n0 : ℕ) × (gs : List Goal) × (x : Goal) × (z : ℤ) × (control_at acts k ≡ Some (SwitchControl h0 n0 owner)) × (switch_in (slice_get c.units h0) n0 ≡ Some gs) × (goal_at gs z ≡ Some x) × (label_of_goal (source c) h0 x ≡ Some (h, label))

  -- what must hold of a configuration at a jump: nothing is in hand at a jump to a label, and the index alone at one through a switch of
  -- the unit; each label that is named has the owner that it should have
  pub record JumpSound (s : ℕ) (acts : List Activation) (w : Words) (d : Dest) : Type 0 where
    pub clean : (g : Goal) → d ≡ dest.Goal g → w.operands ≡ []
    pub alone : (n : ℕ) (e : Expr) → d ≡ dest.Switch n e → length w.operands ≡ 1
    pub owned : (h label owner : ℕ) → Names s acts d h label owner → Owned s acts h label owner

  module _ (t : Moment c) (reach : LabelsReach c) (now : Work) (o : Order) (q : ℕ) (l : Bool) (line : ℕ) (w : Words) (at_q : slice_get (code c t) q ≡ Some o) (turn : loaded_after o l ≡ Some false) (cheap : weight_of o ≤ 50) (some : 0 < weight_of o) (none_begins : BeginsNone o) (sane : IsSane (next c t now w)) where
    abbrev g : ℕ
    g = here_in c t

    abbrev bs : List OrderActivation
    bs = t.calls_below

    lost : next c t now w ≡ configuration t.segment now t.acts w Stuck → Steps c t now q l w
    lost e = absurd (subst IsSane e sane)

    -- by a label that is known when it comes to it
    by_label : (owner : ℕ) (x : Option (ℕ × ℕ)) → next c t now w ≡ jump_to (source c) x owner t.segment now t.acts w → act (target c) (action_of (target c) g bs o) g q false bs w ≡ go_to (target c) (with_label_owner owner x) g q false bs w → ((h label : ℕ) → x ≡ Some (h, label) → Owned t.segment t.acts h label owner) → Steps c t now q l w
    by_label owner None e f owned = lost e
    by_label owner (Some (h, label)) e f owned =
        label_follows c t reach now o q l w at_q turn cheap some none_begins sane h label owner e (owned h label refl) (by_control c t reach now o q l w at_q turn cheap some none_begins sane h label owner e (owned h label refl) f)

    pub label_control : (x : Option Control) → next c t now w ≡ jump_to_control (source c) x t.segment now t.acts w → act (target c) (action_of (target c) g bs o) g q false bs w ≡ go_to (target c) x g q false bs w → ((h label owner : ℕ) → x ≡ Some (LabelControl h label owner) → Owned t.segment t.acts h label owner) → Steps c t now q l w
    label_control None e f owned = lost e
    label_control (Some (LabelControl h label owner)) e f owned = by_label owner (Some (h, label)) e f (λ h' label' is. subst (λ z. Owned t.segment t.acts z.0 z.1 owner) (same_Some (h, label) (h', label') is) (owned h label owner refl))
    label_control (Some (SwitchControl h n owner)) e f owned = lost e
    label_control (Some (ProcedureControl h n)) e f owned = lost e

    -- through a switch
    module _ (h0 n0 owner : ℕ) (e : next c t now w ≡ jump_by_switch (source c) (Some (h0, n0)) owner t.segment line now t.acts w) (f : act (target c) (action_of (target c) g bs o) g q false bs w ≡ go_through (target c) line (Some (SwitchControl h0 n0 owner)) g q false bs w) (owned : (gs : List Goal) (x : Goal) (z : ℤ) (h label : ℕ) → switch_in (slice_get c.units h0) n0 ≡ Some gs → goal_at gs z ≡ Some x → label_of_goal (source c) h0 x ≡ Some (h, label) → Owned t.segment t.acts h label owner) where
      by_goal : (v : SourceUnit) (gs : List Goal) (z : ℤ) → slice_get c.units h0 ≡ Some v → switch_in (slice_get c.units h0) n0 ≡ Some gs → (x : Option Goal) → goal_at gs z ≡ x → next c t now w ≡ jump_to_goal (source c) x h0 owner t.segment line now t.acts w → act (target c) (action_of (target c) g bs o) g q false bs w ≡ go_to_goal (target c) line x h0 owner g q false bs w → Steps c t now q l w
      by_goal v gs z v_is gs_is None x_is e' f' =
          stops c t.segment t.acts bs t.unit t.unit_is t.calls now q q l false w w SwitchRange line (weight_of o) e'
          (one_order c t o q l false w (state g q false bs w (Stopped SwitchRange (g + 1) line)) none_begins at_q turn f')
          refl (let y : weight_of o ≤ 224 = omega (arith, cheap) in y) some
      by_goal v gs z v_is gs_is (Some x) x_is e' f' =
          by_label owner (label_of_goal (source c) h0 x) e' (f' ∙ ap (λ y. go_to (target c) (with_label_owner owner y) g q false bs w) (label_is h0 v v_is x)) (λ h label is. owned gs x z h label gs_is x_is is)

      by_hand : (v : SourceUnit) (gs : List Goal) → slice_get c.units h0 ≡ Some v → switch_in (slice_get c.units h0) n0 ≡ Some gs → (hand : List Operand) → next c t now w ≡ jump_by_list (source c) (Some gs) hand h0 owner t.segment line now t.acts w → act (target c) (action_of (target c) g bs o) g q false bs w ≡ go_by_list (target c) line (Some gs) hand h0 owner g q false bs w → Steps c t now q l w
      by_hand v gs v_is gs_is [] e' f' = lost e'
      by_hand v gs v_is gs_is (Held y ∷ rest) e' f' = lost e'
      by_hand v gs v_is gs_is (Word z ∷ rest) e' f' = by_goal v gs z v_is gs_is (goal_at gs z) refl e' f'

      by_list : (v : SourceUnit) → slice_get c.units h0 ≡ Some v → (gs : Option (List Goal)) → switch_in (slice_get c.units h0) n0 ≡ gs → next c t now w ≡ jump_by_list (source c) gs w.operands h0 owner t.segment line now t.acts w → act (target c) (action_of (target c) g bs o) g q false bs w ≡ go_by_list (target c) line gs w.operands h0 owner g q false bs w → Steps c t now q l w
      by_list v v_is None gs_is e' f' = lost e'
      by_list v v_is (Some gs) gs_is e' f' = by_hand v gs v_is gs_is w.operands e' f'

      by_unit : (v : Option SourceUnit) → slice_get c.units h0 ≡ v → Steps c t now q l w
      by_unit None v_is = lost (e ∙ ap (λ x. jump_by_list (source c) (switch_in x n0) w.operands h0 owner t.segment line now t.acts w) v_is)
      by_unit (Some v) v_is =
          by_list v v_is (switch_in (slice_get c.units h0) n0) refl e
          (f ∙ ap (λ x. go_by_list (target c) line x w.operands h0 owner g q false bs w) (ap (λ x. order_switch_in x n0) (slice_get-map (tables_of c.units) c.units h0 ∙ ap (option_map (tables_of c.units)) v_is) ∙ sym (ap (λ x. switch_in x n0) v_is)))

      pub switch_follows : Steps c t now q l w
      switch_follows = by_unit (slice_get c.units h0) refl

    -- ---- a label of the unit, by its mark

    -- an order that goes to the mark of a label of the body at work, and then has nothing in hand
    pub stays : (label : ℕ)
        → ((place : ℕ) → place_of (target c) g (label_mark t.unit label) ≡ Some place → act (target c) (action_of (target c) g bs o) g q false bs w ≡ state g place false bs (with_operands w []) Running)
        → next c t now w ≡ jump_to (source c) (Some (g, label)) (length t.acts) t.segment now t.acts w → Owned t.segment t.acts g label (length t.acts)
        → ((v : SourceUnit) (m : Label) → slice_get c.units g ≡ Some v → slice_get v.labels label ≡ Some m → m.proc ≡ None → bs ≡ []) → Steps c t now q l w
    stays label goes e owned alone =
        label_follows c t reach now o q l w at_q turn cheap some none_begins sane g label (length t.acts) e owned
        (record {
          to_body = λ v m k v_is m_is none at.
              by_mark v v_is at.place (marked c t reach now o q l w at_q turn cheap some none_begins sane g label v None k v_is at)
              ∙ ap (λ x. state g at.place false x (with_operands w []) Running) (alone v m v_is m_is none);
          to_procedure = λ v m p k v_is m_is own at.
              by_mark v v_is at.place (marked c t reach now o q l w at_q turn cheap some none_begins sane g label v (Some p) k v_is at)
              ∙ ap (λ x. state g at.place false x (with_operands w []) Running) none_dropped;
        })
      where
        none_dropped : bs ≡ drop (length bs - length t.acts) bs
        none_dropped =
            let lengths = same_length c t.segment t.acts bs t.calls in
            let zero' : length bs - length t.acts ≡ 0 = omega (arith, lengths) in
            sym (ap (λ n. drop n bs) zero')

        by_mark : (v : SourceUnit) → slice_get c.units g ≡ Some v → (place : ℕ) → place_of (target c) g (label_mark v label) ≡ Some place
            → act (target c) (action_of (target c) g bs o) g q false bs w ≡ state g place false bs (with_operands w []) Running
        by_mark v v_is place h = let here : t.unit ≡ v = same_Some t.unit v (sym t.unit_is ∙ v_is) in goes place (ap (λ u. place_of (target c) g (label_mark u label)) here ∙ h)

    -- a plain jump, with nothing in hand
    pub plain_jump : (label : ℕ) → o ≡ order.Jump (label_mark t.unit label) → w.operands ≡ []
        → next c t now w ≡ jump_to (source c) (Some (g, label)) (length t.acts) t.segment now t.acts w → Owned t.segment t.acts g label (length t.acts)
        → ((v : SourceUnit) (m : Label) → slice_get c.units g ≡ Some v → slice_get v.labels label ≡ Some m → m.proc ≡ None → bs ≡ []) → Steps c t now q l w
    plain_jump label is empty e owned alone =
        stays label
        (λ place h.
        ap (λ x. act (target c) (action_of (target c) g bs x) g q false bs w) is ∙ ap (λ x. go_at x g q false bs w w) h
        ∙ ap (λ x. state g place false bs x Running) no_hand)
        e owned alone
      where
        no_hand : w ≡ with_operands w []
        no_hand = ap (λ xs. with_operands w xs) empty

    -- a label of the segment's body is left for from a procedure
    pub main_jump : (label : ℕ) → o ≡ order.GoMain (label_mark t.unit label) → next c t now w ≡ jump_to (source c) (Some (g, label)) (length t.acts) t.segment now t.acts w → Owned t.segment t.acts g label (length t.acts) → ((v : SourceUnit) (m : Label) (p : ℕ) → slice_get c.units g ≡ Some v → slice_get v.labels label ≡ Some m → m.proc ≡ Some p → ⊥) → Steps c t now q l w
    main_jump label is e owned never =
        label_follows c t reach now o q l w at_q turn cheap some none_begins sane g label (length t.acts) e owned
        (record {
          to_body = λ v m k v_is m_is none at. by_mark v v_is at.place (marked c t reach now o q l w at_q turn cheap some none_begins sane g label v None k v_is at) ∙ ap (λ x. state g at.place false x (with_operands w []) Running) (all_dropped c bs);
          to_procedure = λ v m p k v_is m_is own at. absurd (never v m p v_is m_is own);
        })
      where
        by_mark : (v : SourceUnit) → slice_get c.units g ≡ Some v → (place : ℕ) → place_of (target c) g (label_mark v label) ≡ Some place
            → act (target c) (action_of (target c) g bs o) g q false bs w ≡ state g place false (drop (length bs) bs) (with_operands w []) Running
        by_mark v v_is place h =
            let here : t.unit ≡ v = same_Some t.unit v (sym t.unit_is ∙ v_is) in
            ap (λ x. act (target c) (action_of (target c) g bs x) g q false bs w) is
            ∙ ap (λ x. leave_for x g (length bs) g q false bs w) (ap (λ u. place_of (target c) g (label_mark u label)) here ∙ h)
