-- The orders follow the source through GOTO.
use Rattle.std.proofs.Common.{◌≡◌, ℕ, ◌+◌, ℤ, List, [], ◌∷◌, length, true, false, Option, Some, None, refl, sym, ap, ap₂, ◌∙◌, subst, arith}
use Rattle.std.specs.Prelude.{slice_get}
use Rattle.std.proofs.lemmas.Option.{none-some, same_Some}
use Rattle.cw_unit.specs.declared.unit.Unit.{Unit as SourceUnit}
use Rattle.cw_unit.specs.declared.unit.Label.{Label}
use Rattle.cw_unit.specs.declared.unit.Goal.{Goal}
use Rattle.cw_unit.specs.declared.unit.Goal.TheVariants as goal
use Rattle.cw_unit.specs.declared.unit.Dest.{Dest}
use Rattle.cw_unit.specs.declared.unit.Dest.TheVariants as dest
use Rattle.cw_unit.specs.declared.unit.Expr.{Expr}
use Rattle.cw_unit.specs.Program.{definition_of}
use Rattle.cw_unit.specs.Stop.{SwitchRange, Stopped}
use Rattle.cw_unit.specs.Words.{Control, LabelControl, SwitchControl, ProcedureControl, Operand, Word, Held, Words, with_operands}
use Rattle.cw_unit.specs.Work.{Work, Jump}
use Rattle.cw_unit.specs.Configuration.{Activation, control_at}
use Rattle.cw_unit.specs.Step.{label_of_def, label_of_goal, switch_of_def, with_label_owner, with_switch_owner, goal_at, switch_in, jump_to, jump_to_goal, jump_by_list, jump_by_switch, jump_by_control, jump_to_control}
use Rattle.cw_order.specs.declared.order.Order.{Order}
use Rattle.cw_order.specs.declared.order.Order.TheVariants as order
use Rattle.cw_order.specs.OrderProgram.{place_of}
use Rattle.cw_order.specs.OrderState.{OrderActivation, at as state}
use Rattle.cw_order.specs.OrderChanges.{way_of_one, to_mark_of_switch, mark_of_number}
use Rattle.cw_order.specs.OrderActions.{action_of}
use Rattle.cw_order.specs.OrderCosts.{weight_of}
use Rattle.cw_order.specs.OrderMachine.{act, branch, go_at, go_to, go_through}
use Rattle.cw_gen_expr.specs.ReferenceExpressions.{at_line, control_place}
use Rattle.cw_gen_expr.specs.UnitTables.{label_mark}
use Rattle.cw_carry.proofs.Expressions.Carried.{takes_number, who_of}
use Rattle.cw_carry.proofs.Expressions.Stepping.{Compiled, source, target, AllCalls, IsSane, stops}
use Rattle.cw_carry.proofs.Expressions.Moments.{Moment, here_in, scope, code, Steps, next, Facts, one_order}
use Rattle.cw_carry.proofs.Expressions.Arguments.{same_length, control_is, defined_is}
use Rattle.cw_carry.proofs.Expressions.Jumps.{LabelsReach}
use Rattle.cw_carry.proofs.Expressions.Ways.{Owned, JumpSound, label_control, switch_follows, stays, plain_jump, main_jump}
use Rattle.cw_gen_unit.specs.ReferenceStatements.{own_order, from_procedure, owned_marks, switch_order, jump_order}
use Rattle.cw_gen_unit.proofs.SwitchMarks.{IsPlain, Table, marked-at, unmarked-at, owned as table_of}

abbrev key_of : Option Control → ℕ × ℕ × ℕ
key_of (Some (LabelControl h label owner)) = (h, label, owner)
key_of _ = (0, 0, 0)

module _ (c : Compiled) where
  module _ (t : Moment c) (reach : LabelsReach c) (line q : ℕ) (w : Words) where
    abbrev who : Option ℕ
    who = who_of t.acts

    abbrev g : ℕ
    g = here_in c t

    abbrev bs : List OrderActivation
    bs = t.calls_below

    lengths : length t.acts ≡ length bs
    lengths = same_length c t.segment t.acts bs t.calls

    no_calls : (acts : List Activation) (bs' : List OrderActivation) → AllCalls c t.segment acts bs' → who_of acts ≡ None → bs' ≡ []
    no_calls [] [] calls h = refl
    no_calls [] (b ∷ bs') calls h = absurd calls
    no_calls (a ∷ acts) bs' calls h = absurd (none-some a.procedure (sym h))

    -- a label of the unit
    module _ (label : ℕ) (at_q : slice_get (code c t) q ≡ Some (jump_order (at_line line (scope c t)) who (dest.Goal (goal.Own label)))) (facts : Facts c t (Jump (dest.Goal (goal.Own label)) line) w) (sound : JumpSound c t.segment t.acts w (dest.Goal (goal.Own label))) where
      abbrev d : Dest
      d = dest.Goal (goal.Own label)

      owned : Owned c t.segment t.acts g label (length t.acts)
      owned = sound.owned g label (length t.acts) (refl, refl)

      unit_is : (v : SourceUnit) → slice_get c.units g ≡ Some v → t.unit ≡ v
      unit_is v v_is = same_Some t.unit v (sym t.unit_is ∙ v_is)

      -- by the order that the generator chooses
      by_proc : (a : Option ℕ) (x : Option Label) → who ≡ a → slice_get t.unit.labels label ≡ x → slice_get (code c t) q ≡ Some (own_order a x (label_mark t.unit label)) → Steps c t (Jump d line) q (takes_number d) w
      by_proc None x who_is x_is h =
          plain_jump c t reach (Jump d line) (order.Jump (label_mark t.unit label)) q false line w h refl (omega arith) (omega arith) (λ h x. refl) facts.sane label refl (sound.clean (goal.Own label) refl) refl owned
          (λ v m v_is m_is none. no_calls t.acts bs t.calls who_is)
      by_proc (Some p) None who_is x_is h =
          plain_jump c t reach (Jump d line) (order.Jump (label_mark t.unit label)) q false line w h refl (omega arith) (omega arith) (λ h x. refl) facts.sane label refl (sound.clean (goal.Own label) refl) refl owned
          (λ v m v_is m_is none. absurd (none-some m (sym x_is ∙ ap (λ u. slice_get u.labels label) (unit_is v v_is) ∙ m_is)))
      by_proc (Some p) (Some m0) who_is x_is h = by_owner m0.proc refl (h ∙ ap (λ y. Some y) refl)
        where
          same_label : (v : SourceUnit) (m : Label) → slice_get c.units g ≡ Some v → slice_get v.labels label ≡ Some m → m0 ≡ m
          same_label v m v_is m_is = same_Some m0 m (sym x_is ∙ ap (λ u. slice_get u.labels label) (unit_is v v_is) ∙ m_is)

          by_owner : (r : Option ℕ) → m0.proc ≡ r → slice_get (code c t) q ≡ Some (from_procedure (Some m0) (label_mark t.unit label)) → Steps c t (Jump d line) q (takes_number d) w
          by_owner None none h' =
              main_jump c t reach (Jump d line) (order.GoMain (label_mark t.unit label)) q false line w (h' ∙ ap (λ z. Some (elim z [ None ↦ order.GoMain (label_mark t.unit label) | Some r ↦ order.Jump (label_mark t.unit label) ])) none) refl (omega arith) (omega arith) (λ h x. refl) facts.sane label refl refl owned
              (λ v m p' v_is m_is own. none-some p' (sym none ∙ ap (λ y. y.proc) (same_label v m v_is m_is) ∙ own))
          by_owner (Some r) some_proc h' =
              plain_jump c t reach (Jump d line) (order.Jump (label_mark t.unit label)) q false line w (h' ∙ ap (λ z. Some (elim z [ None ↦ order.GoMain (label_mark t.unit label) | Some r' ↦ order.Jump (label_mark t.unit label) ])) some_proc) refl (omega arith) (omega arith) (λ h x. refl) facts.sane label refl (sound.clean (goal.Own label) refl) refl owned
              (λ v m v_is m_is none. absurd (none-some r (sym none ∙ sym (ap (λ y. y.proc) (same_label v m v_is m_is)) ∙ some_proc)))

      own_follows : Steps c t (Jump d line) q (takes_number d) w
      own_follows = by_proc who (slice_get t.unit.labels label) refl refl at_q

    -- through a switch whose labels the body owns all, by a table of their marks
    module _ (n : ℕ) (e : Expr) (ms : List ℕ) (marks_are : owned_marks t.unit who n ≡ Some ms) (at_q : slice_get (code c t) q ≡ Some (order.SwitchWay ms line)) (facts : Facts c t (Jump (dest.Switch n e) line) w) (sound : JumpSound c t.segment t.acts w (dest.Switch n e)) where
      abbrev now : Work
      now = Jump (dest.Switch n e) line

      abbrev o : Order
      o = order.SwitchWay ms line

      table : Table t.unit who n ms
      table = table_of t.unit who n ms marks_are

      list_is : switch_in (slice_get c.units g) n ≡ Some table.goals
      list_is = ap (λ x. switch_in x n) t.unit_is ∙ table.goals_are

      -- by what its index has in the table
      chosen : (z : ℤ) → w.operands ≡ Word z ∷ [] → (m : Option ℕ) → mark_of_number ms z ≡ m
          → act (target c) (action_of (target c) g bs o) g q false bs w ≡ branch (target c) line (to_mark_of_switch m (with_operands w [])) g q false bs w
      chosen z hand m m_is =
          ap (λ xs. branch (target c) line (way_of_one (λ i v. to_mark_of_switch (mark_of_number ms i) v) xs w) g q false bs w) hand
          ∙ ap (λ x. branch (target c) line (to_mark_of_switch x (with_operands w [])) g q false bs w) m_is

      -- a label of the segment's body is met in that body
      no_calls_at : (label : ℕ) → IsPlain who (slice_get t.unit.labels label) → (v : SourceUnit) (m : Label) → slice_get c.units g ≡ Some v → slice_get v.labels label ≡ Some m
          → m.proc ≡ None → bs ≡ []
      no_calls_at label plain v m v_is m_is none = by_body who (slice_get t.unit.labels label) refl refl plain
        where
          same : slice_get t.unit.labels label ≡ Some m
          same = ap (λ u. slice_get u.labels label) (same_Some t.unit v (sym t.unit_is ∙ v_is)) ∙ m_is

          by_body : (a : Option ℕ) (x : Option Label) → who ≡ a → slice_get t.unit.labels label ≡ x → IsPlain a x → bs ≡ []
          by_body None x who_is x_is p = no_calls t.acts bs t.calls who_is
          by_body (Some r) None who_is x_is p = absurd (none-some m (sym x_is ∙ same))
          by_body (Some r) (Some y) who_is x_is p = absurd (none-some p.0 (sym none ∙ sym (ap (λ k. k.proc) (same_Some y m (sym x_is ∙ same))) ∙ p.1))

      to_goal : (z : ℤ) (x : Goal) → w.operands ≡ Word z ∷ [] → goal_at table.goals z ≡ Some x
          → next c t now w ≡ jump_to (source c) (label_of_goal (source c) g x) (length t.acts) t.segment now t.acts w → Steps c t now q true w
      to_goal z x hand x_is goes =
          let at = marked-at t.unit who table.goals ms z x table.marks_are x_is in
          let to = at.2 in
          stays c t reach now o q true line w at_q refl (omega arith) (omega arith) (λ h y. refl) facts.sane to.label
          (λ place h. chosen z hand (Some at.0) at.1 ∙ ap (λ y. go_at y g q false bs w (with_operands w [])) (ap (place_of (target c) g) to.mark ∙ h))
          (goes ∙ ap (λ y. jump_to (source c) (label_of_goal (source c) g y) (length t.acts) t.segment now t.acts w) to.is)
          (sound.owned g to.label (length t.acts) (table.goals, x, z, list_is, x_is, ap (label_of_goal (source c) g) to.is, refl))
          (no_calls_at to.label to.plain)

      by_goal : (z : ℤ) (x : Option Goal) → w.operands ≡ Word z ∷ [] → goal_at table.goals z ≡ x
          → next c t now w ≡ jump_to_goal (source c) x g (length t.acts) t.segment line now t.acts w → Steps c t now q true w
      by_goal z None hand x_is goes =
          stops c t.segment t.acts bs t.unit t.unit_is t.calls now q q true false w w SwitchRange line (weight_of o) goes
          (one_order c t o q true false w (state g q false bs w (Stopped SwitchRange (g + 1) line)) (λ h y. refl) at_q refl
          (chosen z hand None (unmarked-at t.unit who table.goals ms z table.marks_are x_is)))
          refl (omega arith) (omega arith)
      by_goal z (Some x) hand x_is goes = to_goal z x hand x_is goes

      by_hand : (xs : List Operand) → w.operands ≡ xs → length xs ≡ 1
          → next c t now w ≡ jump_by_list (source c) (Some table.goals) xs g (length t.acts) t.segment line now t.acts w → Steps c t now q true w
      by_hand [] is one goes = absurd (subst IsSane goes facts.sane)
      by_hand (Held y ∷ xs) is one goes = absurd (subst IsSane goes facts.sane)
      by_hand (Word z ∷ []) is one goes = by_goal z (goal_at table.goals z) is refl goes
      by_hand (Word z ∷ y ∷ xs) is one goes = absurd (omega (arith, one))

      table_follows : Steps c t now q true w
      table_follows = by_hand w.operands refl (sound.alone n e refl) (ap (λ x. jump_by_list (source c) x w.operands g (length t.acts) t.segment line now t.acts w) list_is)

    -- through a switch of the unit, by the order that the generator chooses
    switch_of_unit : (n : ℕ) (e : Expr) (x : Option (List ℕ)) → owned_marks t.unit who n ≡ x → slice_get (code c t) q ≡ Some (switch_order x n line)
        → Facts c t (Jump (dest.Switch n e) line) w → JumpSound c t.segment t.acts w (dest.Switch n e) → Steps c t (Jump (dest.Switch n e) line) q true w
    switch_of_unit n e None x_is at_q facts sound =
        switch_follows c t reach (Jump (dest.Switch n e) line) (order.GoSwitch n line) q true line w at_q refl (omega arith) (omega arith) (λ h x. refl) facts.sane
        g n (length t.acts) refl
        (ap (λ m. go_through (target c) line (Some (SwitchControl g n m)) g q false bs w) (sym lengths))
        (λ gs x z h label gs_is x_is is. sound.owned h label (length t.acts) (gs, x, z, gs_is, x_is, is, refl))
    switch_of_unit n e (Some ms) x_is at_q facts sound = table_follows n e ms x_is at_q facts sound

    pub jump_follows : (d : Dest) → slice_get (code c t) q ≡ Some (jump_order (at_line line (scope c t)) who d) → Facts c t (Jump d line) w → JumpSound c t.segment t.acts w d → Steps c t (Jump d line) q (takes_number d) w
    jump_follows (dest.Goal (goal.Own label)) at_q facts sound = own_follows label at_q facts sound
    jump_follows (dest.Goal (goal.Common d)) at_q facts sound =
        label_control c t reach (Jump (dest.Goal (goal.Common d)) line) (order.GoCommon d) q false line w at_q refl (omega arith) (omega arith) (λ h x. refl) facts.sane
        (with_label_owner (length t.acts) (label_of_def (definition_of (source c) g d))) (by_common (label_of_def (definition_of (source c) g d)) refl)
        (ap₂ (λ m z. go_to (target c) (with_label_owner m (label_of_def z)) g q false bs w) (sym lengths) (defined_is c t d))
        (λ h label owner is. of_common (label_of_def (definition_of (source c) g d)) refl h label owner is)
      where
        by_common : (x : Option (ℕ × ℕ)) → label_of_def (definition_of (source c) g d) ≡ x → next c t (Jump (dest.Goal (goal.Common d)) line) w ≡ jump_to_control (source c) (with_label_owner (length t.acts) x) t.segment (Jump (dest.Goal (goal.Common d)) line) t.acts w
        by_common None e = ap (λ z. jump_to (source c) z (length t.acts) t.segment (Jump (dest.Goal (goal.Common d)) line) t.acts w) e
        by_common (Some y) e = ap (λ z. jump_to (source c) z (length t.acts) t.segment (Jump (dest.Goal (goal.Common d)) line) t.acts w) e

        of_common : (x : Option (ℕ × ℕ)) → label_of_def (definition_of (source c) g d) ≡ x → (h label owner : ℕ) → with_label_owner (length t.acts) x ≡ Some (LabelControl h label owner) → Owned c t.segment t.acts h label owner
        of_common None e h label owner is = absurd (none-some (LabelControl h label owner) is)
        of_common (Some y) e h label owner is = subst (λ k. Owned c t.segment t.acts k.0 k.1 k.2) (ap key_of is) (sound.owned y.0 y.1 (length t.acts) (e, refl))
    jump_follows (dest.Special k) at_q facts sound = by_control (control_at t.acts k) refl
      where
        at : ℕ
        at = control_place (scope c t).parameters k

        by_control : (x : Option Control) → control_at t.acts k ≡ x → Steps c t (Jump (dest.Special k) line) q false w
        by_control None e = absurd (subst IsSane (ap (λ x. jump_to_control (source c) x t.segment (Jump (dest.Special k) line) t.acts w) e) facts.sane)
        by_control (Some x) e =
            label_control c t reach (Jump (dest.Special k) line) (order.GoSpecial at) q false line w at_q refl (omega arith) (omega arith) (λ h x. refl) facts.sane (Some x)
            (ap (λ y. jump_to_control (source c) y t.segment (Jump (dest.Special k) line) t.acts w) e)
            (ap (λ y. go_to (target c) y g q false bs w) (control_is c t.segment t.acts bs t.unit t.unit_is t.calls k x e))
            (λ h label owner is. sound.owned h label owner (e ∙ is))
    jump_follows (dest.Switch n e) at_q facts sound = switch_of_unit n e (owned_marks t.unit who n) refl at_q facts sound
    jump_follows (dest.CommonSwitch d e) at_q facts sound = by_switch (switch_of_def (definition_of (source c) g d)) refl
      where
        by_switch : (x : Option (ℕ × ℕ)) → switch_of_def (definition_of (source c) g d) ≡ x → Steps c t (Jump (dest.CommonSwitch d e) line) q true w
        by_switch None is = absurd (subst IsSane (ap (λ z. jump_by_switch (source c) z (length t.acts) t.segment line (Jump (dest.CommonSwitch d e) line) t.acts w) is) facts.sane)
        by_switch (Some y) is =
            switch_follows c t reach (Jump (dest.CommonSwitch d e) line) (order.GoSwitchCommon d line) q true line w at_q refl (omega arith) (omega arith) (λ h x. refl) facts.sane y.0 y.1 (length t.acts)
            (ap (λ z. jump_by_switch (source c) z (length t.acts) t.segment line (Jump (dest.CommonSwitch d e) line) t.acts w) is)
            (ap₂ (λ m z. go_through (target c) line (with_switch_owner m (switch_of_def z)) g q false bs w) (sym lengths) (defined_is c t d) ∙ ap (λ z. go_through (target c) line (with_switch_owner (length t.acts) z) g q false bs w) is)
            (λ gs x z h label gs_is x_is to_is. sound.owned h label (length t.acts) (y.0, y.1, gs, x, z, is, gs_is, x_is, to_is, refl))
    jump_follows (dest.SpecialSwitch k e) at_q facts sound = by_control (control_at t.acts k) refl
      where
        at : ℕ
        at = control_place (scope c t).parameters k

        by_control : (x : Option Control) → control_at t.acts k ≡ x → Steps c t (Jump (dest.SpecialSwitch k e) line) q true w
        by_control None is = absurd (subst IsSane (ap (λ x. jump_by_control (source c) x t.segment line (Jump (dest.SpecialSwitch k e) line) t.acts w) is) facts.sane)
        by_control (Some (LabelControl h label owner)) is = absurd (subst IsSane (ap (λ x. jump_by_control (source c) x t.segment line (Jump (dest.SpecialSwitch k e) line) t.acts w) is) facts.sane)
        by_control (Some (ProcedureControl h p)) is = absurd (subst IsSane (ap (λ x. jump_by_control (source c) x t.segment line (Jump (dest.SpecialSwitch k e) line) t.acts w) is) facts.sane)
        by_control (Some (SwitchControl h0 n0 owner)) is =
            switch_follows c t reach (Jump (dest.SpecialSwitch k e) line) (order.GoSwitchSpecial at line) q true line w at_q refl (omega arith) (omega arith) (λ h x. refl) facts.sane h0 n0 owner
            (ap (λ x. jump_by_control (source c) x t.segment line (Jump (dest.SpecialSwitch k e) line) t.acts w) is)
            (ap (λ x. go_through (target c) line x g q false bs w) (control_is c t.segment t.acts bs t.unit t.unit_is t.calls k (SwitchControl h0 n0 owner) is))
            (λ gs x z h label gs_is x_is to_is. sound.owned h label owner (h0, n0, gs, x, z, is, gs_is, x_is, to_is))
