-- A step of a program of well-formed units keeps the typed invariant, and is not stuck.
use Rattle.std.proofs.Common.{◌≡◌, ℕ, zero, suc, ◌+◌, ◌≤◌, ℤ, pos, ◌-ℤ◌, List, [], ◌∷◌, length, Bool, true, false, IsTrue, Option, Some, None, is_some, refl, sym, ap, subst, ◌∙◌, arith, slice_get, ◌≢◌}
use Rattle.std.proofs.lemmas.Option.{none-some, same_Some}
use Rattle.cw_word.specs.FixedPoint.{fits_word}
use Rattle.cw_unit.specs.declared.unit.Unit.{Unit as SourceUnit}
use Rattle.cw_unit.specs.declared.unit.Proc.{Proc}
use Rattle.cw_unit.specs.declared.unit.Stmt.{out-Stmt}
use Rattle.cw_unit.specs.declared.unit.Felem.{Felem}
use Rattle.cw_unit.specs.declared.unit.Felem.TheVariants as element
use Rattle.cw_unit.specs.declared.unit.Expr.{Expr, Expr-F, out-Expr}
use Rattle.cw_unit.specs.declared.unit.Arg.{Arg, out-Arg}
use Rattle.cw_unit.specs.declared.unit.Cond.{Cond, out-Cond}
use Rattle.cw_unit.specs.declared.unit.Spot.{Spot, out-Spot}
use Rattle.cw_unit.specs.declared.unit.Ref.{Ref, out-Ref}
use Rattle.cw_unit.specs.declared.unit.Arg.TheOpen as layer
use Rattle.cw_unit.specs.declared.unit.Arg.TheOpen.{Arg-F, Spot-F}
use Rattle.cw_unit.specs.Program.{Program, definition_of}
use Rattle.cw_unit.specs.Stop.{AddressRange, Running, Ended, Stopped, Stuck}
use Rattle.cw_unit.specs.Words.{Control, LabelControl, SwitchControl, ProcedureControl, Operand, Word, Held, Words, put_if, is_below, word_at, number_of}
use Rattle.cw_unit.specs.Operation.{Form, Keep, SetVariable, AddStep, perform, holds, is_past}
use Rattle.cw_unit.specs.Work.{Work, Nothing, Run, Eval, Address, FormAt, Do, Test, Choose, Jump, Give, Enter, Return, Leave, KeepAt, SetVar, Element, Turn, Bump, On, Loop, expression_work, spot_work, condition_work, element_work, element_at, next_element}
use Rattle.cw_unit.specs.Configuration.{Configuration, at, words_of, Activation, segment_of, procedure_at, answer_scale_of, address_at}
use Rattle.cw_unit.specs.Behaviour.{first_body, initial_configuration, configuration_after, shown, observed}
use Rattle.cw_unit.specs.StackBound as bound
use Rattle.cw_unit.specs.StackBound.{body_depth}
use Rattle.cw_unit.specs.Step.{after, label_of_goal, switch_of_def, procedure_of_def, with_label_owner, with_switch_owner, as_procedure, held, pick, choose_with, address_step, addressing_of, put_constant, in_unit, here, compares_in, stuck, give_step, element_step, turn_step, next_body, advance, step, steps}
use Rattle.cw_safety.specs.Kinds.{Kind, WordKind, LabelKind, SwitchKind, ProcedureKind, procedure_kind}
use Rattle.cw_safety.specs.WellFormed as formed
use Rattle.cw_safety.specs.WellFormed.{WellFormed, reaches, reaches_switch, is_expression, is_reference, is_element, are_elements, procedure_of_place}
use Rattle.cw_safety.specs.Depth.{owner_of, depth_at, depth_of_unit, depth_in, operands_held}
use Rattle.cw_safety.proofs.Truth.{no, both, if-kind}
use Rattle.cw_safety.proofs.Typing.{Hand, Plain, Between, weigh, Pop, popped, After, spot_shape, AreBetween, ControlFits, HaveKinds, Typed, IsLoop, Calls, Holds, Safe}
use Rattle.cw_safety.proofs.Performing.{Good, perform-good, form-good, put_checked-good, add_step-good}
use Rattle.cw_safety.proofs.Expanding.{pushed, arg_kinds, spot_kinds, spot_depths, depths, arg_depths, depth-expression, depth-argument, depth-condition, depth-spot, depth-reference, depth-statement, formed-expression, formed-argument, formed-condition, formed-spot, formed-reference, formed-statement, expression-typed, condition-typed, spot-typed, statement-typed, element-typed}
use Rattle.cw_safety.proofs.Jumping.{kept-all, control-fits, jump_step-safe}
use Rattle.cw_safety.proofs.Calling.{unit_of-procedure, Next, after-safe, enter_step-safe, come_back-safe, come_back_with-safe}

module _ (p : Program) where
  -- the place of the work
  abbrev Ty : (segment : ℕ) → List Activation → Work → List Hand → Type 0
  Ty s acts = Typed p (segment_of s acts) (owner_of acts) (depth_at p s acts)

  -- other work with the same operands
  works_on : (s : ℕ) (now k : Work) (acts : List Activation) (w : Words) (i : Holds p s now acts w) → Ty s acts k i.3 → Holds p s k acts w
  works_on s now k acts w i t = (i.0, i.1, i.2, i.3, i.4, i.5, t)

  in_unit-safe : (s : ℕ) (acts : List Activation) (f : SourceUnit → Configuration) (other : Configuration) (u : SourceUnit) → slice_get p.units s ≡ Some u → Calls p s acts → ((v : SourceUnit) → Safe p (f v)) → Safe p (in_unit p (here p s acts) f other)
  in_unit-safe s [] f other u e c h = subst (λ x. Safe p (in_unit p x f other)) (sym e) (h u)
  in_unit-safe s (a ∷ acts) f other u e c h =
      let v = unit_of-procedure (slice_get p.units a.segment) a.procedure c.0 c.1 in subst (λ x. Safe p (in_unit p x f other)) (sym v.1) (h v.0)

  -- ---- words that are put at once

  constant-kinds : (l : Expr-F Arg Cond Expr Spot Ref) (s f : ℕ) (acts : List Activation) (w : Words) (ks : List Hand) → HaveKinds p acts w.operands ks → HaveKinds p acts (put_constant p l s f acts w).operands (pushed l ks)
  constant-kinds (layer.Num n) s f acts w ks h = (tt, h)
  constant-kinds (layer.Const z) s f acts w ks h = (tt, h)
  constant-kinds (layer.Text i) s f acts w ks h = (tt, h)
  constant-kinds _ s f acts w ks h = h

  constant-within : (l : Expr-F Arg Cond Expr Spot Ref) (ks : List Hand) (h : ℕ) → weigh ks ≤ h → bound.expression_step (depths l) + weigh ks ≤ h → weigh (pushed l ks) ≤ h
  constant-within (layer.Num n) ks h b d = d
  constant-within (layer.Const z) ks h b d = d
  constant-within (layer.Text i) ks h b d = d
  constant-within _ ks h b d = b

  -- ---- addresses

  address_step-safe : (c : Bool) (spot : Spot) (l : Spot-F Arg Cond Expr Spot Ref) (s line : ℕ) (k : Work) (acts : List Activation) (w : Words) (now : Work) (i : Holds p s now acts w) → IsTrue (formed.spot_step (spot_kinds p (segment_of s acts) (owner_of acts) l)) → bound.spot_step (spot_depths l) + weigh i.3 ≤ depth_at p s acts → ((js : List Hand) → After (depth_at p s acts) (spot_shape l) (Ty s acts k) js → AreBetween l c js → Ty s acts (FormAt spot line k) js) → Ty s acts k (Plain WordKind ∷ i.3) → Safe p (address_step p c spot l s line k acts w)
  address_step-safe c spot (layer.Direct j) s line k acts w now i e d form t = (tt, (i.0, i.1, i.2, Plain WordKind ∷ i.3, (tt, i.4), d, t))
  address_step-safe c spot x s line k acts w now i e d form t =
      (tt, works_on s now (spot_work c spot x line k) acts w i (spot-typed p (segment_of s acts) (owner_of acts) (depth_at p s acts) c spot x line k i.3 e d form t))

  form_at-good : (l : Spot-F Arg Cond Expr Spot Ref) (s : ℕ) (k : Work) (acts : List Activation) (w : Words) (ks : List Hand) → HaveKinds p acts w.operands ks → weigh ks ≤ depth_at p s acts → After (depth_at p s acts) (spot_shape l) (Ty s acts k) ks → Next p s k acts (perform p.limits.area (Form (addressing_of p l s acts w)) w)
  form_at-good (layer.Direct j) s k acts w ks h b t = absurd t
  form_at-good (layer.Through j) s k acts w ks h b t =
      form-good p acts (depth_at p s acts) (Ty s acts k) p.limits.area (addressing_of p (layer.Through j) s acts w) w ks h b t
  form_at-good (layer.One j l u a) s k acts w ks h b t =
      form-good p acts (depth_at p s acts) (Ty s acts k) p.limits.area (addressing_of p (layer.One j l u a) s acts w) w ks h b t
  form_at-good (layer.Two j l1 u1 l2 u2 n a c) s k acts w ks h b t =
      form-good p acts (depth_at p s acts) (Ty s acts k) p.limits.area (addressing_of p (layer.Two j l1 u1 l2 u2 n a c) s acts w) w ks h b t
  form_at-good (layer.ParamArray j a) s k acts w ks h b t =
      form-good p acts (depth_at p s acts) (Ty s acts k) p.limits.area (addressing_of p (layer.ParamArray j a) s acts w) w ks h b t
  form_at-good (layer.Word j q n a) s k acts w ks h b t =
      form-good p acts (depth_at p s acts) (Ty s acts k) p.limits.area (addressing_of p (layer.Word j q n a) s acts w) w ks h b t
  form_at-good (layer.Elem j q n z m a) s k acts w ks h b t =
      form-good p acts (depth_at p s acts) (Ty s acts k) p.limits.area (addressing_of p (layer.Elem j q n z m a) s acts w) w ks h b t
  form_at-good (layer.Bare a) s k acts w ks h b t =
      form-good p acts (depth_at p s acts) (Ty s acts k) p.limits.area (addressing_of p (layer.Bare a) s acts w) w ks h b t

  -- ---- arguments

  held-good : (acts : List Activation) (h : ℕ) (P : List Hand → Type 0) (c : Control) (m : Kind) (w : Words) (ks : List Hand) → HaveKinds p acts w.operands ks → ControlFits p acts c m → weigh (Plain m ∷ ks) ≤ h → P (Plain m ∷ ks) → Good p acts h P (held (Some c) w)
  held-good acts h P c m w ks k f d t = (Plain m ∷ ks, (f, k), d, t)

  label-good : (acts : List Activation) (h : ℕ) (P : List Hand → Type 0) (x : Option (ℕ × ℕ)) (w : Words) (ks : List Hand) → HaveKinds p acts w.operands ks → IsTrue (reaches p (owner_of acts) x) → 2 + weigh ks ≤ h → P (Plain LabelKind ∷ ks) → Good p acts h P (held (with_label_owner (length acts) x) w)
  label-good acts h P None w ks k r d t = no r
  label-good acts h P (Some l) w ks k r d t =
      held-good acts h P (LabelControl l.0 l.1 (length acts)) LabelKind w ks k
      (omega arith, subst (λ xs. IsTrue (reaches p (owner_of xs) (Some l))) (sym (kept-all acts)) r)
      d
      t

  switch-good : (acts : List Activation) (h : ℕ) (P : List Hand → Type 0) (x : Option (ℕ × ℕ)) (w : Words) (ks : List Hand) → HaveKinds p acts w.operands ks → IsTrue (reaches_switch p (owner_of acts) x) → 2 + weigh ks ≤ h → P (Plain SwitchKind ∷ ks) → Good p acts h P (held (with_switch_owner (length acts) x) w)
  switch-good acts h P None w ks k r d t = no r
  switch-good acts h P (Some l) w ks k r d t =
      held-good acts h P (SwitchControl l.0 l.1 (length acts)) SwitchKind w ks k
      (omega arith, subst (λ xs. IsTrue (reaches_switch p (owner_of xs) (Some l))) (sym (kept-all acts)) r)
      d
      t

  weight-two : (acts : List Activation) (c : Control) (m : Kind) (ks : List Hand) → ControlFits p acts c m → weigh (Plain m ∷ ks) ≡ 2 + weigh ks
  weight-two acts (LabelControl g l owner) WordKind ks f = absurd f
  weight-two acts (SwitchControl g l owner) WordKind ks f = absurd f
  weight-two acts (ProcedureControl g q) WordKind ks f = absurd f
  weight-two acts c _ ks f = refl

  control-good : (acts : List Activation) (h : ℕ) (P : List Hand → Type 0) (c : Control) (m : Kind) (w : Words) (ks : List Hand) → HaveKinds p acts w.operands ks → ControlFits p acts c m → 2 + weigh ks ≤ h → P (Plain m ∷ ks) → Good p acts h P (held (Some c) w)
  control-good acts h P c m w ks k f d t = held-good acts h P c m w ks k f (omega (arith, d, weight-two acts c m ks f)) t

  procedure-fits : (acts : List Activation) (g q : ℕ) (x : Option Proc) (m : Kind) → procedure_at p g q ≡ x → procedure_kind x ≡ Some m → ControlFits p acts (ProcedureControl g q) m
  procedure-fits acts g q None m e k = absurd (none-some m k)
  procedure-fits acts g q (Some proc) (ProcedureKind ts) e k = ap procedure_kind e ∙ k
  procedure-fits acts g q (Some proc) _ e k = absurd (cc)

  place-good : (acts : List Activation) (h : ℕ) (P : List Hand → Type 0) (x : Option (ℕ × ℕ)) (m : Kind) (w : Words) (ks : List Hand) → HaveKinds p acts w.operands ks → procedure_kind (procedure_of_place p x) ≡ Some m → 2 + weigh ks ≤ h → P (Plain m ∷ ks) → Good p acts h P (held (as_procedure x) w)
  place-good acts h P None m w ks k e d t = absurd (none-some m e)
  place-good acts h P (Some q) m w ks k e d t =
      control-good acts h P (ProcedureControl q.0 q.1) m w ks k (procedure-fits acts q.0 q.1 (procedure_at p q.0 q.1) m refl e) d t

  give_step-safe : (l : Arg-F Arg Cond Expr Spot Ref) (s line : ℕ) (now k : Work) (acts : List Activation) (w : Words) (m : Kind) (i : Holds p s now acts w) → formed.argument_step p (segment_of s acts) (owner_of acts) (arg_kinds p (segment_of s acts) (owner_of acts) l) ≡ Some m → (bound.argument_step (arg_depths l)).most + weigh i.3 ≤ depth_at p s acts → Ty s acts k (Plain m ∷ i.3) → Safe p (give_step p l s line now k acts w)
  give_step-safe (layer.Value e f) s line now k acts w m i q d t =
      let parts = if-kind (is_expression p (segment_of s acts) (owner_of acts) e) WordKind m q in
      (tt, (i.0, i.1, i.2, i.3, i.4, i.5, (parts.0, d, subst (λ x. Ty s acts k (Plain x ∷ i.3)) (sym parts.1) t)))
  give_step-safe (layer.Place r) s line now k acts w m i q d t =
      let parts = if-kind (is_reference p (segment_of s acts) (owner_of acts) r) WordKind m q in
      (tt, (i.0, i.1, i.2, i.3, i.4, i.5, (parts.0, d, subst (λ x. Ty s acts k (Plain x ∷ i.3)) (sym parts.1) t)))
  give_step-safe (layer.Array j l) s line now k acts w m i q d t =
      let z : ℤ = pos (address_at p s acts j) -ℤ l in
      after-safe p (put_if (fits_word z) AddressRange z w) s line now k acts w i
      (put_checked-good p acts (depth_at p s acts) (Ty s acts k) (fits_word z) AddressRange z w i.3 i.4 d
      (subst (λ x. Ty s acts k (Plain x ∷ i.3)) (sym (same_Some WordKind m q)) t))
  give_step-safe (layer.Same j) s line now k acts w m i q d t =
      (tt, (i.0, i.1, i.2, Plain WordKind ∷ i.3, (tt, i.4), d, subst (λ x. Ty s acts k (Plain x ∷ i.3)) (sym (same_Some WordKind m q)) t))
  give_step-safe (layer.Base j) s line now k acts w m i q d t =
      (tt, (i.0, i.1, i.2, Plain WordKind ∷ i.3, (tt, i.4), d, subst (λ x. Ty s acts k (Plain x ∷ i.3)) (sym (same_Some WordKind m q)) t))
  give_step-safe (layer.Goal g) s line now k acts w m i q d t =
      let x : Option (ℕ × ℕ) = label_of_goal p (segment_of s acts) g in
      let parts = if-kind (reaches p (owner_of acts) x) LabelKind m q in
      after-safe p (held (with_label_owner (length acts) x) w) s line now k acts w i
      (label-good acts (depth_at p s acts) (Ty s acts k) x w i.3 i.4 parts.0 d (subst (λ y. Ty s acts k (Plain y ∷ i.3)) (sym parts.1) t))
  give_step-safe (layer.Switch n) s line now k acts w m i q d t =
      let x : Option (ℕ × ℕ) = Some (segment_of s acts, n) in
      let parts = if-kind (reaches_switch p (owner_of acts) x) SwitchKind m q in
      after-safe p (held (with_switch_owner (length acts) x) w) s line now k acts w i
      (switch-good acts (depth_at p s acts) (Ty s acts k) x w i.3 i.4 parts.0 d (subst (λ y. Ty s acts k (Plain y ∷ i.3)) (sym parts.1) t))
  give_step-safe (layer.CommonSwitch n) s line now k acts w m i q d t =
      let x : Option (ℕ × ℕ) = switch_of_def (definition_of p (segment_of s acts) n) in
      let parts = if-kind (reaches_switch p (owner_of acts) x) SwitchKind m q in
      after-safe p (held (with_switch_owner (length acts) x) w) s line now k acts w i
      (switch-good acts (depth_at p s acts) (Ty s acts k) x w i.3 i.4 parts.0 d (subst (λ y. Ty s acts k (Plain y ∷ i.3)) (sym parts.1) t))
  give_step-safe (layer.Proc n) s line now k acts w m i q d t =
      after-safe p (held (Some (ProcedureControl (segment_of s acts) n)) w) s line now k acts w i
      (place-good acts (depth_at p s acts) (Ty s acts k) (Some (segment_of s acts, n)) m w i.3 i.4 q d t)
  give_step-safe (layer.CommonProc n) s line now k acts w m i q d t =
      let x : Option (ℕ × ℕ) = procedure_of_def (definition_of p (segment_of s acts) n) in
      after-safe p (held (as_procedure x) w) s line now k acts w i (place-good acts (depth_at p s acts) (Ty s acts k) x m w i.3 i.4 q d t)
  give_step-safe (layer.Special n) s line now k acts w m i q d t =
      let c = control-fits p s acts i.2 n m q in
      subst (λ x. Safe p (after (held x w) s line now k acts w)) (sym c.1)
      (after-safe p (held (Some c.0) w) s line now k acts w i (control-good acts (depth_at p s acts) (Ty s acts k) c.0 m w i.3 i.4 c.2 d t))

  -- ---- choices and loops

  picked : (b : Bool) (s : ℕ) (acts : List Activation) (pass fail : Work) (ks : List Hand) → Ty s acts pass ks → Ty s acts fail ks → Ty s acts (pick b pass fail) ks
  picked true s acts pass fail ks t n = t
  picked false s acts pass fail ks t n = n

  choose_with-safe : (f : ℤ → ℤ → Bool) (xs : List Operand) (ks : List Hand) (s : ℕ) (now pass fail : Work) (acts : List Activation) (w : Words) → Holds p s now acts w → HaveKinds p acts xs ks → weigh ks ≤ depth_at p s acts → Pop (Pop (λ r. Ty s acts pass r × Ty s acts fail r)) ks → Safe p (choose_with f xs s now pass fail acts w)
  choose_with-safe f xs ks s now pass fail acts w i k b q =
      let y = popped p (Pop (λ r. Ty s acts pass r × Ty s acts fail r)) acts xs ks k q in
      let x = popped p (λ r. Ty s acts pass r × Ty s acts fail r) acts y.operands y.below y.kinds y.holds in
      subst (λ ys. Safe p (choose_with f ys s now pass fail acts w)) (sym (y.is ∙ ap (λ ys. Word y.word ∷ ys) x.is))
      (tt, (i.0, i.1, i.2, x.below, x.kinds, omega (arith, b, y.weighs, x.weighs), picked (f x.word y.word) s acts pass fail x.below x.holds.0 x.holds.1))

  element-fits : (g : ℕ) (o : Option (ℕ × ℕ)) (h : ℕ) (es : List Felem) (n : ℕ) (e : Felem) → IsTrue (are_elements p g o es) → bound.elements_depth es ≤ h → slice_get es n ≡ Some e → IsTrue (is_element p g o e) × (bound.element_depth e ≤ h)
  element-fits g o h [] n e a d q = absurd (none-some e q)
  element-fits g o h (x ∷ es) zero e a d q =
      subst (λ y. IsTrue (is_element p g o y) × (bound.element_depth y ≤ h)) (same_Some x e q)
      ((both (is_element p g o x) (are_elements p g o es) a).0, omega (arith, d))
  element-fits g o h (x ∷ es) (suc n) e a d q =
      element-fits g o h es n e (both (is_element p g o x) (are_elements p g o es) a).1 (omega (arith, d)) q

  element_at-fits : (g : ℕ) (o : Option (ℕ × ℕ)) (h : ℕ) (es : List Felem) (n : ℕ) (e : Felem) → IsTrue (are_elements p g o es) → bound.elements_depth es ≤ h → element_at es n ≡ Some e → IsTrue (is_element p g o e) × (bound.element_depth e ≤ h)
  element_at-fits g o h es zero e a d q = absurd (none-some e q)
  element_at-fits g o h es (suc n) e a d q = element-fits g o h es n e a d q

  element_step-safe : (x : Option Felem) (s n : ℕ) (c : Loop) (now k : Work) (acts : List Activation) (w : Words) (i : Holds p s now acts w) → element_at c.elements n ≡ x → i.3 ≡ [] → IsLoop p (segment_of s acts) (owner_of acts) (depth_at p s acts) c → Ty s acts k [] → Safe p (element_step p x s n c k acts w)
  element_step-safe None s n c now k acts w i e q l t = (tt, works_on s now k acts w i (subst (Ty s acts k) (sym q) t))
  element_step-safe (Some x) s n c now k acts w i e q l t =
      let f = element_at-fits (segment_of s acts) (owner_of acts) (depth_at p s acts) c.elements n x l.0 l.1 e in
      (tt, works_on s now (element_work x n c k) acts w i (subst (Ty s acts (element_work x n c k)) (sym q) (element-typed p (segment_of s acts) (owner_of acts) (depth_at p s acts) x n c k l f.0 f.1 t)))

  turn_step-safe : (b : Bool) (s a n : ℕ) (c : Loop) (now k : Work) (acts : List Activation) (w : Words) (i : Holds p s now acts w) → i.3 ≡ [] → IsLoop p (segment_of s acts) (owner_of acts) (depth_at p s acts) c → Ty s acts k [] → Safe p (turn_step p b s a n c now k acts w)
  turn_step-safe false s a n c now k acts w i q l t = (tt, i)
  turn_step-safe true s a n c now k acts w i q l t =
      let past = is_past (word_at w.memory (a + 1)) (word_at w.memory (number_of (word_at w.memory a))) (word_at w.memory (a + 2)) in
      (tt, works_on s now (pick past (Element (n + 1) c k) (Run c.body (On c k))) acts w i (picked past s acts (Element (n + 1) c k) (Run c.body (On c k)) i.3 (q, l, t) (q, l.2, l.3, (refl, l, t))))

  next-typed : (x : Option Felem) (s n : ℕ) (c : Loop) (k : Work) (acts : List Activation) (ks : List Hand) → ks ≡ [] → IsLoop p (segment_of s acts) (owner_of acts) (depth_at p s acts) c → Ty s acts k [] → Ty s acts (next_element x n c k) ks
  next-typed None s n c k acts ks q l t = subst (Ty s acts k) (sym q) t
  next-typed (Some (element.One e)) s n c k acts ks q l t = (q, l, t)
  next-typed _ s n c k acts ks q l t = (q, l, t)

  -- ---- all work

  module _ (wf : WellFormed p) where
    next_body-safe : (x : Option SourceUnit) (s : ℕ) (acts : List Activation) (w : Words) (i : Holds p s Nothing acts w) → slice_get p.units (s + 1) ≡ x → i.3 ≡ [] → owner_of acts ≡ None → Safe p (next_body p x s acts w)
    next_body-safe None s acts w i e q o = (tt, i)
    next_body-safe (Some u) s (a ∷ acts) w i e q o = absurd (none-some (a.segment, a.procedure) (sym o))
    next_body-safe (Some u) s [] w i e q o =
        let deep : depth_of_unit (slice_get p.units (s + 1)) ≡ body_depth u.body = ap depth_of_unit e in
        (tt, (u, e, tt, [], subst (HaveKinds p [] w.operands) q i.4, omega arith, (refl, wf.bodies (s + 1) u e, omega (arith, deep), (refl, refl))))

    pub advance-safe : (s : ℕ) (k : Work) (acts : List Activation) (w : Words) → Holds p s k acts w → Safe p (advance p s k acts w)
    advance-safe s Nothing acts w i = next_body-safe (slice_get p.units (s + 1)) s acts w i refl i.6.0 i.6.1
    advance-safe s (Run t k) acts w i =
        let g : ℕ = segment_of s acts in
        let o : Option (ℕ × ℕ) = owner_of acts in
        let f = subst IsTrue (formed-statement p g o t) i.6.1 in
        let d = subst (λ n. n ≤ depth_at p s acts) (depth-statement t) i.6.2 in
        let n = statement-typed p g o (depth_at p s acts) (answer_scale_of p acts) (out-Stmt t) k f d i.6.3 in
        (tt, (i.0, i.1, i.2, [], subst (HaveKinds p acts w.operands) i.6.0 i.4, omega arith, n))
    advance-safe s (Eval e f line k) acts w i =
        let g : ℕ = segment_of s acts in
        let o : Option (ℕ × ℕ) = owner_of acts in
        let a = subst IsTrue (formed-expression p g o e) i.6.0 in
        let d = subst (λ n. n + weigh i.3 ≤ depth_at p s acts) (depth-expression e) i.6.1 in
        in_unit-safe s acts (λ u. at s (expression_work u (out-Expr e) f line k) acts (put_constant p (out-Expr e) s f acts w) Running)
        (stuck p s (Eval e f line k) acts w)
        i.0
        i.1
        i.2
        (λ u. (
          tt,
          (
            i.0,
            i.1,
            i.2,
            pushed (out-Expr e) i.3,
            constant-kinds (out-Expr e) s f acts w i.3 i.4,
            constant-within (out-Expr e) i.3 (depth_at p s acts) i.5 d,
            expression-typed p g o (depth_at p s acts) u (out-Expr e) f line k i.3 a d i.6.2,
          ),
        ))
    advance-safe s (Address r line k) acts w i =
        let g : ℕ = segment_of s acts in
        let o : Option (ℕ × ℕ) = owner_of acts in
        let spot : Spot = (out-Ref r).at in
        let a = subst IsTrue (formed-reference p g o r ∙ formed-spot p g o spot) i.6.0 in
        let d = subst (λ n. n + weigh i.3 ≤ depth_at p s acts) (depth-reference r ∙ depth-spot spot) i.6.1 in
        address_step-safe (compares_in p (here p s acts)) spot (out-Spot spot) s line k acts w (Address r line k) i a d (λ js h between. (h, between)) i.6.2
    advance-safe s (FormAt spot line k) acts w i =
        after-safe p (perform p.limits.area (Form (addressing_of p (out-Spot spot) s acts w)) w) s line (FormAt spot line k) k acts w i
        (form_at-good (out-Spot spot) s k acts w i.3 i.4 i.5 i.6.0)
    advance-safe s (Do op line k) acts w i =
        after-safe p (perform p.limits.area op w) s line (Do op line k) k acts w i
        (perform-good p acts (depth_at p s acts) (Ty s acts k) p.limits.area op w i.3 i.4 i.5 i.6)
    advance-safe s (Test c line pass fail) acts w i =
        let g : ℕ = segment_of s acts in
        let o : Option (ℕ × ℕ) = owner_of acts in
        let a = subst IsTrue (formed-condition p g o c) i.6.0 in
        let d = subst (λ n. n + weigh i.3 ≤ depth_at p s acts) (depth-condition c) i.6.1 in
        in_unit-safe s acts (λ u. at s (condition_work u (out-Cond c) line pass fail) acts w Running) (stuck p s (Test c line pass fail) acts w) i.0 i.1 i.2
        (λ u.
        (tt, (i.0, i.1, i.2, i.3, i.4, i.5, condition-typed p g o (depth_at p s acts) u (out-Cond c) line pass fail i.3 a d i.6.2 i.6.3)))
    advance-safe s (Choose op line pass fail) acts w i =
        choose_with-safe (holds op) w.operands i.3 s (Choose op line pass fail) pass fail acts w i i.4 i.5 i.6
    advance-safe s (Jump d line) acts w i = jump_step-safe p wf d s line (Jump d line) acts w i i.6
    advance-safe s (Give a line k) acts w i =
        let g : ℕ = segment_of s acts in
        let o : Option (ℕ × ℕ) = owner_of acts in
        let d = subst (λ x. x.most + weigh i.3 ≤ depth_at p s acts) (depth-argument a) i.6.2 in
        give_step-safe (out-Arg a) s line (Give a line k) k acts w i.6.0 i (sym (formed-argument p g o a) ∙ i.6.1) d i.6.3
    advance-safe s (Enter t line wanted k) acts w i =
        enter_step-safe p wf t s line wanted (Enter t line wanted k) k acts w i.6.0 i.6.1 i i.6.3 i.6.2 i.6.4 i.6.5
    advance-safe s Return acts w i = come_back_with-safe p s Return acts w i i.6.0 i.6.1
    advance-safe s Leave acts w i = come_back-safe p (pos 0) s Leave acts w i i.6
    advance-safe s (KeepAt n c k) acts w i =
        after-safe p (perform p.limits.area (Keep (address_at p s acts c.item + n)) w) s c.line (KeepAt n c k) k acts w i
        (perform-good p acts (depth_at p s acts) (Ty s acts k) p.limits.area (Keep (address_at p s acts c.item + n)) w i.3 i.4 i.5 i.6)
    advance-safe s (SetVar c k) acts w i =
        after-safe p (perform p.limits.area (SetVariable (address_at p s acts c.item)) w) s c.line (SetVar c k) k acts w i
        (perform-good p acts (depth_at p s acts) (Ty s acts k) p.limits.area (SetVariable (address_at p s acts c.item)) w i.3 i.4 i.5 i.6)
    advance-safe s (Element n c k) acts w i =
        element_step-safe (element_at c.elements n) s n c (Element n c k) k acts w i refl i.6.0 i.6.1 i.6.2
    advance-safe s (Turn n c k) acts w i =
        turn_step-safe (is_below (word_at w.memory (address_at p s acts c.item)) p.limits.area) s (address_at p s acts c.item) n c (Turn n c k) k acts w i
        i.6.0
        i.6.1
        i.6.2
    advance-safe s (Bump n c k) acts w i =
        after-safe p (perform p.limits.area (AddStep (address_at p s acts c.item)) w) s c.line (Bump n c k) (Turn n c k) acts w i
        (add_step-good p acts (depth_at p s acts) (Ty s acts (Turn n c k)) p.limits.area (address_at p s acts c.item) w i.3 i.4 i.5
        (i.6.0, i.6.1, i.6.2))
    advance-safe s (On c k) acts w i =
        let n : ℕ = number_of (word_at w.memory (address_at p s acts c.item + 3)) in
        (tt, (i.0, i.1, i.2, i.3, i.4, i.5, next-typed (element_at c.elements n) s n c k acts i.3 i.6.0 i.6.1 i.6.2))

    step-safe : (c : Configuration) → Safe p c → Safe p (step p c)
    step-safe (at s k acts w Running) h = advance-safe s k acts w h.1
    step-safe (at s k acts w Ended) h = h
    step-safe (at s k acts w (Stopped kind g line)) h = h
    step-safe (at s k acts w Stuck) h = absurd h.0

    steps-safe : (m : ℕ) (c : Configuration) → Safe p c → Safe p (steps p m c)
    steps-safe zero c h = h
    steps-safe (suc m) c h = steps-safe m (step p c) (step-safe c h)

    -- ---- runs

    begins : (x : Option SourceUnit) → slice_get p.units 0 ≡ x → IsTrue (is_some x) → (w : Words) → w.operands ≡ [] → Safe p (at 0 (first_body x) [] w Running)
    begins None e h w q = no h
    begins (Some u) e h w q =
        let deep : depth_of_unit (slice_get p.units 0) ≡ body_depth u.body = ap depth_of_unit e in
        (tt, (u, e, tt, [], subst (λ xs. HaveKinds p [] xs []) (sym q) tt, omega arith, (refl, wf.bodies 0 u e, omega (arith, deep), (refl, refl))))

    pub run-safe : (input : List ℕ) (m : ℕ) → Safe p (configuration_after p input m)
    run-safe input m = steps-safe m (initial_configuration p input) (begins (slice_get p.units 0) refl wf.segments (words_of (initial_configuration p input)) refl)

  -- ---- the operands that are held

  pub held-weighs : (acts : List Activation) (xs : List Operand) (ks : List Hand) → HaveKinds p acts xs ks → operands_held xs ≡ weigh ks
  held-weighs acts [] [] h = refl
  held-weighs acts [] (k ∷ ks) h = absurd h
  held-weighs acts (x ∷ xs) [] h = absurd h
  held-weighs acts (Word z ∷ xs) (Plain WordKind ∷ ks) h = ap (λ n. 1 + n) (held-weighs acts xs ks h.1)
  held-weighs acts (Word z ∷ xs) (Plain LabelKind ∷ ks) h = absurd h.0
  held-weighs acts (Word z ∷ xs) (Plain SwitchKind ∷ ks) h = absurd h.0
  held-weighs acts (Word z ∷ xs) (Plain (ProcedureKind ts) ∷ ks) h = absurd h.0
  held-weighs acts (Word z ∷ xs) (Between l u ∷ ks) h = ap (λ n. 1 + n) (held-weighs acts xs ks h.1)
  held-weighs acts (Held c ∷ xs) (Plain k ∷ ks) h = ap (λ n. 2 + n) (held-weighs acts xs ks h.1) ∙ sym (weight-two acts c k ks h.0)
  held-weighs acts (Held c ∷ xs) (Between l u ∷ ks) h = absurd h.0

  held-within : (c : Configuration) → Safe p c → operands_held (words_of c).operands ≤ depth_in p c
  held-within (at s k acts w e) h = omega (arith, h.1.5, held-weighs acts w.operands h.1.3 h.1.4)

  not-stuck : (c : Configuration) → Safe p c → (shown c).end ≢ Stuck
  not-stuck (at s k acts w Running) h e = absurd (cc)
  not-stuck (at s k acts w Ended) h e = absurd (cc)
  not-stuck (at s k acts w (Stopped kind g line)) h e = absurd (cc)
  not-stuck (at s k acts w Stuck) h e = absurd h.0

  pub depth-kept : (input : List ℕ) (m : ℕ) → WellFormed p → operands_held (words_of (configuration_after p input m)).operands ≤ depth_in p (configuration_after p input m)
  depth-kept input m wf = held-within (configuration_after p input m) (run-safe wf input m)

  pub never-stuck : (input : List ℕ) (m : ℕ) → WellFormed p → (observed p input m).end ≢ Stuck
  never-stuck input m wf = not-stuck (configuration_after p input m) (run-safe wf input m)
