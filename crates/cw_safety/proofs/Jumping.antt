-- Jumps: a label that is reached has work that follows it, and its owner is at work.
use Rattle.std.proofs.Common.{◌≡◌, ℕ, zero, suc, ◌-◌, ◌≤◌, ℤ, pos, negsuc, List, [], ◌∷◌, length, drop, Bool, IsTrue, ◌&&◌, Option, Some, None, nat_eq, refl, sym, ap, subst, ◌∙◌, arith, slice_get}
use Rattle.std.proofs.lemmas.Option.{none-some, same_Some}
use Rattle.cw_unit.specs.declared.unit.Unit.{Unit as SourceUnit}
use Rattle.cw_unit.specs.declared.unit.Proc.{Proc}
use Rattle.cw_unit.specs.declared.unit.Label.{Label}
use Rattle.cw_unit.specs.declared.unit.Goal.{Goal}
use Rattle.cw_unit.specs.declared.unit.Dest.{Dest}
use Rattle.cw_unit.specs.declared.unit.Dest.TheVariants as dest
use Rattle.cw_unit.specs.Program.{Program, definition_of}
use Rattle.cw_unit.specs.Words.{Control, LabelControl, SwitchControl, ProcedureControl, Operand, Words}
use Rattle.cw_unit.specs.Work.{Work, Nothing, Leave}
use Rattle.cw_unit.specs.LabelContinuation.{label_continuation}
use Rattle.cw_unit.specs.Configuration.{Activation, segment_of, control_at, procedure_in, procedure_at}
use Rattle.cw_unit.specs.StackBound.{body_depth}
use Rattle.cw_unit.specs.Step.{label_of_goal, switch_of_def, kept, work_from, jump_in_procedure, jump_in_unit, jump_to_unit, jump_to, jump_to_control, goal_at, jump_to_goal, switch_in, jump_by_list, jump_by_switch, jump_by_control, jump_step}
use Rattle.cw_safety.specs.Kinds.{Kind, WordKind, LabelKind, SwitchKind, ProcedureKind, parameter_kinds, control_kinds}
use Rattle.cw_safety.specs.WellFormed.{WellFormed, sets, sets_in_procedure, is_at, reaches_label, reaches_unit, reaches, reaches_goals, reaches_list, reaches_switch, controls_in, controls_of, is_label, is_switch}
use Rattle.cw_safety.specs.Depth.{owner_of, depth_at, depth_of_unit, depth_of_procedure}
use Rattle.cw_safety.proofs.Truth.{no, both, nat_same}
use Rattle.cw_safety.proofs.Typing.{Hand, Plain, Between, Pop, popped, ControlFits, HaveKinds, Fit, CanJump, Calls, Holds, Safe}
use Rattle.cw_safety.proofs.Labels.{Reached, continues}

-- ---- owners

pub kept-all : (acts : List Activation) → kept (length acts) acts ≡ acts
kept-all acts = let e : length acts - length acts ≡ 0 = omega arith in ap (λ n. drop n acts) e

pub kept-more : (owner : ℕ) (a : Activation) (acts : List Activation) → owner ≤ length acts → kept owner (a ∷ acts) ≡ kept owner acts
kept-more owner a acts h = let e : length (a ∷ acts) - owner ≡ suc (length acts - owner) = omega (arith, h) in ap (λ n. drop n (a ∷ acts)) e

pub label-of : (x : Option Kind) → IsTrue (is_label x) → x ≡ Some LabelKind
label-of None h = no h
label-of (Some WordKind) h = no h
label-of (Some LabelKind) h = refl
label-of (Some SwitchKind) h = no h
label-of (Some (ProcedureKind ts)) h = no h

pub switch-of : (x : Option Kind) → IsTrue (is_switch x) → x ≡ Some SwitchKind
switch-of None h = no h
switch-of (Some WordKind) h = no h
switch-of (Some LabelKind) h = no h
switch-of (Some SwitchKind) h = refl
switch-of (Some (ProcedureKind ts)) h = no h

-- a word that is alone is taken
alone-taken : (ks : List Hand) → Pop (λ r. r ≡ []) ks → Pop (λ r. Unit {0}) ks
alone-taken [] h = absurd h
alone-taken (Plain WordKind ∷ ks) h = tt
alone-taken (Plain LabelKind ∷ ks) h = absurd h
alone-taken (Plain SwitchKind ∷ ks) h = absurd h
alone-taken (Plain (ProcedureKind ts) ∷ ks) h = absurd h
alone-taken (Between l u ∷ ks) h = tt

module _ (p : Program) where
  pub calls-drop : (n s : ℕ) (acts : List Activation) → Calls p s acts → Calls p s (drop n acts)
  calls-drop zero s acts c = c
  calls-drop (suc n) s [] c = c
  calls-drop (suc n) s (a ∷ acts) c = calls-drop n s acts c.8

  pub fits-more : (a : Activation) (acts : List Activation) (c : Control) (m : Kind) → ControlFits p acts c m → ControlFits p (a ∷ acts) c m
  fits-more a acts (LabelControl g l owner) LabelKind f =
      (omega (arith, f.0), subst (λ xs. IsTrue (reaches p (owner_of xs) (Some (g, l)))) (sym (kept-more owner a acts f.0)) f.1)
  fits-more a acts (SwitchControl g n owner) SwitchKind f =
      (omega (arith, f.0), subst (λ xs. IsTrue (reaches_switch p (owner_of xs) (Some (g, n)))) (sym (kept-more owner a acts f.0)) f.1)
  fits-more a acts (ProcedureControl g q) (ProcedureKind ts) f = f
  fits-more a acts (LabelControl g l owner) WordKind f = absurd f
  fits-more a acts (LabelControl g l owner) SwitchKind f = absurd f
  fits-more a acts (LabelControl g l owner) (ProcedureKind ts) f = absurd f
  fits-more a acts (SwitchControl g l owner) WordKind f = absurd f
  fits-more a acts (SwitchControl g l owner) LabelKind f = absurd f
  fits-more a acts (SwitchControl g l owner) (ProcedureKind ts) f = absurd f
  fits-more a acts (ProcedureControl g q) WordKind f = absurd f
  fits-more a acts (ProcedureControl g q) LabelKind f = absurd f
  fits-more a acts (ProcedureControl g q) SwitchKind f = absurd f

  fit-at : (acts : List Activation) (cs : List Control) (ks : List Kind) (n : ℕ) (m : Kind) → Fit p acts cs ks → slice_get ks n ≡ Some m → (c : Control) × (slice_get cs n ≡ Some c) × ControlFits p acts c m
  fit-at acts [] [] n m f e = absurd (none-some m e)
  fit-at acts [] (k ∷ ks) n m f e = absurd f
  fit-at acts (c ∷ cs) [] n m f e = absurd f
  fit-at acts (c ∷ cs) (k ∷ ks) zero m f e = (c, refl, subst (ControlFits p acts c) (same_Some k m e) f.0)
  fit-at acts (c ∷ cs) (k ∷ ks) (suc n) m f e = fit-at acts cs ks n m f.1 e

  -- a control parameter has its argument
  pub control-fits : (s : ℕ) (acts : List Activation) → Calls p s acts → (n : ℕ) (m : Kind) → slice_get (controls_of p (owner_of acts)) n ≡ Some m → (c : Control) × (control_at acts n ≡ Some c) × ControlFits p acts c m
  control-fits s [] c n m e = absurd (none-some m e)
  control-fits s (a ∷ acts) c n m e =
      let e' = ap (λ q. slice_get (controls_in q) n) (sym c.1) ∙ e in
      let f = fit-at acts a.controls (control_kinds (parameter_kinds c.0)) n m c.2 e' in
      (f.0, f.1, fits-more a acts f.0 m f.2)

  -- ---- jumps

  module _ (wf : WellFormed p) where
    continued : (s : ℕ) (k : Option Work) (acts : List Activation) (w : Words) (u : SourceUnit) (b : Bool) → slice_get p.units s ≡ Some u → Calls p s acts → IsTrue b → Reached p (segment_of s acts) (owner_of acts) (depth_at p s acts) b k → Safe p (work_from s k acts w)
    continued s None acts w u b e c t r = absurd (r t)
    continued s (Some k) acts w u b e c t r = (tt, (u, e, c, [], tt, omega arith, r))

    in_procedure : (v : SourceUnit) (q : Proc) (s h l n : ℕ) (acts : List Activation) (w : Words) (u : SourceUnit) → slice_get p.units s ≡ Some u → slice_get p.units h ≡ Some v → slice_get v.procs n ≡ Some q → Calls p s acts → IsTrue (is_at h n (owner_of acts)) → IsTrue (sets l q.body) → Safe p (work_from s (label_continuation l q.body Leave) acts w)
    in_procedure v q s h l n [] w u e f g c i t = no i
    in_procedure v q s h l n (a ∷ acts) w u e f g c i t =
        let same = both (nat_eq a.segment h) (nat_eq a.procedure n) i in
        let f' : slice_get p.units a.segment ≡ Some v = ap (slice_get p.units) (nat_same a.segment h same.0) ∙ f in
        let g' : slice_get v.procs a.procedure ≡ Some q = ap (slice_get v.procs) (nat_same a.procedure n same.1) ∙ g in
        let at' : procedure_at p a.segment a.procedure ≡ Some q = ap (λ x. procedure_in x a.procedure) f' ∙ g' in
        let deep : depth_of_procedure (procedure_at p a.segment a.procedure) ≡ body_depth q.body = ap depth_of_procedure at' in
        continued s (label_continuation l q.body Leave) (a ∷ acts) w u (sets l q.body) e c t
        (continues p a.segment (Some (a.segment, a.procedure)) (depth_at p s (a ∷ acts)) l q.body Leave (wf.procedures a.segment a.procedure v q f' g')
        (omega (arith, deep))
        refl)

    jump_in_procedure-safe : (v : SourceUnit) (x : Option Proc) (s h l n owner : ℕ) (now : Work) (acts : List Activation) (w : Words) (u : SourceUnit) → slice_get p.units s ≡ Some u → slice_get p.units h ≡ Some v → slice_get v.procs n ≡ x → Calls p s acts → IsTrue (is_at h n (owner_of (kept owner acts))) → IsTrue (sets_in_procedure l x) → Safe p (jump_in_procedure x s l owner now acts w)
    jump_in_procedure-safe v None s h l n owner now acts w u e f g c i t = no t
    jump_in_procedure-safe v (Some q) s h l n owner now acts w u e f g c i t =
        in_procedure v q s h l n (kept owner acts) w u e f g (calls-drop (length acts - owner) s acts c) i t

    jump_in_unit-safe : (v : SourceUnit) (x : Option Label) (s h l owner : ℕ) (now : Work) (acts : List Activation) (w : Words) (u : SourceUnit) → slice_get p.units s ≡ Some u → slice_get p.units h ≡ Some v → Calls p s acts → IsTrue (reaches_label v x h l (owner_of (kept owner acts))) → Safe p (jump_in_unit v x s h l owner now acts w)
    jump_in_unit-safe v None s h l owner now acts w u e f c r = no r
    jump_in_unit-safe v (Some m) s h l owner now acts w u e f c r =
        (elim m.proc as
        (λ o.
        IsTrue (elim o [ None ↦ sets l v.body | Some q ↦ is_at h q (owner_of (kept owner acts)) && sets_in_procedure l (slice_get v.procs q) ]) → Safe p (elim o [
          | None ↦ work_from h (label_continuation l v.body Nothing) [] w
          | Some q ↦ jump_in_procedure (slice_get v.procs q) s l owner now acts w
        ])) [
          | None ↦ λ t.
              let deep : depth_of_unit (slice_get p.units h) ≡ body_depth v.body = ap depth_of_unit f in
              continued h (label_continuation l v.body Nothing) [] w v (sets l v.body) f tt t
              (continues p h None (depth_at p h []) l v.body Nothing (wf.bodies h v f) (omega (arith, deep)) (refl, refl))
          | Some q ↦ λ t.
              let parts = both (is_at h q (owner_of (kept owner acts))) (sets_in_procedure l (slice_get v.procs q)) t in
              jump_in_procedure-safe v (slice_get v.procs q) s h l q owner now acts w u e f refl c parts.0 parts.1
        ]) r

    jump_to_unit-safe : (x : Option SourceUnit) (s h l owner : ℕ) (now : Work) (acts : List Activation) (w : Words) (u : SourceUnit) → slice_get p.units s ≡ Some u → slice_get p.units h ≡ x → Calls p s acts → IsTrue (reaches_unit x h l (owner_of (kept owner acts))) → Safe p (jump_to_unit x s h l owner now acts w)
    jump_to_unit-safe None s h l owner now acts w u e f c r = no r
    jump_to_unit-safe (Some v) s h l owner now acts w u e f c r = jump_in_unit-safe v (slice_get v.labels l) s h l owner now acts w u e f c r

    pub jump_to-safe : (x : Option (ℕ × ℕ)) (owner s : ℕ) (now : Work) (acts : List Activation) (w : Words) → Holds p s now acts w → IsTrue (reaches p (owner_of (kept owner acts)) x) → Safe p (jump_to p x owner s now acts w)
    jump_to-safe None owner s now acts w i r = no r
    jump_to-safe (Some l) owner s now acts w i r = jump_to_unit-safe (slice_get p.units l.0) s l.0 l.1 owner now acts w i.0 i.1 refl i.2 r

    jump_to_control-safe : (c : Control) (s : ℕ) (now : Work) (acts : List Activation) (w : Words) → Holds p s now acts w → ControlFits p acts c LabelKind → Safe p (jump_to_control p (Some c) s now acts w)
    jump_to_control-safe (LabelControl g l owner) s now acts w i f = jump_to-safe (Some (g, l)) owner s now acts w i f.1
    jump_to_control-safe (SwitchControl g l owner) s now acts w i f = absurd f
    jump_to_control-safe (ProcedureControl g q) s now acts w i f = absurd f

    goal-reached : (o : Option (ℕ × ℕ)) (h : ℕ) (gs : List Goal) (n : ℕ) (l : Goal) → IsTrue (reaches_goals p o h gs) → slice_get gs n ≡ Some l → IsTrue (reaches p o (label_of_goal p h l))
    goal-reached o h [] n l r e = absurd (none-some l e)
    goal-reached o h (g ∷ gs) zero l r e =
        subst (λ x. IsTrue (reaches p o (label_of_goal p h x))) (same_Some g l e) (both (reaches p o (label_of_goal p h g)) (reaches_goals p o h gs) r).0
    goal-reached o h (g ∷ gs) (suc n) l r e = goal-reached o h gs n l (both (reaches p o (label_of_goal p h g)) (reaches_goals p o h gs) r).1 e

    pub goal_at-reached : (o : Option (ℕ × ℕ)) (h : ℕ) (gs : List Goal) (z : ℤ) (l : Goal) → IsTrue (reaches_goals p o h gs) → goal_at gs z ≡ Some l → IsTrue (reaches p o (label_of_goal p h l))
    goal_at-reached o h gs (pos zero) l r e = absurd (none-some l e)
    goal_at-reached o h gs (pos (suc n)) l r e = goal-reached o h gs n l r e
    goal_at-reached o h gs (negsuc n) l r e = absurd (none-some l e)

    jump_to_goal-safe : (x : Option Goal) (h owner s line : ℕ) (now : Work) (acts : List Activation) (w : Words) → Holds p s now acts w → ((l : Goal) → x ≡ Some l → IsTrue (reaches p (owner_of (kept owner acts)) (label_of_goal p h l))) → Safe p (jump_to_goal p x h owner s line now acts w)
    jump_to_goal-safe None h owner s line now acts w i r = (tt, i)
    jump_to_goal-safe (Some l) h owner s line now acts w i r = jump_to-safe (label_of_goal p h l) owner s now acts w i (r l refl)

    jump_by_list-safe : (x : Option (List Goal)) (xs : List Operand) (ks : List Hand) (h owner s line : ℕ) (now : Work) (acts : List Activation) (w : Words) → Holds p s now acts w → HaveKinds p acts xs ks → Pop (λ r. Unit {0}) ks → IsTrue (reaches_list p (owner_of (kept owner acts)) h x) → Safe p (jump_by_list p x xs h owner s line now acts w)
    jump_by_list-safe None xs ks h owner s line now acts w i k q r = no r
    jump_by_list-safe (Some gs) xs ks h owner s line now acts w i k q r =
        let t = popped p (λ r. Unit {0}) acts xs ks k q in
        subst (λ ys. Safe p (jump_by_list p (Some gs) ys h owner s line now acts w)) (sym t.is)
        (jump_to_goal-safe (goal_at gs t.word) h owner s line now acts w i (λ l e. goal_at-reached (owner_of (kept owner acts)) h gs t.word l r e))

    jump_by_switch-safe : (x : Option (ℕ × ℕ)) (owner s line : ℕ) (now : Work) (acts : List Activation) (w : Words) (i : Holds p s now acts w) → Pop (λ r. Unit {0}) i.3 → IsTrue (reaches_switch p (owner_of (kept owner acts)) x) → Safe p (jump_by_switch p x owner s line now acts w)
    jump_by_switch-safe None owner s line now acts w i q r = no r
    jump_by_switch-safe (Some n) owner s line now acts w i q r =
        jump_by_list-safe (switch_in (slice_get p.units n.0) n.1) w.operands i.3 n.0 owner s line now acts w i i.4 q r

    jump_by_control-safe : (c : Control) (s line : ℕ) (now : Work) (acts : List Activation) (w : Words) (i : Holds p s now acts w) → Pop (λ r. Unit {0}) i.3 → ControlFits p acts c SwitchKind → Safe p (jump_by_control p (Some c) s line now acts w)
    jump_by_control-safe (SwitchControl g n owner) s line now acts w i q f = jump_by_switch-safe (Some (g, n)) owner s line now acts w i q f.1
    jump_by_control-safe (LabelControl g l owner) s line now acts w i q f = absurd f
    jump_by_control-safe (ProcedureControl g n) s line now acts w i q f = absurd f

    -- the last activation owns what is named here
    pub named-here : (acts : List Activation) (x : Option (ℕ × ℕ)) → IsTrue (reaches p (owner_of acts) x) → IsTrue (reaches p (owner_of (kept (length acts) acts)) x)
    named-here acts x r = subst (λ xs. IsTrue (reaches p (owner_of xs) x)) (sym (kept-all acts)) r

    pub switched-here : (acts : List Activation) (x : Option (ℕ × ℕ)) → IsTrue (reaches_switch p (owner_of acts) x) → IsTrue (reaches_switch p (owner_of (kept (length acts) acts)) x)
    switched-here acts x r = subst (λ xs. IsTrue (reaches_switch p (owner_of xs) x)) (sym (kept-all acts)) r

    pub jump_step-safe : (d : Dest) (s line : ℕ) (now : Work) (acts : List Activation) (w : Words) (i : Holds p s now acts w) → CanJump p (segment_of s acts) (owner_of acts) (depth_at p s acts) d i.3 → Safe p (jump_step p d s line now acts w)
    jump_step-safe (dest.Goal g) s line now acts w i j =
        let x : Option (ℕ × ℕ) = label_of_goal p (segment_of s acts) g in jump_to-safe x (length acts) s now acts w i (named-here acts x j.1)
    jump_step-safe (dest.Special k) s line now acts w i j =
        let f = control-fits s acts i.2 k LabelKind (label-of (slice_get (controls_of p (owner_of acts)) k) j) in
        subst (λ x. Safe p (jump_to_control p x s now acts w)) (sym f.1) (jump_to_control-safe f.0 s now acts w i f.2)
    jump_step-safe (dest.Switch n e) s line now acts w i j =
        let x : Option (ℕ × ℕ) = Some (segment_of s acts, n) in jump_by_switch-safe x (length acts) s line now acts w i (alone-taken i.3 j.0) (switched-here acts x j.1)
    jump_step-safe (dest.CommonSwitch d e) s line now acts w i j =
        let x : Option (ℕ × ℕ) = switch_of_def (definition_of p (segment_of s acts) d) in
        jump_by_switch-safe x (length acts) s line now acts w i j.0 (switched-here acts x j.1)
    jump_step-safe (dest.SpecialSwitch k e) s line now acts w i j =
        let f = control-fits s acts i.2 k SwitchKind (switch-of (slice_get (controls_of p (owner_of acts)) k) j.1) in
        subst (λ x. Safe p (jump_by_control p x s line now acts w)) (sym f.1) (jump_by_control-safe f.0 s line now acts w i j.0 f.2)
