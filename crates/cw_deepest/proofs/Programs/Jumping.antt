-- A jump goes on in the body that its label belongs to, which is that of a call at work or of a segment.
use Rattle.std.proofs.Common.{◌≡◌, ℕ, zero, suc, ◌-◌, ℤ, List, [], ◌∷◌, length, drop, Option, Some, None, refl, sym, ap, ap₂, subst, ◌∙◌}
use Rattle.std.specs.Prelude.{slice_get}
use Rattle.std.proofs.lemmas.Option.{none-some, same_Some, slice_get_within}
use Rattle.cw_unit.specs.declared.unit.Unit.{Unit as SourceUnit}
use Rattle.cw_unit.specs.declared.unit.Proc.{Proc}
use Rattle.cw_unit.specs.declared.unit.Label.{Label}
use Rattle.cw_unit.specs.declared.unit.Goal.{Goal}
use Rattle.cw_unit.specs.declared.unit.Dest.{Dest}
use Rattle.cw_unit.specs.declared.unit.Dest.TheVariants as dest
use Rattle.cw_unit.specs.Program.{Program, definition_of}
use Rattle.cw_unit.specs.Words.{Control, LabelControl, SwitchControl, ProcedureControl, Operand, Word, Held, Words}
use Rattle.cw_unit.specs.Work.{Work, Nothing, Leave}
use Rattle.cw_unit.specs.LabelContinuation.{label_continuation}
use Rattle.cw_unit.specs.Configuration.{Activation, segment_of, control_at, procedure_in}
use Rattle.cw_unit.specs.Step.{label_of_goal, switch_of_def, work_from, kept, jump_in_procedure, jump_in_unit, jump_to_unit, jump_to, jump_to_control, goal_at, jump_to_goal, switch_in, jump_by_list, jump_by_switch, jump_by_control, jump_step}
use Rattle.cw_safety.specs.Depth.{owner_of}
use Rattle.cw_safety.specs.Coherent.{IsOwned, Names}
use Rattle.cw_depth.specs.declared.node.Node.TheVariants.{Body, Procedure}
use Rattle.cw_depth.specs.CallGraph.{procedure_at}
use Rattle.cw_deepest.specs.Programs.Fitting.{CallsFit}
use Rattle.cw_deepest.proofs.Programs.Typing.{node_of, Chained, Sound}
use Rattle.cw_deepest.proofs.Programs.Continuing.{Continued, continues}
use Rattle.cw_deepest.proofs.Programs.Chaining.{unit-stands, procedure-stands}

chained-drop : (us : List SourceUnit) (n s : ℕ) (acts : List Activation) → Chained us s acts → Chained us s (drop n acts)
chained-drop us zero s acts c = c
chained-drop us (suc n) s [] c = c
chained-drop us (suc n) s (a ∷ acts) c = chained-drop us n s acts c.7

node-owned : (s : ℕ) (acts : List Activation) (h q : ℕ) → owner_of acts ≡ Some (h, q) → node_of s acts ≡ Procedure h q
node-owned s [] h q e = absurd (none-some (h, q) e)
node-owned s (a ∷ acts) h q e =
    let same = same_Some (a.segment, a.procedure) (h, q) e in ap₂ Procedure (ap (λ x. x.0) same) (ap (λ x. x.1) same)

module _ (p : Program) (fit : CallsFit p.units) where
  work_from-sound : (s : ℕ) (o : Option Work) (acts : List Activation) (w : Words) → Chained p.units s acts → Continued p.units (node_of s acts) [] o → Sound p.units (work_from s o acts w)
  work_from-sound s None acts w c h = tt
  work_from-sound s (Some k) acts w c h = (c, [], tt, h)

  jump_in_procedure-sound : (o : Option Proc) (s h l q owner : ℕ) (now : Work) (acts : List Activation) (w : Words) → procedure_at p.units h q ≡ o → owner_of (kept owner acts) ≡ Some (h, q) → Chained p.units s acts → Sound p.units (jump_in_procedure o s l owner now acts w)
  jump_in_procedure-sound None s h l q owner now acts w e own c = tt
  jump_in_procedure-sound (Some x) s h l q owner now acts w e own c =
      work_from-sound s (label_continuation l x.body Leave) (kept owner acts) w (chained-drop p.units (length acts - owner) s acts c)
      (subst (λ a. Continued p.units a [] (label_continuation l x.body Leave)) (sym (node-owned s (kept owner acts) h q own))
      (continues p.units (Procedure h q) [] l x.body Leave (procedure-stands p.units fit h q x e) tt))

  jump_in_unit-sound : (u : SourceUnit) (m : Option Label) (s h l owner : ℕ) (now : Work) (acts : List Activation) (w : Words) → slice_get p.units h ≡ Some u → slice_get u.labels l ≡ m → IsOwned p acts h l owner → Chained p.units s acts → Sound p.units (jump_in_unit u m s h l owner now acts w)
  jump_in_unit-sound u None s h l owner now acts w e f own c = tt
  jump_in_unit-sound u (Some m) s h l owner now acts w e f own c =
      (elim m.proc as
      (λ o.
      m.proc ≡ o → Sound p.units (elim o [
        | None ↦ work_from h (label_continuation l u.body Nothing) [] w
        | Some q ↦ jump_in_procedure (slice_get u.procs q) s l owner now acts w
      ])) [
        | None ↦ λ is.
            work_from-sound h (label_continuation l u.body Nothing) [] w (slice_get_within p.units h u e)
            (continues p.units (Body h) [] l u.body Nothing (unit-stands p.units fit h u e) tt)
        | Some q ↦ λ is.
            jump_in_procedure-sound (slice_get u.procs q) s h l q owner now acts w (ap (λ x. procedure_in x q) e) (own u m q e f is) c
      ]) refl

  jump_to_unit-sound : (x : Option SourceUnit) (s h l owner : ℕ) (now : Work) (acts : List Activation) (w : Words) → slice_get p.units h ≡ x → IsOwned p acts h l owner → Chained p.units s acts → Sound p.units (jump_to_unit x s h l owner now acts w)
  jump_to_unit-sound None s h l owner now acts w e own c = tt
  jump_to_unit-sound (Some u) s h l owner now acts w e own c = jump_in_unit-sound u (slice_get u.labels l) s h l owner now acts w e refl own c

  jump_to-sound : (x : Option (ℕ × ℕ)) (owner s : ℕ) (now : Work) (acts : List Activation) (w : Words) → ((h l : ℕ) → x ≡ Some (h, l) → IsOwned p acts h l owner) → Chained p.units s acts → Sound p.units (jump_to p x owner s now acts w)
  jump_to-sound None owner s now acts w own c = tt
  jump_to-sound (Some (h, l)) owner s now acts w own c = jump_to_unit-sound (slice_get p.units h) s h l owner now acts w refl (own h l refl) c

  jump_to_control-sound : (x : Option Control) (s : ℕ) (now : Work) (acts : List Activation) (w : Words) → ((h l owner : ℕ) → x ≡ Some (LabelControl h l owner) → IsOwned p acts h l owner) → Chained p.units s acts → Sound p.units (jump_to_control p x s now acts w)
  jump_to_control-sound None s now acts w own c = tt
  jump_to_control-sound (Some (LabelControl h l owner)) s now acts w own c =
      jump_to-sound (Some (h, l)) owner s now acts w
      (λ g m e. own g m owner (ap (λ x. Some (LabelControl x.0 x.1 owner)) (same_Some (h, l) (g, m) e)))
      c
  jump_to_control-sound (Some (SwitchControl h l owner)) s now acts w own c = tt
  jump_to_control-sound (Some (ProcedureControl h q)) s now acts w own c = tt

  jump_to_goal-sound : (x : Option Goal) (h0 owner s line : ℕ) (now : Work) (acts : List Activation) (w : Words) → ((y : Goal) → x ≡ Some y → (h l : ℕ) → label_of_goal p h0 y ≡ Some (h, l) → IsOwned p acts h l owner) → Chained p.units s acts → Sound p.units (jump_to_goal p x h0 owner s line now acts w)
  jump_to_goal-sound None h0 owner s line now acts w own c = tt
  jump_to_goal-sound (Some y) h0 owner s line now acts w own c = jump_to-sound (label_of_goal p h0 y) owner s now acts w (own y refl) c

  -- the labels of a switch of a segment have their owners
  abbrev OwnsList : List Activation → Option (List Goal) → (segment owner : ℕ) → Type 0
  OwnsList acts x h0 owner =
      (gs : List Goal) → x ≡ Some gs → (z : ℤ) (y : Goal) → goal_at gs z ≡ Some y → (h l : ℕ) → label_of_goal p h0 y ≡ Some (h, l) → IsOwned p acts h l owner

  abbrev OwnsSwitch : List Activation → Option (ℕ × ℕ) → (owner : ℕ) → Type 0
  OwnsSwitch acts x owner = (h0 n0 : ℕ) → x ≡ Some (h0, n0) → OwnsList acts (switch_in (slice_get p.units h0) n0) h0 owner

  jump_by_list-sound : (x : Option (List Goal)) (xs : List Operand) (h0 owner s line : ℕ) (now : Work) (acts : List Activation) (w : Words) → OwnsList acts x h0 owner → Chained p.units s acts → Sound p.units (jump_by_list p x xs h0 owner s line now acts w)
  jump_by_list-sound None xs h0 owner s line now acts w own c = tt
  jump_by_list-sound (Some gs) [] h0 owner s line now acts w own c = tt
  jump_by_list-sound (Some gs) (Word z ∷ xs) h0 owner s line now acts w own c =
      jump_to_goal-sound (goal_at gs z) h0 owner s line now acts w (own gs refl z) c
  jump_by_list-sound (Some gs) (Held x ∷ xs) h0 owner s line now acts w own c = tt

  jump_by_switch-sound : (x : Option (ℕ × ℕ)) (owner s line : ℕ) (now : Work) (acts : List Activation) (w : Words) → OwnsSwitch acts x owner → Chained p.units s acts → Sound p.units (jump_by_switch p x owner s line now acts w)
  jump_by_switch-sound None owner s line now acts w own c = tt
  jump_by_switch-sound (Some (h0, n0)) owner s line now acts w own c =
      jump_by_list-sound (switch_in (slice_get p.units h0) n0) w.operands h0 owner s line now acts w (own h0 n0 refl) c

  jump_by_control-sound : (x : Option Control) (s line : ℕ) (now : Work) (acts : List Activation) (w : Words) → ((h0 n0 owner : ℕ) → x ≡ Some (SwitchControl h0 n0 owner) → OwnsList acts (switch_in (slice_get p.units h0) n0) h0 owner) → Chained p.units s acts → Sound p.units (jump_by_control p x s line now acts w)
  jump_by_control-sound None s line now acts w own c = tt
  jump_by_control-sound (Some (LabelControl h l owner)) s line now acts w own c = tt
  jump_by_control-sound (Some (SwitchControl h0 n0 owner)) s line now acts w own c =
      jump_by_switch-sound (Some (h0, n0)) owner s line now acts w
      (λ g m e. own g m owner (ap (λ x. Some (SwitchControl x.0 x.1 owner)) (same_Some (h0, n0) (g, m) e)))
      c
  jump_by_control-sound (Some (ProcedureControl h q)) s line now acts w own c = tt

  pub jump_step-sound : (d : Dest) (s line : ℕ) (now : Work) (acts : List Activation) (w : Words) → ((h l owner : ℕ) → Names p s acts d h l owner → IsOwned p acts h l owner) → Chained p.units s acts → Sound p.units (jump_step p d s line now acts w)
  jump_step-sound (dest.Goal g) s line now acts w own c =
      jump_to-sound (label_of_goal p (segment_of s acts) g) (length acts) s now acts w (λ h l e. own h l (length acts) (e, refl)) c
  jump_step-sound (dest.Special k) s line now acts w own c = jump_to_control-sound (control_at acts k) s now acts w own c
  jump_step-sound (dest.Switch n e) s line now acts w own c =
      jump_by_switch-sound (Some (segment_of s acts, n)) (length acts) s line now acts w
      (λ h0 n0 is gs gs-is z y y-is h l l-is.
      let same = same_Some (segment_of s acts, n) (h0, n0) is in
      let gs-is' : switch_in (slice_get p.units (segment_of s acts)) n ≡ Some gs = ap (λ x. switch_in (slice_get p.units x.0) x.1) same ∙ gs-is in
      let l-is' : label_of_goal p (segment_of s acts) y ≡ Some (h, l) = ap (λ x. label_of_goal p x.0 y) same ∙ l-is in
      own h l (length acts) (gs, y, z, gs-is', y-is, l-is', refl))
      c
  jump_step-sound (dest.CommonSwitch d e) s line now acts w own c =
      jump_by_switch-sound (switch_of_def (definition_of p (segment_of s acts) d)) (length acts) s line now acts w
      (λ h0 n0 is gs gs-is z y y-is h l l-is. own h l (length acts) (h0, n0, gs, y, z, is, gs-is, y-is, l-is, refl))
      c
  jump_step-sound (dest.SpecialSwitch k e) s line now acts w own c =
      jump_by_control-sound (control_at acts k) s line now acts w
      (λ h0 n0 owner is gs gs-is z y y-is h l l-is. own h l owner (h0, n0, gs, y, z, is, gs-is, y-is, l-is))
      c
