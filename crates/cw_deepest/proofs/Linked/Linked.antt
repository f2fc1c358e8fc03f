-- The calls of such units fit together, so that their depth report is a bound of every run.
use Rattle.std.proofs.Common.{◌≡◌, ◌≢◌, ℕ, ◌≤◌, List, [], ◌∷◌, map, length, All, IsTrue, Option, Some, None, slice_get, refl, sym, ap, ap₂, ◌∙◌}
use Rattle.std.proofs.lemmas.Option.{none-some}
use Rattle.std.proofs.lemmas.List.Elements.{All-nil}
use Rattle.cw_unit.specs.declared.unit.Unit.{Unit as SourceUnit}
use Rattle.cw_unit.specs.declared.unit.Proc.{Proc}
use Rattle.cw_unit.specs.declared.unit.Target.{Target}
use Rattle.cw_unit.specs.declared.unit.Target.TheVariants as target
use Rattle.cw_unit.specs.declared.descriptor.Spec.{Spec}
use Rattle.cw_unit.specs.declared.layout.Limits.{Limits}
use Rattle.cw_unit.specs.Program.{program_of}
use Rattle.cw_unit.specs.Stop.{Stopped, DepthReached}
use Rattle.cw_unit.specs.Behaviour.{observed}
use Rattle.cw_unit.specs.Configuration.{procedure_in}
use Rattle.cw_comm.specs.Clashes.{Agree}
use Rattle.cw_built.specs.Shared.{faces_of}
use Rattle.cw_built.specs.Built.{is_built}
use Rattle.cw_built.proofs.Agreeing.{all-at}
use Rattle.cw_built.proofs.Units.{well-formed}
use Rattle.cw_depth.specs.declared.node.Node.{Node}
use Rattle.cw_depth.specs.declared.node.Node.TheVariants.{Body, Procedure}
use Rattle.cw_depth.specs.CallGraph.{named_by, procedure_at, spec_in_procedure}
use Rattle.cw_depth.specs.Told.{TellsBound}
use Rattle.cw_deepest.specs.Programs.Calls.{Passed, LabelOrSwitch, OwnProcedure, CommonProcedure, Parameter, Call}
use Rattle.cw_deepest.specs.Programs.Fitting.{AreNumbered, Scope, spec_passed, Takes, Fits, spec_if, at_place, calls_of_unit, calls_of_procedure, calls_of, scope_of, CallsFit}
use Rattle.cw_deepest.proofs.Programs.Calling.{named}
use Rattle.cw_deepest.proofs.Programs.Stepping.{no-depth_stop}
use Rattle.cw_deepest.specs.Linked.UnitFits.{scope_in, calls_in, UnitFits}
use Rattle.cw_deepest.proofs.Linked.Said.{SaysSo, all-say}

-- ---- scopes that name the same

module _ (a b : Scope) (own : (q : ℕ) → a.own q ≡ b.own q) (common : (d : ℕ) → a.common d ≡ b.common d) (parameter : (k : ℕ) → a.parameter k ≡ b.parameter k) where
  passed-same : (x : Passed) → spec_passed a x ≡ spec_passed b x
  passed-same LabelOrSwitch = refl
  passed-same (OwnProcedure q) = own q
  passed-same (CommonProcedure d) = common d
  passed-same (Parameter k) = parameter k

  all-same : (xs : List Passed) → map (spec_passed a) xs ≡ map (spec_passed b) xs
  all-same [] = refl
  all-same (x ∷ xs) = ap₂ (λ y ys. y ∷ ys) (passed-same x) (all-same xs)

  takes-same : (t : Target) (taken : List (Option Spec)) → Takes a t taken → Takes b t taken
  takes-same (target.Own q) taken h = (h.0, (sym (own q) ∙ h.1.0, h.1.1))
  takes-same (target.Common d) taken h = (h.0, (sym (common d) ∙ h.1.0, h.1.1))
  takes-same (target.Special k f) taken h = (h.0, (sym (parameter k) ∙ h.1.0, h.1.1))
  takes-same target.Read taken h = h
  takes-same target.Write taken h = h

  fits-same : (c : Call) → Fits b c → Fits a c
  fits-same c h taken t = all-same c.passed ∙ h taken (takes-same c.target taken t)

  all-fit : (cs : List Call) → All (Fits b) cs → All (Fits a) cs
  all-fit cs h k d lt = fits-same _ (h k d lt)

module _ (us : List SourceUnit) (limits : Limits) (passed : All (λ u. IsTrue (is_built u)) us) (agreed : Agree (faces_of us)) (fit : All UnitFits us) (say : (g : ℕ) (u : SourceUnit) → slice_get us g ≡ Some u → (d : ℕ) → SaysSo us limits passed agreed fit u d) where
  named-said : (g d : ℕ) (u : SourceUnit) (who : Option ℕ) → slice_get us g ≡ Some u → spec_if (at_place us (named_by us (slice_get us g) d)) ≡ (scope_in u who).common d
  named-said g d u who here =
      ap (λ o. spec_if (at_place us (named_by us o d))) here ∙ ap (λ o. spec_if (at_place us o)) (named (program_of us limits) (Some u) d) ∙ say g u here d

  own-here : (g q : ℕ) (u : SourceUnit) → slice_get us g ≡ Some u → spec_if (procedure_at us g q) ≡ spec_if (slice_get u.procs q)
  own-here g q u here = ap (λ o. spec_if (procedure_in o q)) here

  body-fits : (g : ℕ) (o : Option SourceUnit) → slice_get us g ≡ o → All (Fits (scope_of us (Body g))) (calls_of_unit o)
  body-fits g None here = All-nil (Fits (scope_of us (Body g)))
  body-fits g (Some u) here =
      all-fit (scope_of us (Body g)) (scope_in u None) (λ q. own-here g q u here) (λ d. named-said g d u None here) (λ k. refl) (calls_in u None)
      ((all-at UnitFits us g u fit here).calls None)

  procedure-fits : (g q : ℕ) (o : Option SourceUnit) → slice_get us g ≡ o → All (Fits (scope_of us (Procedure g q))) (calls_of_procedure (procedure_in o q))
  procedure-fits g q None here = All-nil (Fits (scope_of us (Procedure g q)))
  procedure-fits g q (Some u) here =
      all-fit (scope_of us (Procedure g q)) (scope_in u (Some q)) (λ r. own-here g r u here) (λ d. named-said g d u (Some q) here)
      (λ k. ap (λ o. spec_in_procedure k (procedure_in o q)) here)
      (calls_in u (Some q))
      ((all-at UnitFits us g u fit here).calls (Some q))

  calls-fit : (a : Node) → All (Fits (scope_of us a)) (calls_of us a)
  calls-fit (Body g) = body-fits g (slice_get us g) refl
  calls-fit (Procedure g q) = procedure-fits g q (slice_get us g) refl

  numbered-in : (g q : ℕ) (x : Proc) (o : Option SourceUnit) → slice_get us g ≡ o → procedure_in o q ≡ Some x → AreNumbered 0 x.params
  numbered-in g q x None here e = absurd (none-some x e)
  numbered-in g q x (Some u) here e = (all-at UnitFits us g u fit here).numbered q x e

  all-calls_fit : CallsFit us
  all-calls_fit = record { calls = calls-fit; numbered = λ g q x e. numbered-in g q x (slice_get us g) refl e }

pub linked-no_stop : (us : List SourceUnit) (limits : Limits) (chain : List (ℕ × ℕ)) (input : List ℕ) (m segment line : ℕ) → us ≢ [] → All (λ u. IsTrue (is_built u)) us → Agree (faces_of us) → All UnitFits us → TellsBound us chain → length chain ≤ limits.depth → (observed (program_of us limits) input m).end ≢ Stopped DepthReached segment line
linked-no_stop us limits chain input m segment line some passed agreed fit tells low stop =
    all-say us limits passed agreed fit
    (λ say.
    no-depth_stop (program_of us limits) chain input m segment line (well-formed us (program_of us limits).addresses limits passed agreed some)
    (all-calls_fit us limits passed agreed fit say)
    tells
    low
    stop)
