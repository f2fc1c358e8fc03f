-- The invariant of a run: the calls at work are a chain of the call graph, and what the operands and the parameters hold is what the pending
-- work and the bodies at work take.
use Rattle.std.proofs.Common.{◌≡◌, ℕ, ◌<◌, List, [], ◌∷◌, map, length, Option, Some}
use Rattle.std.specs.List.{AllByRecursion}
use Rattle.cw_unit.specs.declared.unit.Unit.{Unit as SourceUnit}
use Rattle.cw_unit.specs.declared.unit.Proc.{Proc}
use Rattle.cw_unit.specs.declared.descriptor.Spec.{Spec}
use Rattle.cw_unit.specs.Stop.{Running, Ended, Stopped, Stuck}
use Rattle.cw_unit.specs.Words.{Control, LabelControl, SwitchControl, ProcedureControl, Words}
use Rattle.cw_unit.specs.Work.{Work, Nothing, Run, Eval, Address, FormAt, Do, Test, Choose, Jump, Give, Enter, Return, Leave, KeepAt, SetVar, Element, Turn, Bump, On, Loop}
use Rattle.cw_unit.specs.Configuration.{Configuration, at, Activation}
use Rattle.cw_depth.specs.declared.node.Node.{Node}
use Rattle.cw_depth.specs.declared.node.Node.TheVariants.{Body, Procedure}
use Rattle.cw_depth.specs.declared.mention.Mention.{Mention}
use Rattle.cw_depth.specs.Mentions as mentions
use Rattle.cw_depth.specs.CallGraph.{Mentioned, IsHanded, Leads, procedure_at, spec_of}
use Rattle.cw_deepest.specs.Programs.Calls as calls
use Rattle.cw_deepest.specs.Programs.Calls.{Call}
use Rattle.cw_deepest.specs.Programs.Fitting.{taken_in, spec_passed, Takes, Fits, scope_of}
use Rattle.cw_deepest.proofs.Programs.Holding.{controls, onto, IsOther}

-- the body at work
abbrev pub node_of : (segment : ℕ) → List Activation → Node
node_of s [] = Body s
node_of s (a ∷ acts) = Procedure a.segment a.procedure

module _ (us : List SourceUnit) where
  -- ---- what is held

  -- a procedure that is held stands as an argument, and has this specification
  abbrev pub Suits : Control → Option Spec → Type 0
  Suits (LabelControl g l owner) o = Unit {0}
  Suits (SwitchControl g n owner) o = Unit {0}
  Suits (ProcedureControl g q) o = IsHanded us g q × ((x : Proc) → procedure_at us g q ≡ Some x → o ≡ Some (spec_of x))

  abbrev pub Suit : List Control → List (Option Spec) → Type 0
  Suit [] [] = Unit {0}
  Suit [] (o ∷ os) = ⊥
  Suit (c ∷ cs) [] = ⊥
  Suit (c ∷ cs) (o ∷ os) = Suits c o × Suit cs os

  -- ---- work in the body of a node
  module _ (a : Node) where
    -- these stand in the body, and the calls fit
    abbrev pub Stand : List Mention → List Call → Type 0
    Stand ms cs = AllByRecursion (Mentioned us a) ms × AllByRecursion (Fits (scope_of us a)) cs

    abbrev pub IsLoop : Loop → Type 0
    IsLoop c =
        Stand (mentions.joined (map mentions.in_element c.elements)) (calls.joined (map calls.in_element c.elements)) × Stand (mentions.in_statement c.body) (calls.in_statement c.body)

    abbrev pub Typed : Work → List (Option Spec) → Type 0
    Typed Nothing os = Unit {0}
    Typed (Run s k) os = Stand (mentions.in_statement s) (calls.in_statement s) × Typed k os
    Typed (Eval e f line k) os = Stand (mentions.in_expression e) (calls.in_expression e) × Typed k os
    Typed (Address r line k) os = Stand (mentions.in_reference r) (calls.in_reference r) × Typed k os
    Typed (FormAt spot line k) os = Typed k os
    Typed (Do op line k) os = Typed k os
    Typed (Test c line pass fail) os = Stand (mentions.in_condition c) (calls.in_condition c) × Typed pass os × Typed fail os
    Typed (Choose op line pass fail) os = Typed pass os × Typed fail os
    Typed (Jump d line) os = Unit {0}
    Typed (Give x line k) os =
        Stand (mentions.in_argument x) (calls.of_argument x).calls × Typed k (onto (map (spec_passed (scope_of us a)) (calls.of_argument x).passed) os)
    Typed (Enter t line wanted k) os =
        (rest : List (Option Spec)) × ((taken : List (Option Spec)) → Takes (scope_of us a) t taken → os ≡ onto taken rest) × AllByRecursion (Mentioned us a) (mentions.called t) × Typed k rest
    Typed Return os = Unit {0}
    Typed Leave os = Unit {0}
    Typed (KeepAt n c k) os = Typed k os
    Typed (SetVar c k) os = Typed k os
    Typed (Element i c k) os = IsLoop c × Typed k os
    Typed (Turn i c k) os = IsLoop c × Typed k os
    Typed (Bump i c k) os = IsLoop c × Typed k os
    Typed (On c k) os = IsLoop c × Typed k os

  -- ---- configurations

  -- each call is a lead of the caller's body, has what it takes, and goes back to work that finds what was kept
  abbrev pub Chained : (segment : ℕ) → List Activation → Type 0
  Chained s [] = s < length us
  Chained s (a ∷ acts) =
      Leads us (node_of s acts) (Procedure a.segment a.procedure) × (proc : Proc) × (procedure_at us a.segment a.procedure ≡ Some proc) × Suit a.controls (taken_in proc.params) × (os : List (Option Spec)) × Suit (controls a.operands) os × Typed (node_of s acts) a.work os × Chained s acts

  abbrev pub Holds : (segment : ℕ) → Work → List Activation → Words → Type 0
  Holds s k acts w = Chained s acts × (os : List (Option Spec)) × Suit (controls w.operands) os × Typed (node_of s acts) k os

  abbrev pub Sound : Configuration → Type 0
  Sound (at s k acts w Running) = Holds s k acts w
  Sound (at s k acts w Ended) = Unit {0}
  Sound (at s k acts w (Stopped kind g line)) = IsOther kind
  Sound (at s k acts w Stuck) = Unit {0}
