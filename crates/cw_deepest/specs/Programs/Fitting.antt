-- The calls of a program whose labels, switches and procedures among the arguments are, in order, what the called procedure takes: a procedure
-- has exactly the specification of the parameter that takes it.
use Rattle.std.specs.Prelude.{◌≡◌, ℕ, ◌+◌, List, [], ◌∷◌, map, All, Option, Some, None, slice_get}
use Rattle.cw_unit.specs.declared.unit.Unit.{Unit as SourceUnit}
use Rattle.cw_unit.specs.declared.unit.Proc.{Proc}
use Rattle.cw_unit.specs.declared.unit.Param.{Param}
use Rattle.cw_unit.specs.declared.unit.Param.TheVariants as param
use Rattle.cw_unit.specs.declared.unit.Target.{Target}
use Rattle.cw_unit.specs.declared.unit.Target.TheVariants as target
use Rattle.cw_unit.specs.declared.descriptor.Spec.{Spec}
use Rattle.cw_depth.specs.declared.node.Node.{Node}
use Rattle.cw_depth.specs.declared.node.Node.TheVariants.{Body, Procedure}
use Rattle.cw_depth.specs.CallGraph.{segment_of, spec_of, procedure_at, named_by, parameter_of}
use Rattle.cw_depth.specs.Gathered as gathered
use Rattle.cw_deepest.specs.Programs.Calls.{Passed, LabelOrSwitch, OwnProcedure, CommonProcedure, Parameter, Call, Calls, argument_step, of_call}

-- the control parameters of a procedure in order, each with its specification if it takes a procedure
abbrev pub taken_in : List Param → List (Option Spec)
taken_in [] = []
taken_in (param.Label k ∷ params) = None ∷ taken_in params
taken_in (param.Switch k ∷ params) = None ∷ taken_in params
taken_in (param.Proc k s ∷ params) = Some s ∷ taken_in params
taken_in (_ ∷ params) = taken_in params

-- control parameters are numbered in order, from this number on
abbrev pub AreNumbered : (from : ℕ) → List Param → Type 0
AreNumbered n [] = Unit {0}
AreNumbered n (param.Label k ∷ params) = (k ≡ n) × AreNumbered (n + 1) params
AreNumbered n (param.Switch k ∷ params) = (k ≡ n) × AreNumbered (n + 1) params
AreNumbered n (param.Proc k s ∷ params) = (k ≡ n) × AreNumbered (n + 1) params
AreNumbered n (_ ∷ params) = AreNumbered n params

-- ---- the specifications of procedures, as a body names them: those of its unit, those of descriptors and its parameters

pub record Scope : Type 0 where
  pub own : (procedure : ℕ) → Option Spec
  pub common : (descriptor : ℕ) → Option Spec
  pub parameter : (control : ℕ) → Option Spec

module _ (scope : Scope) where
  -- the specification of what is passed, if it is a procedure
  abbrev pub spec_passed : Passed → Option Spec
  spec_passed LabelOrSwitch = None
  spec_passed (OwnProcedure q) = scope.own q
  spec_passed (CommonProcedure d) = scope.common d
  spec_passed (Parameter k) = scope.parameter k

  -- a call takes what a procedure of the specification of its target does
  abbrev pub TakenAs : Option Spec → List (Option Spec) → Type 0
  TakenAs s taken = (x : Proc) × ((s ≡ Some (spec_of x)) × (taken ≡ taken_in x.params))

  abbrev pub Takes : Target → List (Option Spec) → Type 0
  Takes (target.Own q) taken = TakenAs (scope.own q) taken
  Takes (target.Common d) taken = TakenAs (scope.common d) taken
  Takes (target.Special k f) taken = TakenAs (scope.parameter k) taken
  Takes target.Read taken = taken ≡ []
  Takes target.Write taken = taken ≡ []

  abbrev pub Fits : Call → Type 0
  Fits c = (taken : List (Option Spec)) → Takes c.target taken → map spec_passed c.passed ≡ taken

-- ---- a program

abbrev pub spec_if : Option Proc → Option Spec
spec_if None = None
spec_if (Some x) = Some (spec_of x)

abbrev pub calls_of_unit : Option SourceUnit → Calls
calls_of_unit = gathered.in_unit argument_step of_call

abbrev pub calls_of_procedure : Option Proc → Calls
calls_of_procedure = gathered.in_procedure argument_step of_call

module _ (units : List SourceUnit) where
  -- the calls in the body of a node
  abbrev pub calls_of : Node → Calls
  calls_of (Body g) = calls_of_unit (slice_get units g)
  calls_of (Procedure g q) = calls_of_procedure (procedure_at units g q)

  abbrev pub at_place : Option (ℕ × ℕ) → Option Proc
  at_place None = None
  at_place (Some place) = procedure_at units place.0 place.1

  -- what the body of a node names
  abbrev pub scope_of : Node → Scope
  scope_of a =
      record {
        own = λ q. spec_if (procedure_at units (segment_of a) q);
        common = λ d. spec_if (at_place (named_by units (slice_get units (segment_of a)) d));
        parameter = λ k. parameter_of units a k;
      }

-- all calls of a program fit, and its control parameters are numbered
pub record CallsFit (units : List SourceUnit) : Type 0 where
  pub calls : (a : Node) → All (Fits (scope_of units a)) (calls_of units a)
  pub numbered : (g q : ℕ) (x : Proc) → procedure_at units g q ≡ Some x → AreNumbered 0 x.params
