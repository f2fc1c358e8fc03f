-- A unit whose calls fit by what its descriptors say of the procedures of other segments. It is judged alone.
use Rattle.std.specs.Prelude.{◌≡◌, ℕ, All, Option, Some, None, slice_get}
use Rattle.cw_unit.specs.declared.unit.Unit.{Unit as SourceUnit}
use Rattle.cw_unit.specs.declared.unit.Proc.{Proc}
use Rattle.cw_unit.specs.declared.unit.Def.TheVariants as def
use Rattle.cw_unit.specs.declared.descriptor.DescBody.{DescBody}
use Rattle.cw_unit.specs.declared.descriptor.DescBody.TheVariants as bodies
use Rattle.cw_unit.specs.declared.descriptor.Spec.{Spec}
use Rattle.cw_unit.specs.Program.{name_of, definition_in}
use Rattle.cw_depth.specs.CallGraph.{spec_of, spec_in_procedure}
use Rattle.cw_built.specs.Listed.{body_at}
use Rattle.cw_deepest.specs.Programs.Calls.{Calls, in_statement}
use Rattle.cw_deepest.specs.Programs.Fitting.{AreNumbered, Scope, Fits, spec_if, calls_of_procedure}

-- the specification that a descriptor says
abbrev pub spec_said : Option DescBody → Option Spec
spec_said (Some (bodies.Proc s)) = Some s
spec_said _ = None

-- ---- the body of a procedure of a unit, or of its segment

abbrev pub parameter_in : SourceUnit → (who : Option ℕ) → (control : ℕ) → Option Spec
parameter_in u None k = None
parameter_in u (Some q) k = spec_in_procedure k (slice_get u.procs q)

abbrev pub scope_in : SourceUnit → (who : Option ℕ) → Scope
scope_in u who =
    record { own = λ q. spec_if (slice_get u.procs q); common = λ d. spec_said (body_at u d); parameter = λ k. parameter_in u who k }

abbrev pub calls_in : SourceUnit → (who : Option ℕ) → Calls
calls_in u None = in_statement u.body
calls_in u (Some q) = calls_of_procedure (slice_get u.procs q)

-- the calls of all bodies fit, control parameters are numbered, and the procedure that defines a name has the specification that the name's
-- descriptor says
pub record UnitFits (u : SourceUnit) : Type 0 where
  pub calls : (who : Option ℕ) → All (Fits (scope_in u who)) (calls_in u who)
  pub numbered : (q : ℕ) (x : Proc) → slice_get u.procs q ≡ Some x → AreNumbered 0 x.params
  pub defined : (d q : ℕ) (s : Spec) (x : Proc) → body_at u d ≡ Some (bodies.Proc s)
      → definition_in u (name_of u d) u.defined ≡ Some (def.Proc q) → slice_get u.procs q ≡ Some x → spec_of x ≡ s
