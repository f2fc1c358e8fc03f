-- A call of `compile` keeps its promise.
use Rattle.std.proofs.Common.{◌≡◌, ℕ, List, [], ◌∷◌, map, ap}
use Rattle.std.specs.Prelude.{slice_index_or}
use Rattle.cw_unit.specs.declared.unit.Unit.{Unit as SourceUnit}
use Rattle.cw_build.specs.Compiled.{object_of}
use Rattle.cw_correct.specs.Results.{first_object}
use Rattle.cw_actions.specs.Resulting.Texts.{OneOfText}
use Rattle.cw_actions.proofs.Resulting.Filing as filing
use Rattle.cw_actions.proofs.Resulting.Rights.{compiles}

-- the first of the objects
pub first_of : (us : List SourceUnit) (objects : List (List ℕ)) → objects ≡ map object_of us → slice_index_or objects 0 [] ≡ first_object us
first_of [] objects e = ap (λ x. slice_index_or x 0 []) e
first_of (u ∷ us) objects e = ap (λ x. slice_index_or x 0 []) e

pub stopped : (given : OneOfText) → filing.KeepsStopped (compiles given)
stopped given = filing.stopped (compiles given)

pub written : (given : OneOfText) → filing.KeepsWritten (compiles given)
written given = filing.written (compiles given)
