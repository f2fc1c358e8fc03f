-- How a specification is spelled in numbers: no two are spelled alike, and none as the beginning of another.
use Rattle.std.specs.Prelude.{◌≡◌, ℕ, List, [], ◌∷◌, ◌++◌, map, Option, Some, None, nat_eq, IsTrue}
use Rattle.std.specs.Hash as fed
use Rattle.std.specs.Cmp.Lexicographic.{pointwise, bytes_decides}
use Rattle.std.proofs.Common.{ap}
use Rattle.cw_unit.specs.declared.unit.Proc.{Proc}
use Rattle.cw_unit.specs.declared.unit.Param.{Param}
use Rattle.cw_unit.specs.declared.unit.Param.TheVariants as param
use Rattle.cw_unit.specs.declared.descriptor.Scale.{Scale}
use Rattle.cw_unit.specs.declared.descriptor.Spec.{Spec, Spec-F, fold-Spec}
use Rattle.cw_unit.specs.declared.descriptor.SpecParam.{SpecParam, SpecParam-F, fold-SpecParam}
use Rattle.cw_unit.specs.declared.descriptor.SpecParam.TheOpen as layer
use Rattle.cw_unit.specs.declared.descriptor.SpecParam.TheVariants as takes

abbrev pub Spelled : Type 0
Spelled = List ℕ

abbrev pub spelled_scale : (number : ℕ) → Scale → Spelled
spelled_scale n s = n ∷ s.t ∷ s.f ∷ []

abbrev pub spelled_table : (width : ℕ) → Spelled
spelled_table n = 4 ∷ n ∷ []

abbrev pub spelled_answer : Option Scale → Spelled
spelled_answer None = 0 ∷ []
spelled_answer (Some s) = spelled_scale 1 s

-- one behind the other, and 0 at the end
abbrev pub ended : List Spelled → Spelled
ended [] = 0 ∷ []
ended (x ∷ xs) = x ++ ended xs

abbrev pub taken_step : SpecParam-F Spelled Spelled → Spelled
taken_step (layer.Value s) = spelled_scale 1 s
taken_step (layer.Location s) = spelled_scale 2 s
taken_step (layer.Array s) = spelled_scale 3 s
taken_step (layer.Table n) = spelled_table n
taken_step layer.Label = 5 ∷ []
taken_step layer.Switch = 6 ∷ []
taken_step (layer.Proc s) = 7 ∷ s

abbrev pub spec_step : Spec-F Spelled Spelled → Spelled
spec_step s = spelled_answer s.answer ++ ended s.params

abbrev pub spelled : Spec → Spelled
spelled = fold-Spec Spelled Spelled taken_step spec_step

abbrev pub spelled_taken : SpecParam → Spelled
spelled_taken = fold-SpecParam Spelled Spelled taken_step spec_step

-- what a parameter takes
abbrev pub taken_by : Param → SpecParam
taken_by (param.Value i s) = takes.Value s
taken_by (param.Location i s) = takes.Location s
taken_by (param.Array i s) = takes.Array s
taken_by (param.Table i n) = takes.Table n
taken_by (param.Label k) = takes.Label
taken_by (param.Switch k) = takes.Switch
taken_by (param.Proc k s) = takes.Proc s

-- the specification that a procedure has
abbrev pub spec_of : Proc → Spec
spec_of p = record { answer = p.answer; params = map taken_by p.params }

pub same_input : (a b : List ℕ) → IsTrue (pointwise nat_eq a b) → fed.slice fed.u16 a ≡ fed.slice fed.u16 b
same_input a b e = ap (fed.slice fed.u16) ((bytes_decides a b).0 e)
