-- What the objects of units show to one another is what the units show.
use Rattle.std.proofs.Common.{◌≡◌, ℕ, List, [], ◌∷◌, map, refl, ap, ap₂}
use Rattle.cw_unit.specs.declared.unit.Unit.{Unit as SourceUnit}
use Rattle.cw_unit.specs.declared.unit.Def.{Def}
use Rattle.cw_tmpl.specs.declared.assembling.Code.{Code}
use Rattle.cw_comm.specs.declared.face.Face.{Face}
use Rattle.cw_obj.specs.ReferenceObject.{definitions_of}
use Rattle.cw_link.specs.LinkedImage as linked
use Rattle.cw_built.specs.Shared.{face_of, faces_of}
use Rattle.cw_build.specs.Compiled.{code_of, contents_of_unit, contents_of_units}

defined-same : (c : Code) (ds : List (ℕ × Def)) → map (λ (d : ℕ × ℕ). d.0) (definitions_of c ds) ≡ map (λ (d : ℕ × Def). d.0) ds
defined-same c [] = refl
defined-same c (d ∷ ds) = ap (λ (ns : List ℕ). d.0 ∷ ns) (defined-same c ds)

abbrev with_defined : SourceUnit → List ℕ → Face
with_defined u ns = record { name = u.name; descs = u.descs; defined = ns }

face-same : (u : SourceUnit) → linked.face_of (contents_of_unit u) ≡ face_of u
face-same u = ap (with_defined u) (defined-same (code_of u) u.defined)

pub faces-same : (us : List SourceUnit) → linked.faces_of (contents_of_units us) ≡ faces_of us
faces-same [] = refl
faces-same (u ∷ us) = ap₂ (λ (f : Face) (fs : List Face). f ∷ fs) (face-same u) (faces-same us)
