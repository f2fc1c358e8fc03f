-- What units show to one another.
use Rattle.std.specs.Prelude.{ℕ, ◌<◌, List, map, length}
use Rattle.cw_unit.specs.declared.unit.Def.{Def}
use Rattle.cw_unit.specs.declared.unit.Def.TheVariants as def
use Rattle.cw_unit.specs.declared.unit.Unit.{Unit as SourceUnit}
use Rattle.cw_comm.specs.declared.face.Face.{Face}

abbrev pub face_of : SourceUnit → Face
face_of u = record { name = u.name; descs = u.descs; defined = map (λ d. d.0) u.defined }

abbrev pub faces_of : List SourceUnit → List Face
faces_of us = map face_of us

-- what defines a descriptor is there: a label, a switch or a procedure of the unit
abbrev pub IsThere : SourceUnit → Def → Type 0
IsThere u (def.Label l) = l < length u.labels
IsThere u (def.Switch n) = n < length u.switches
IsThere u (def.Proc q) = q < length u.procs

abbrev pub Defines : SourceUnit → (descriptor : ℕ) → Def → Type 0
Defines u d x = (d < length u.descs) × IsThere u x
