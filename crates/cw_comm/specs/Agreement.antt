-- What segments agree on: each name that they list in COMMON or LIBRARY is one thing, with one descriptor and at most one definition. And the first
-- way in which they do not: two segments of one name; two descriptors of a name that differ; two definitions of a name; a label, switch or
-- procedure without one.
use Rattle.std.specs.Prelude.{ℕ, ◌+◌, ◌||◌, Bool, true, false, if◌then◌else◌, List, [], ◌∷◌, ◌++◌, length, map, slice_get, Option, Some, None, unwrap_or}
use Rattle.std.specs.List.{list_any, position}
use Rattle.std.specs.Str.{bytes_eq}
use Rattle.cw_unit.specs.declared.descriptor.Desc.{Desc}
use Rattle.cw_unit.specs.declared.descriptor.DescBody.{DescBody}
use Rattle.cw_unit.specs.declared.descriptor.DescBody.TheVariants as bodies
use Rattle.cw_comm.specs.declared.face.Face.{Face}

abbrev pub Name : Type 0
Name = List ℕ

abbrev pub or_else : {A : Type 0} → Option A → Option A → Option A
or_else None y = y
or_else (Some x) y = Some x

-- ---- two segments of one name

abbrev pub first_twice : (seen : List Name) → List Face → Option Name
first_twice seen [] = None
first_twice seen (f ∷ fs) = if list_any (bytes_eq f.name) seen then Some f.name else first_twice (seen ++ f.name ∷ []) fs

-- ---- names, in order of their first listing

abbrev pub with_name : List Name → Name → List Name
with_name names name = if list_any (bytes_eq name) names then names else names ++ name ∷ []

abbrev pub names_with : List Name → List Desc → List Name
names_with names [] = names
names_with names (d ∷ ds) = names_with (with_name names d.name) ds

abbrev pub names_from : List Name → List Face → List Name
names_from names [] = names
names_from names (f ∷ fs) = names_from (names_with names f.descs) fs

abbrev pub listed_names : List Face → List Name
listed_names faces = names_from [] faces

-- the place of a name among these
abbrev pub place_of : List Name → Name → ℕ
place_of names name = unwrap_or (position (bytes_eq name) names) (length names)

abbrev pub places_in : List Name → List Desc → List ℕ
places_in names ds = map (λ d. place_of names d.name) ds

abbrev pub all_places : List Name → List Face → List (List ℕ)
all_places names faces = map (λ f. places_in names f.descs) faces

-- ---- descriptors of one name

-- the first descriptor of a name counts
abbrev pub listing_of : Name → List Desc → Option Desc
listing_of name [] = None
listing_of name (d ∷ ds) = if bytes_eq name d.name then Some d else listing_of name ds

-- an overlay's base by its name, and where it begins there
abbrev pub base_name : List Desc → ℕ → Name
base_name ds d = elim (slice_get ds d) [ None ↦ [] | Some base ↦ base.name ]

abbrev pub base_of : List Desc → Option (ℕ × ℕ) → Option (Name × ℕ)
base_of ds None = None
base_of ds (Some base) = Some (base_name ds base.0, base.1)

-- what two descriptors of a name have to have the same
pub record Listing : Type 0 where
  pub library : Bool
  pub base : Option (Name × ℕ)
  pub body : DescBody

abbrev pub as_listed : List Desc → Desc → Listing
as_listed ds d = record { library = d.library; base = base_of ds d.over; body = d.body }

-- ---- definitions

-- whether the body of a descriptor wants a definition
abbrev pub wants_definition : DescBody → Bool
wants_definition (bodies.Word s) = false
wants_definition (bodies.Array s dims) = false
wants_definition (bodies.Table width len elems) = false
wants_definition bodies.Label = true
wants_definition bodies.Switch = true
wants_definition (bodies.Proc s) = true

abbrev pub has_name : Name → Option Desc → Bool
has_name name None = false
has_name name (Some d) = bytes_eq name d.name

-- Whether one of these descriptors of a segment, which it defines, has the name. A number that is none of its descriptors defines nothing.
abbrev pub defines : Name → List Desc → List ℕ → Bool
defines name ds [] = false
defines name ds (d ∷ more) = has_name name (slice_get ds d) || defines name ds more

-- the first segment that defines a name, where these are the segments from number n on
abbrev pub definer_from : (n : ℕ) → Name → List Face → Option ℕ
definer_from n name [] = None
definer_from n name (f ∷ fs) = if defines name f.descs f.defined then Some n else definer_from (n + 1) name fs
