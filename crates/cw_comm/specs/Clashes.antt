-- The first clash of segments, and what they agree on where there is none. A clash of a kind is told by the later segment, the descriptor there,
-- and the earlier segment; the least of them is the first. Segments and descriptors count from 0 here, and from 1 in what is answered.
use Rattle.std.specs.Prelude.{◌≡◌, ◌≢◌, ◌⊎◌, ◌<◌, ◌≤◌, ◌+◌, ℕ, true, List, [], map, slice_get, Some, None, Result, Ok, Err}
use Rattle.cw_unit.specs.declared.descriptor.Desc.{Desc}
use Rattle.cw_comm.specs.declared.face.Face.{Face}
use Rattle.cw_comm.specs.declared.face.Agreed.{Agreed}
use Rattle.cw_comm.specs.declared.clash.Clash.{Clash}
use Rattle.cw_comm.specs.declared.clash.Clash.TheVariants.{SegmentTwice, Differs, DefinedTwice, Undefined, NoMemory}
use Rattle.cw_comm.specs.Agreement.{Name, first_twice, listing_of, Listing, as_listed, wants_definition, defines, definer_from, listed_names, all_places}

-- a descriptor of a segment has this name
pub record Names (faces : List Face) (segment descriptor : ℕ) (name : Name) : Type 0 where
  pub face : Face
  pub desc : Desc
  pub segment_is : slice_get faces segment ≡ Some face
  pub descriptor_is : slice_get face.descs descriptor ≡ Some desc
  pub name_is : desc.name ≡ name

-- a segment lists this name so: its first descriptor of the name counts
pub record Lists (faces : List Face) (segment : ℕ) (name : Name) (told : Listing) : Type 0 where
  pub face : Face
  pub desc : Desc
  pub segment_is : slice_get faces segment ≡ Some face
  pub descriptor_is : listing_of name face.descs ≡ Some desc
  pub told_is : as_listed face.descs desc ≡ told

pub record Defines (faces : List Face) (segment : ℕ) (name : Name) : Type 0 where
  pub face : Face
  pub segment_is : slice_get faces segment ≡ Some face
  pub defined : defines name face.descs face.defined ≡ true

-- ---- the kinds of clashes

abbrev pub Kind : Type 1
Kind = (later descriptor earlier : ℕ) → Name → Type 0

pub record IsDifference (faces : List Face) (later descriptor earlier : ℕ) (name : Name) : Type 0 where
  pub names : Names faces later descriptor name
  pub before : earlier < later
  pub here : Listing
  pub there : Listing
  pub lists_here : Lists faces later name here
  pub lists_there : Lists faces earlier name there
  pub differ : here ≢ there

pub record IsSecondDefinition (faces : List Face) (later descriptor earlier : ℕ) (name : Name) : Type 0 where
  pub names : Names faces later descriptor name
  pub before : earlier < later
  pub defines_here : Defines faces later name
  pub defines_there : Defines faces earlier name

-- there is no earlier segment here, so its number is 0
pub record IsUndefined (faces : List Face) (later descriptor earlier : ℕ) (name : Name) : Type 0 where
  pub names : Names faces later descriptor name
  pub told : Listing
  pub lists : Lists faces later name told
  pub wants : wants_definition told.body ≡ true
  pub none : (segment : ℕ) → Defines faces segment name → ⊥
  pub alone : earlier ≡ 0

-- ---- the first

-- whether three numbers are not behind three others
abbrev pub NotBehind : (later descriptor earlier : ℕ) → (later' descriptor' earlier' : ℕ) → Type 0
NotBehind j d i j' d' i' = (j < j') ⊎ ((j ≡ j') × ((d < d') ⊎ ((d ≡ d') × (i ≤ i'))))

pub record IsFirst (P : Kind) (later descriptor earlier : ℕ) (name : Name) : Type 0 where
  pub holds : P later descriptor earlier name
  pub least : (j d i : ℕ) (n : Name) → P j d i n → NotBehind later descriptor earlier j d i

abbrev pub HasNone : Kind → Type 0
HasNone P = (j d i : ℕ) (name : Name) → P j d i name → ⊥

-- no clash of a kind stands before this descriptor of this segment
abbrev pub NoneBefore : Kind → (segment descriptor : ℕ) → Type 0
NoneBefore P j d = (j' d' i : ℕ) (n : Name) → P j' d' i n → (j < j') ⊎ ((j ≡ j') × (d ≤ d'))

-- the first segment that lists a name
pub record IsFirstLister (faces : List Face) (name : Name) (segment : ℕ) (told : Listing) : Type 0 where
  pub lists : Lists faces segment name told
  pub least : (i : ℕ) (x : Listing) → Lists faces i name x → segment ≤ i

pub data IsFirstClash (faces : List Face) : Clash → Type 0 where
  twice : {name : Name} → first_twice [] faces ≡ Some name → IsFirstClash faces (SegmentTwice name)
  differs : {j d i : ℕ} {name : Name} → first_twice [] faces ≡ None → IsFirst (IsDifference faces) j d i name
      → IsFirstClash faces (Differs name (i + 1) (j + 1))
  defined_twice : {j d i : ℕ} {name : Name} → first_twice [] faces ≡ None → HasNone (IsDifference faces)
      → IsFirst (IsSecondDefinition faces) j d i name → IsFirstClash faces (DefinedTwice name (i + 1) (j + 1))
  undefined : {j d i : ℕ} {name : Name} → first_twice [] faces ≡ None → HasNone (IsDifference faces)
      → HasNone (IsSecondDefinition faces) → IsFirst (IsUndefined faces) j d i name
      → IsFirstClash faces (Undefined name)

pub record Agree (faces : List Face) : Type 0 where
  pub once : first_twice [] faces ≡ None
  pub same : HasNone (IsDifference faces)
  pub one_definition : HasNone (IsSecondDefinition faces)
  pub all_defined : HasNone (IsUndefined faces)

abbrev pub agreed_of : List Face → Agreed
agreed_of faces =
    let names = listed_names faces in
    record { names = names; of = all_places names faces; defined = map (λ name. definer_from 1 name faces) names }

-- what is answered
abbrev pub FailsToAgree : List Face → Clash → Type 0
FailsToAgree faces NoMemory = Unit {0}
FailsToAgree faces clash = IsFirstClash faces clash

abbrev pub AnswersAgree : List Face → Result Agreed Clash → Type 0
AnswersAgree faces (Ok agreed) = Agree faces × (agreed ≡ agreed_of faces)
AnswersAgree faces (Err clash) = FailsToAgree faces clash
