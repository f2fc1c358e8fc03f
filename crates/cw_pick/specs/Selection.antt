-- The members of libraries that objects need: the least set with the rule that a member is in it which defines a label, switch or procedure that a
-- given object, or a member in it, lists and that no given object defines. A name is taken for what its lister lists.
use Rattle.std.specs.Prelude.{◌≡◌, ◌⊎◌, ℕ, true, List, drop, map, slice_get, Some, Contains}
use Rattle.std.specs.List.Sorted.{IsStrictlyIncreasing}
use Rattle.cw_unit.specs.declared.descriptor.Desc.{Desc}
use Rattle.cw_view.specs.Reading.{descriptor_in, definition_in}
use Rattle.cw_view.specs.Splitting.{Bytes, payloads_in}
pub use Rattle.cw_view.specs.Values.{kept, values_in}
use Rattle.cw_comm.specs.Agreement.{Name, wants_definition, defines}

-- the descriptors of an object's COMMON and LIBRARY lists, and which of them it defines
abbrev pub descriptors_of : Bytes → List Desc
descriptors_of object = values_in descriptor_in (payloads_in 2 (drop 6 object))

abbrev pub definitions_of : Bytes → List ℕ
definitions_of object = map (λ d. d.0) (values_in definition_in (payloads_in 8 (drop 6 object)))

-- an object lists a label, switch or procedure of this name
pub record Lists (object : Bytes) (name : Name) : Type 0 where
  pub desc : Desc
  pub there : Contains (descriptors_of object) desc
  pub wants : wants_definition desc.body ≡ true
  pub named : desc.name ≡ name

abbrev pub Defines : Bytes → Name → Type 0
Defines object name = defines name (descriptors_of object) (definitions_of object) ≡ true

-- it is one of the given objects, or of the members that these numbers pick
abbrev pub IsLinked : (given members : List Bytes) → (picked : List ℕ) → Bytes → Type 0
IsLinked given members picked object = Contains given object ⊎ ((k : ℕ) × Contains picked k × (slice_get members k ≡ Some object))

-- one of them lists the name, and no given object defines it
pub record IsWanted (given members : List Bytes) (picked : List ℕ) (name : Name) : Type 0 where
  pub lister : Bytes
  pub linked : IsLinked given members picked lister
  pub lists : Lists lister name
  pub undefined : (object : Bytes) → Contains given object → Defines object name → ⊥

-- the member of this number defines a name that is wanted
pub record IsNeeded (given members : List Bytes) (picked : List ℕ) (k : ℕ) : Type 0 where
  pub member : Bytes
  pub there : slice_get members k ≡ Some member
  pub name : Name
  pub defined : Defines member name
  pub wanted : IsWanted given members picked name

abbrev pub IsClosed : (given members : List Bytes) → (picked : List ℕ) → Type 0
IsClosed given members picked = (k : ℕ) → IsNeeded given members picked k → Contains picked k

-- the numbers of the least closed set, by rising number
pub record IsSelection (given members : List Bytes) (picked : List ℕ) : Type 0 where
  pub closed : IsClosed given members picked
  pub least : (others : List ℕ) → IsClosed given members others → (k : ℕ) → Contains picked k → Contains others k
  pub rising : IsStrictlyIncreasing picked

-- there is such a list, and no other
abbrev pub HasOneSelection : Type 0
HasOneSelection = (given members : List Bytes)
    → (picked : List ℕ) × IsSelection given members picked
    × ((others : List ℕ) → IsSelection given members others → others ≡ picked)
