-- The storage of segments that agree: their families, with the names that their descriptors have in the agreement.
use Rattle.std.specs.Prelude.{◌≡◌, ℕ, ◌+◌, ◌<◌, List, [], ◌∷◌, ◌++◌, map, length, Some, slice_get, slice_index_or, ⊤}
use Rattle.std.specs.List.{All}
use Rattle.cw_unit.specs.declared.layout.Sort.{Sort}
use Rattle.cw_unit.specs.declared.layout.Sort.TheVariants as sort
use Rattle.cw_unit.specs.declared.layout.Family.{Family}
use Rattle.cw_unit.specs.Allocation.{Name, name_at, SegmentStorage, Range, absolute_ranges_in}
use Rattle.cw_comm.specs.declared.face.Agreed.{Agreed}
use Rattle.cw_comm.specs.declared.face.Face.{Face}
use Rattle.cw_place.specs.declared.space.Space.{Space}

-- the numbers of the names of a segment's descriptors
abbrev pub numbers_of : Agreed → (segment : ℕ) → List ℕ
numbers_of agreed g = slice_index_or agreed.of g []

abbrev pub names_of : Agreed → (segment : ℕ) → List Name
names_of agreed g = map (name_at agreed.names) (numbers_of agreed g)

abbrev pub storage_from : (segment : ℕ) → Agreed → List Space → List SegmentStorage
storage_from g agreed [] = []
storage_from g agreed (s ∷ ss) = record { names = names_of agreed g; families = s.families } ∷ storage_from (g + 1) agreed ss

abbrev pub segment_storage : Agreed → List Space → List SegmentStorage
segment_storage agreed ss = storage_from 0 agreed ss

-- a common family is one of so many descriptors
abbrev pub IsOfDescriptor : (count : ℕ) → Sort → Type 0
IsOfDescriptor count (sort.Common d) = d < count
IsOfDescriptor count _ = ⊤

-- What agreement gives for these segments: no name has two numbers, and each number is that of a name. The families are those of the
-- segments' own descriptors.
pub record AreOf (agreed : Agreed) (spaces : List Space) : Type 0 where
  pub once : (j k : ℕ) → j < length agreed.names → k < length agreed.names → name_at agreed.names j ≡ name_at agreed.names k → j ≡ k
  pub segments : length agreed.of ≡ length spaces
  pub numbers : (g : ℕ) → All (λ k. k < length agreed.names) (numbers_of agreed g)
  pub own : (g : ℕ) (s : Space) → slice_get spaces g ≡ Some s → All (λ (f : Family). IsOfDescriptor (length (numbers_of agreed g)) f.sort) s.families

-- the words of all absolute families
abbrev pub absolute_words : List Space → List Range
absolute_words [] = []
absolute_words (s ∷ ss) = absolute_ranges_in s.families ++ absolute_words ss

-- the common families of each segment are those of its own descriptors
abbrev pub HaveOwnFamilies : List Face → List Space → Type 0
HaveOwnFamilies faces spaces = (g : ℕ) (f : Face) (s : Space) → slice_get faces g ≡ Some f
    → slice_get spaces g ≡ Some s → All (λ (x : Family). IsOfDescriptor (length f.descs) x.sort) s.families
