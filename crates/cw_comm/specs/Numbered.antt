-- The names of segments by their numbers.
use Rattle.std.specs.Prelude.{◌≡◌, ◌<◌, ℕ, List, [], length, slice_index, slice_index_or}
use Rattle.cw_unit.specs.Allocation.{name_at}
use Rattle.cw_comm.specs.declared.face.Face.{Face}
use Rattle.cw_comm.specs.declared.face.Agreed.{Agreed}
use Rattle.cw_comm.specs.Agreement.{Name, listed_names, all_places}

-- the names that segments list, and for each descriptor the number of its name
pub record AreNumbered (faces : List Face) (names : List Name) (numbers : List (List ℕ)) : Type 0 where
  pub names_are : names ≡ listed_names faces
  pub numbers_are : numbers ≡ all_places names faces

-- no name has two numbers
abbrev pub IsOnce : List Name → Type 0
IsOnce names = (j k : ℕ) → j < length names → k < length names → name_at names j ≡ name_at names k → j ≡ k

-- the number of a segment's descriptor is that of this name
pub record IsNumberOf (agreed : Agreed) (segment descriptor : ℕ) (name : Name) : Type 0 where
  pub within : slice_index (slice_index_or agreed.of segment []) descriptor < length agreed.names
  pub there : name_at agreed.names (slice_index (slice_index_or agreed.of segment []) descriptor) ≡ name
