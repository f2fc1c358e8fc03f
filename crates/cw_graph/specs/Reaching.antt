-- What is reached from the bodies of a graph of numbers, and how it is found: by numbers in order, each of which is looked at once.
use Rattle.std.specs.Prelude.{◌≡◌, ℕ, ◌<◌, ◌≤◌, List, length, slice_index, slice_index_or, Bool, true, false}
use Rattle.std.specs.List.{count_by}
use Rattle.cw_graph.specs.declared.graph.Graph.{Graph}
use Rattle.cw_graph.specs.Chains.{IsReached}
use Rattle.cw_graph.specs.Rows.{StandsIn, row_of, IsBodyOf}

abbrev pub flag_of : List Bool → ℕ → Bool
flag_of flags a = slice_index_or flags a false

-- a number stands in the row of another
abbrev pub Lists : Graph → ℕ → ℕ → Type 0
Lists g a b = StandsIn (row_of g.rows a) b

abbrev pub IsListed : Graph → ℕ → Type 0
IsListed g a = IsReached (Lists g) (IsBodyOf g) a

-- the flags of the numbers that are reached, and no others
pub record AreReached (g : Graph) (flags : List Bool) : Type 0 where
  pub bodies : (a : ℕ) → a < g.bodies → flag_of flags a ≡ true
  pub rows : (a b : ℕ) → flag_of flags a ≡ true → StandsIn (row_of g.rows a) b → flag_of flags b ≡ true
  pub right : (a : ℕ) → flag_of flags a ≡ true → IsListed g a

-- the numbers that are known to be reached, in order, with their flags
pub record AreVisited (g : Graph) (flags : List Bool) (order : List ℕ) : Type 0 where
  pub size : length flags ≡ length g.rows
  pub within : (k : ℕ) → k < length order → slice_index order k < length g.rows
  pub count : length order ≡ count_by (λ b. b) flags
  pub right : (a : ℕ) → flag_of flags a ≡ true → IsListed g a
  pub listed : (a : ℕ) → flag_of flags a ≡ true → StandsIn order a
  pub marked : (k : ℕ) → k < length order → flag_of flags (slice_index order k) ≡ true

-- more flags are set, and the order is longer
pub record Grows (flags : List Bool) (order : List ℕ) (flags' : List Bool) (order' : List ℕ) : Type 0 where
  pub kept : (a : ℕ) → flag_of flags a ≡ true → flag_of flags' a ≡ true
  pub longer : length order ≤ length order'
  pub same : (k : ℕ) → k < length order → slice_index order' k ≡ slice_index order k

-- the rows of the numbers before a place in the order are looked at
abbrev pub AreSpread : Graph → List Bool → List ℕ → (told : ℕ) → Type 0
AreSpread g flags order told = (m b : ℕ) → m < told → StandsIn (row_of g.rows (slice_index order m)) b → flag_of flags b ≡ true
