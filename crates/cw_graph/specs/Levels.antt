-- Levels: that of a node is one more than its height, and that of a group the greatest of its nodes. A number that has no level has none in the table.
use Rattle.std.specs.Prelude.{◌≡◌, ℕ, ◌+◌, ◌<◌, ◌≤◌, ◌⊎◌, nat_lt, if◌then◌else◌, List, length, slice_index, slice_index_or, Option, Some, None}
use Rattle.cw_graph.specs.declared.graph.Graph.{Graph}
use Rattle.cw_graph.specs.Rows.{row_of}

abbrev pub level_of : List (Option ℕ) → ℕ → Option ℕ
level_of levels a = slice_index_or levels a None

-- what a number adds to the levels of what it leads to
abbrev pub own_level : (nodes : ℕ) → ℕ → ℕ
own_level nodes a = if nat_lt a nodes then 1 else 0

-- a level stands among those of the first numbers of a row
abbrev pub StandsAs : List (Option ℕ) → List ℕ → (count : ℕ) → (level : ℕ) → Type 0
StandsAs levels row n m = (k : ℕ) × ((k < n) × (level_of levels (slice_index row k) ≡ Some m))

-- the greatest level of the first numbers of a row, each of which has one, or 0
pub record IsTopOfFirst (levels : List (Option ℕ)) (row : List ℕ) (n top : ℕ) : Type 0 where
  pub all : (k : ℕ) → k < n → (m : ℕ) × ((level_of levels (slice_index row k) ≡ Some m) × (m ≤ top))
  pub some : (top ≡ 0) ⊎ StandsAs levels row n top

abbrev pub IsTop : List (Option ℕ) → List ℕ → (top : ℕ) → Type 0
IsTop levels row top = IsTopOfFirst levels row (length row) top

-- the table that holds the level of each number, as far as it has one
pub record AreLevels (g : Graph) (levels : List (Option ℕ)) : Type 0 where
  pub count : length levels ≡ length g.rows
  pub right : (a m : ℕ) → level_of levels a ≡ Some m → (top : ℕ) × (IsTop levels (row_of g.rows a) top × (m ≡ own_level g.nodes a + top))
  pub lacking : (a : ℕ) → a < length g.rows → level_of levels a ≡ None
      → (k : ℕ) × ((k < length (row_of g.rows a)) × (level_of levels (slice_index (row_of g.rows a) k) ≡ None))
