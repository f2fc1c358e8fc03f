-- How levels are found: the numbers that have one, in order; how far each row is passed; and by each number which others wait for its level.
use Rattle.std.specs.Prelude.{◌≡◌, ℕ, ◌+◌, ◌<◌, ◌≤◌, ◌⊎◌, List, length, slice_index, Option, Some, None, is_some}
use Rattle.std.specs.List.{count_by}
use Rattle.cw_graph.specs.declared.graph.Graph.{Graph}
use Rattle.cw_graph.specs.Rows.{StandsIn, row_of}
use Rattle.cw_graph.specs.Levels.{level_of, own_level, IsTop}

-- the level of a number is right by those of its row
abbrev pub IsLevel : (g : Graph) → List (Option ℕ) → (number level : ℕ) → Type 0
IsLevel g levels a m = (top : ℕ) × (IsTop levels (row_of g.rows a) top × (m ≡ own_level g.nodes a + top))

-- the numbers that have levels, in order, which are right and no greater than their count
pub record AreRanked (g : Graph) (levels : List (Option ℕ)) (order : List ℕ) : Type 0 where
  pub size : length levels ≡ length g.rows
  pub within : (k : ℕ) → k < length order → slice_index order k < length g.rows
  pub right : (a m : ℕ) → level_of levels a ≡ Some m → IsLevel g levels a m
  pub low : (a m : ℕ) → level_of levels a ≡ Some m → m ≤ length order
  pub count : length order ≡ count_by is_some levels

-- the places of each row before which all have levels
pub record ArePassed (g : Graph) (levels : List (Option ℕ)) (from : List ℕ) : Type 0 where
  pub size : length from ≡ length g.rows
  pub within : (a : ℕ) → slice_index from a ≤ length (row_of g.rows a)
  pub passed : (a k : ℕ) → k < slice_index from a → level_of levels (slice_index (row_of g.rows a) k) ≡ None → ⊥

-- who waits, by the number whose level is waited for
pub record AreWaiting (g : Graph) (waiting : List (List ℕ)) : Type 0 where
  pub size : length waiting ≡ length g.rows
  pub within : (c k : ℕ) → k < length (row_of waiting c) → slice_index (row_of waiting c) k < length g.rows

-- a number stands in a list, from a place on
abbrev pub StandsFrom : List ℕ → (place number : ℕ) → Type 0
StandsFrom xs i x = (k : ℕ) × ((i ≤ k) × ((k < length xs) × (slice_index xs k ≡ x)))

-- a number waits for one that it leads to, which has no level, or one that is yet to be told
pub record IsHeld (g : Graph) (levels : List (Option ℕ)) (order : List ℕ) (waiting : List (List ℕ)) (told a : ℕ) : Type 0 where
  pub lead : ℕ
  pub leads : StandsIn (row_of g.rows a) lead
  pub waits : StandsIn (row_of waiting lead) a
  pub comes : (level_of levels lead ≡ None) ⊎ StandsFrom order told lead

-- all that have no level wait, where those before a place in the order are told, but for some that are late
pub record AllWait (g : Graph) (levels : List (Option ℕ)) (order : List ℕ) (waiting : List (List ℕ)) (told : ℕ) (late : List ℕ) : Type 0 where
  pub low : told ≤ length order
  pub held : (a : ℕ) → a < length g.rows → level_of levels a ≡ None → StandsIn late a ⊎ IsHeld g levels order waiting told a
