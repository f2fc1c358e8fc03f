-- Graphs of numbers. A row lists what a number leads to. The numbers below a count are nodes, the bodies first. Those behind are groups of nodes:
-- what leads to a group leads to each node in it.
use Rattle.std.specs.Prelude.{◌≡◌, ℕ, ◌<◌, ◌≤◌, List, [], length, slice_index, slice_index_or}
use Rattle.cw_graph.specs.declared.graph.Graph.{Graph}

-- a number stands in a list
abbrev pub StandsIn : List ℕ → ℕ → Type 0
StandsIn xs x = (k : ℕ) × ((k < length xs) × (slice_index xs k ≡ x))

abbrev pub row_of : List (List ℕ) → ℕ → List ℕ
row_of rows a = slice_index_or rows a []

-- Bodies come before procedures and these before groups. All lead to procedures or groups, a group to procedures alone.
pub record IsWhole (g : Graph) : Type 0 where
  pub some_body : 0 < g.bodies
  pub bodies : g.bodies ≤ g.nodes
  pub nodes : g.nodes ≤ length g.rows
  pub low : (a k : ℕ) → k < length (row_of g.rows a) → g.bodies ≤ slice_index (row_of g.rows a) k
  pub high : (a k : ℕ) → k < length (row_of g.rows a) → slice_index (row_of g.rows a) k < length g.rows
  pub groups : (a k : ℕ) → g.nodes ≤ a → k < length (row_of g.rows a) → slice_index (row_of g.rows a) k < g.nodes

-- a node leads to a node, at once or by a group
pub data LeadsTo (g : Graph) (a b : ℕ) : Type 0 where
  at_once : a < g.nodes → b < g.nodes → StandsIn (row_of g.rows a) b → LeadsTo g a b
  by_group : (c : ℕ) → a < g.nodes → g.nodes ≤ c → StandsIn (row_of g.rows a) c → StandsIn (row_of g.rows c) b → LeadsTo g a b

abbrev pub IsBodyOf : Graph → ℕ → Type 0
IsBodyOf g a = a < g.bodies

abbrev pub IsProcedureOf : Graph → ℕ → Type 0
IsProcedureOf g a = (g.bodies ≤ a) × (a < g.nodes)

abbrev pub Below : ℕ → ℕ → Type 0
Below a b = a < b
