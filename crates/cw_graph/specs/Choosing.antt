-- What is chosen by levels: the first body of the greatest, the first number that is reached and has none, and the least nodes of a level.
use Rattle.std.specs.Prelude.{◌≡◌, ℕ, ◌<◌, ◌≤◌, List, length, slice_index, Bool, true, Option, Some, None, unwrap_or, MatchOption}
use Rattle.cw_graph.specs.declared.graph.Graph.{Graph}
use Rattle.cw_graph.specs.declared.report.NumberReport.{NumberReport}
use Rattle.cw_graph.specs.declared.report.NumberReport.TheVariants as reports
use Rattle.cw_graph.specs.Chains.{HasHeight}
use Rattle.cw_graph.specs.Reports.{IsFirst, IsBound, IsUnbounded}
use Rattle.cw_graph.specs.Rows.{StandsIn, row_of, LeadsTo, IsBodyOf, IsProcedureOf, Below}
use Rattle.cw_graph.specs.Levels.{level_of}
use Rattle.cw_graph.specs.Reaching.{flag_of}

abbrev pub level_or_zero : List (Option ℕ) → ℕ → ℕ
level_or_zero levels a = unwrap_or (level_of levels a) 0

-- the first of the greatest level below a count
pub record IsHighest (levels : List (Option ℕ)) (count best : ℕ) : Type 0 where
  pub inside : best < count
  pub all : (a : ℕ) → a < count → level_or_zero levels a ≤ level_or_zero levels best
  pub first : (a : ℕ) → a < best → level_or_zero levels a < level_or_zero levels best

-- whether a number is reached and has no level
abbrev pub IsOpen : List (Option ℕ) → List Bool → ℕ → Type 0
IsOpen levels flags a = (flag_of flags a ≡ true) × (level_of levels a ≡ None)

abbrev pub NoneOpen : List (Option ℕ) → List Bool → (from to : ℕ) → Type 0
NoneOpen levels flags from to = (a : ℕ) → from ≤ a → a < to → IsOpen levels flags a → ⊥

-- the first from one number to another
pub record IsFirstOpen (levels : List (Option ℕ)) (flags : List Bool) (from to a : ℕ) : Type 0 where
  pub low : from ≤ a
  pub high : a < to
  pub is_open : IsOpen levels flags a
  pub first : NoneOpen levels flags from a

-- the least of the numbers that others stand for, those of one level among the first of a row
pub record IsLeast (levels : List (Option ℕ)) (firsts row : List ℕ) (n level least : ℕ) : Type 0 where
  pub found : (k : ℕ) × ((k < n) × ((level_of levels (slice_index row k) ≡ Some level) × (slice_index firsts (slice_index row k) ≡ least)))
  pub none_less : (k : ℕ) → k < n → level_of levels (slice_index row k) ≡ Some level → least ≤ slice_index firsts (slice_index row k)

abbrev pub TellsLeast : List (Option ℕ) → (firsts row : List ℕ) → (n level : ℕ) → Option ℕ → Type 0
TellsLeast levels firsts row n level told =
    MatchOption told ((k : ℕ) → k < n → level_of levels (slice_index row k) ≡ Some level → ⊥) (IsLeast levels firsts row n level)

-- the least number of a level in a row
pub record IsLeastIn (levels : List (Option ℕ)) (row : List ℕ) (level least : ℕ) : Type 0 where
  pub stands : StandsIn row least
  pub level_is : level_of levels least ≡ Some level
  pub none_less : (a : ℕ) → StandsIn row a → level_of levels a ≡ Some level → least ≤ a

-- a node stands for itself, and a group for the least of its nodes that has its level
pub record StandsFor (g : Graph) (levels : List (Option ℕ)) (a first : ℕ) : Type 0 where
  pub node : a < g.nodes → first ≡ a
  pub group : (level : ℕ) → g.nodes ≤ a → 0 < level → level_of levels a ≡ Some level → IsLeastIn levels (row_of g.rows a) level first

abbrev pub StandFor : Graph → List (Option ℕ) → (firsts : List ℕ) → Type 0
StandFor g levels firsts = (a : ℕ) → a < length firsts → StandsFor g levels a (slice_index firsts a)

-- what each number of a graph stands for
pub record AreFirsts (g : Graph) (levels : List (Option ℕ)) (firsts : List ℕ) : Type 0 where
  pub size : length firsts ≡ length g.rows
  pub stand : StandFor g levels firsts

-- the first node of a height that a node leads to
abbrev pub IsNext : Graph → (a height b : ℕ) → Type 0
IsNext g a h b = IsFirst Below (λ c. LeadsTo g a c × HasHeight (LeadsTo g) c h) b

-- what a report tells of a graph of numbers
abbrev pub IsNumberReport : Graph → NumberReport → Type 0
IsNumberReport g (reports.Bound chain) = IsBound (LeadsTo g) Below (IsBodyOf g) chain
IsNumberReport g (reports.Unbounded a) = IsUnbounded (LeadsTo g) Below (IsBodyOf g) (IsProcedureOf g) a
