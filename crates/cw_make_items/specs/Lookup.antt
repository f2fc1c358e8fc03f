-- What the numbers of a text have at a token. What is of another sort, or not there, counts as 0.
use Rattle.std.specs.Prelude.{ℕ, min, List, Option, Some, None, option_and_then}
use Rattle.cw_table.specs.declared.table.Row.{Row}
use Rattle.cw_table.specs.Rows.{item_at}
use Rattle.cw_tree.specs.declared.leaf.Position.{Position}
use Rattle.cw_tree.specs.declared.leaf.RawName.{RawName}
use Rattle.cw_scope.specs.declared.resolve.Named.{Named}
use Rattle.cw_number.specs.declared.numbered.Numbered.{Numbered}
use Rattle.cw_number.specs.declared.numbered.Numbered.TheVariants as numbered
use Rattle.cw_unit.specs.declared.unit.Goal.{Goal}
use Rattle.cw_unit.specs.declared.unit.Goal.TheVariants as goal

abbrev pub Numbers : Type 0
Numbers = List (Row Numbered)

abbrev pub item_in : Option Numbered → ℕ
item_in (Some (numbered.Item i)) = i
item_in _ = 0

abbrev pub item_here : Numbers → (token : ℕ) → ℕ
item_here numbers token = item_in (item_at numbers token)

abbrev pub proc_in : Option Numbered → ℕ
proc_in (Some (numbered.Proc p)) = p
proc_in _ = 0

abbrev pub proc_here : Numbers → (token : ℕ) → ℕ
proc_here numbers token = proc_in (item_at numbers token)

abbrev pub control_in : Option Numbered → ℕ
control_in (Some (numbered.Control c)) = c
control_in _ = 0

abbrev pub control_here : Numbers → (token : ℕ) → ℕ
control_here numbers token = control_in (item_at numbers token)

-- a label that a switch lists
abbrev pub goal_in : Option Numbered → Goal
goal_in (Some (numbered.Label l)) = goal.Own l
goal_in (Some (numbered.CommonLabel d)) = goal.Common d
goal_in _ = goal.Own 0

abbrev pub goal_of : Named → Numbers → RawName → Goal
goal_of named numbers n = goal_in (option_and_then (item_at numbers) (item_at named.uses n.at.token))

-- later lines count as 65,535
abbrev pub line_of : Position → ℕ
line_of at = min at.line 65535
