-- Whether a run may come to the end of a statement.
use Rattle.std.specs.Prelude.{List, [], ◌∷◌, Bool, true, false, ◌||◌, if◌then◌else◌}
use Rattle.cw_unit.specs.declared.unit.Stmt.{Stmt, Stmt-F, out-Stmt}
use Rattle.cw_unit.specs.declared.unit.Stmt.TheFolds.{para-Stmt}
use Rattle.cw_unit.specs.declared.unit.Stmt.TheOpen as statement

abbrev pub is_no_statement : Stmt-F Stmt → Bool
is_no_statement (statement.Seq []) = true
is_no_statement _ = false

-- the statement that has no orders: a list of none, without labels
abbrev pub is_empty : Stmt → Bool
is_empty s = is_no_statement (out-Stmt s)

-- behind a statement, where a run may come to what stands before it or not: an empty one changes nothing
abbrev pub ends_behind : (before : Bool) → Stmt → (ends : Bool) → Bool
ends_behind before s ends = if is_empty s then before else ends

-- a list comes to its end where its last statement does that is not empty
abbrev pub list_ends : (before : Bool) → List (Stmt × Bool) → Bool
list_ends before [] = before
list_ends before (s ∷ ss) = list_ends (ends_behind before s.0 s.1) ss

-- ANSWER and GOTO never do, IF where one of its two does, and FOR always may
abbrev pub ending_step : Stmt-F (Stmt × Bool) → Bool
ending_step (statement.Go line d) = false
ending_step (statement.Answer line e) = false
ending_step (statement.If line c a b) = a.1 || b.1
ending_step (statement.Seq ss) = list_ends true ss
ending_step (statement.Mark ls s) = s.1
ending_step _ = true

abbrev pub comes_to_end : Stmt → Bool
comes_to_end = para-Stmt Bool ending_step
