-- What the records behind a unit's code ask of the unit besides the tests for what is built and for what has code.
use Rattle.std.specs.Prelude.{ℕ, ◌+◌, ◌<◌, ◌≤◌, nat_le, nat_lt, List, [], ◌∷◌, length, Bool, true, ◌&&◌, IsTrue}
use Rattle.std.specs.List.{list_all}
use Rattle.cw_unit.specs.declared.unit.Unit.{Unit as SourceUnit}
use Rattle.cw_unit.specs.declared.unit.Proc.{Proc}
use Rattle.cw_unit.specs.declared.unit.Switch.{Switch}
use Rattle.cw_unit.specs.declared.unit.Goal.{Goal}
use Rattle.cw_unit.specs.declared.unit.Goal.TheVariants as goal
use Rattle.cw_unit.specs.declared.unit.Def.{Def}
use Rattle.cw_unit.specs.declared.unit.Stmt.{Stmt, Stmt-F, fold-Stmt}
use Rattle.cw_unit.specs.declared.unit.Stmt.TheOpen as statement
use Rattle.cw_gen_unit.specs.ReferenceUnits.{unit_orders}
use Rattle.cw_tmpl.specs.declared.assembling.Code.{Code}
use Rattle.cw_tmpl.specs.ReferenceCode.{orders_code}

-- the code of a unit
abbrev pub code_of : SourceUnit → Code
code_of u = orders_code (unit_orders u)

-- ---- lines

abbrev pub all : List Bool → Bool
all [] = true
all (b ∷ bs) = b && all bs

-- lines are numbered from 1
abbrev pub is_line : ℕ → Bool
is_line n = nat_le 1 n

abbrev pub lines_step : Stmt-F Bool → Bool
lines_step (statement.Put line r e) = is_line line
lines_step (statement.PutBits line t b r e) = is_line line
lines_step (statement.Go line d) = is_line line
lines_step (statement.Call line t args) = is_line line
lines_step (statement.Answer line e) = is_line line
lines_step (statement.If line c a b) = is_line line && (a && b)
lines_step (statement.For line item r es s) = is_line line && s
lines_step (statement.Seq ss) = all ss
lines_step (statement.Mark ls s) = s

-- each statement has a line
abbrev pub has_lines : Stmt → Bool
has_lines = fold-Stmt Bool lines_step

-- ---- units

-- a goal that is the label of a descriptor has one of so many
abbrev pub is_goal : (descriptors : ℕ) → Goal → Bool
is_goal n (goal.Own l) = true
is_goal n (goal.Common d) = nat_lt d n

-- by rising descriptor, from a number on
abbrev pub are_rising : (low : ℕ) → List (ℕ × Def) → Bool
are_rising low [] = true
are_rising low (d ∷ ds) = nat_le low d.0 && are_rising (d.0 + 1) ds

pub record IsReady (u : SourceUnit) : Type 0 where
  -- the numbers that are fields: 32 bits for tokens, 16 for descriptors
  pub tokens : u.tokens < 4294967296
  pub descriptors : length u.descs ≤ 65536
  pub body : IsTrue (has_lines u.body)
  pub procedures : IsTrue (list_all (λ (q : Proc). has_lines q.body) u.procs)
  -- also those of switches that no statement uses
  pub goals : IsTrue (list_all (λ (s : Switch). list_all (is_goal (length u.descs)) s.list) u.switches)
  pub defined : IsTrue (are_rising 0 u.defined)
