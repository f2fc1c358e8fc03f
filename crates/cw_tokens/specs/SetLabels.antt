-- How many labels the bodies of a unit set. The code of a unit may have a landing for each label that the unit has, so there may be no more of them.
use Rattle.std.specs.Prelude.{ℕ, ◌+◌, ◌≤◌, List, [], ◌∷◌, length}
use Rattle.cw_unit.specs.declared.unit.Unit.{Unit as SourceUnit}
use Rattle.cw_unit.specs.declared.unit.Proc.{Proc}
use Rattle.cw_unit.specs.declared.unit.Stmt.{Stmt, Stmt-F, fold-Stmt}
use Rattle.cw_unit.specs.declared.unit.Stmt.TheOpen as statement

abbrev pub together : List ℕ → ℕ
together [] = 0
together (n ∷ ns) = n + together ns

abbrev pub set_step : Stmt-F ℕ → ℕ
set_step (statement.If line c a b) = a + b
set_step (statement.For line i r es s) = s
set_step (statement.Seq ss) = together ss
set_step (statement.Mark ls s) = length ls + s
set_step _ = 0

abbrev pub set_labels : Stmt → ℕ
set_labels = fold-Stmt ℕ set_step

abbrev pub set_in_procedures : List Proc → ℕ
set_in_procedures [] = 0
set_in_procedures (q ∷ qs) = set_labels q.body + set_in_procedures qs

-- the unit has no more labels than its bodies set
pub record LabelsStand (u : SourceUnit) : Type 0 where
  pub few : length u.labels ≤ set_labels u.body + set_in_procedures u.procs
