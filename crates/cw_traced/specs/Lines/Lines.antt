-- The lines of the statements of a unit that are begun as a whole, in the order in which their code stands.
use Rattle.std.specs.Prelude.{ℕ, List, [], ◌∷◌, ◌++◌, flat_map}
use Rattle.cw_unit.specs.declared.unit.Unit.{Unit as SourceUnit}
use Rattle.cw_unit.specs.declared.unit.Stmt.{Stmt, Stmt-F, fold-Stmt}
use Rattle.cw_unit.specs.declared.unit.Stmt.TheOpen as statement

abbrev pub joined : List (List ℕ) → List ℕ
joined [] = []
joined (ls ∷ more) = ls ++ joined more

-- a statement's own line, and behind it those of the statements in it
abbrev pub lines_step : Stmt-F (List ℕ) → List ℕ
lines_step (statement.Put line r e) = line ∷ []
lines_step (statement.PutBits line t b r e) = line ∷ []
lines_step (statement.Go line d) = line ∷ []
lines_step (statement.Call line t args) = line ∷ []
lines_step (statement.Answer line e) = line ∷ []
lines_step (statement.If line c a b) = line ∷ (a ++ b)
lines_step (statement.For line item r es body) = line ∷ body
lines_step (statement.Seq ss) = joined ss
lines_step (statement.Mark ls t) = t

abbrev pub lines_in : Stmt → List ℕ
lines_in = fold-Stmt (List ℕ) lines_step

-- those of the segment's body, then those of its procedures'
abbrev pub unit_lines : SourceUnit → List ℕ
unit_lines u = lines_in u.body ++ flat_map (λ q. lines_in q.body) u.procs

-- the statements that stand in a statement, in the order of the text
abbrev pub parts_of : Stmt-F Stmt → List Stmt
parts_of (statement.If line c a b) = a ∷ b ∷ []
parts_of (statement.For line item r es body) = body ∷ []
parts_of (statement.Seq ss) = ss
parts_of (statement.Mark ls t) = t ∷ []
parts_of _ = []
