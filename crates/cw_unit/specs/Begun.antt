-- The statements that a run of the source begins.
use Rattle.std.specs.Prelude.{ℕ, zero, suc, ◌+◌, ℤ, List, [], ◌∷◌, ◌++◌, map}
use Rattle.cw_unit.specs.declared.unit.Stmt.{Stmt, Stmt-F, out-Stmt}
use Rattle.cw_unit.specs.declared.unit.Stmt.TheOpen as statement
use Rattle.cw_unit.specs.Program.{Program}
use Rattle.cw_unit.specs.Stop.{Running}
use Rattle.cw_unit.specs.Work.{Run}
use Rattle.cw_unit.specs.Configuration.{Configuration, at, segment_of}
use Rattle.cw_unit.specs.Step.{step}
use Rattle.cw_unit.specs.Behaviour.{initial_configuration}

-- a statement that begins: the number of its segment, from 1, its line, and the words of memory
abbrev pub Begun : Type 0
Begun = ℕ × ℕ × List ℤ

-- the line of a statement that is begun as a whole; a sequence and a statement with labels begin with their parts
abbrev pub line_of : Stmt-F Stmt → List ℕ
line_of (statement.Put line r e) = line ∷ []
line_of (statement.PutBits line t b r e) = line ∷ []
line_of (statement.Go line d) = line ∷ []
line_of (statement.Call line t args) = line ∷ []
line_of (statement.Answer line e) = line ∷ []
line_of (statement.If line c a b) = line ∷ []
line_of (statement.For line item r es body) = line ∷ []
line_of (statement.Seq ss) = []
line_of (statement.Mark ls t) = []

-- the statement that the next step begins, if it does
abbrev pub begins : Configuration → List Begun
begins (at s (Run t k) acts w Running) = map (λ line. (segment_of s acts + 1, line, w.memory)) (line_of (out-Stmt t))
begins _ = []

module _ (p : Program) where
  abbrev pub begun_from : (m : ℕ) → Configuration → List Begun
  begun_from zero c = []
  begun_from (suc m) c = begins c ++ begun_from m (step p c)

  -- those that begin in the first m steps
  abbrev pub begun : (input : List ℕ) → (m : ℕ) → List Begun
  begun input m = begun_from m (initial_configuration p input)
