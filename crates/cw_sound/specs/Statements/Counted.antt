-- The bodies of the procedures of a text as those of a unit.
use Rattle.std.specs.Prelude.{◌≡◌, ℕ, suc, ◌≤◌, [], ◌∷◌, IsTrue, Some, None, slice_get}
use Rattle.cw_make.specs.Labels.{proc_within}
use Rattle.cw_make_expr.specs.Parts.{Numbers}
use Rattle.cw_unit.specs.declared.unit.Unit.{Unit as SourceUnit}
use Rattle.cw_unit.specs.declared.unit.Proc.{Proc}
use Rattle.cw_gen_expr.specs.NamedItems.{has_words}
use Rattle.cw_gen_expr.specs.BuiltExpressions.{most_levels}
use Rattle.cw_gen_unit.specs.BuiltStatements.{is_statement}
use Rattle.cw_gen_unit.specs.ReferenceUnits.{answer_of}
use Rattle.cw_sound.specs.Uses.Mentions.{In}
use Rattle.cw_sound.specs.Statements.Bodies.{Body, Bodies}
use Rattle.cw_sound.specs.Statements.Levels.{statement_levels}
use Rattle.cw_sound.specs.Statements.Regular.{is_regular_statement}

-- their procedures have the numbers from this one on
abbrev pub Counted : Numbers → ℕ → Bodies → Type 0
Counted numbers n [] = Unit {0}
Counted numbers n (x ∷ xs) = (proc_within numbers (Some x.token) None ≡ Some n) × Counted numbers (suc n) xs

-- each of them is as the grammar gives it, within the levels that there are
abbrev pub BodiesFit : Bodies → Type 0
BodiesFit bs = (x : Body) → In x bs → IsTrue (is_regular_statement x.statement) × (statement_levels x.statement ≤ most_levels)

-- the body of a unit, and those of its procedures, have orders that do what they mean
pub record BodiesBuilt (u : SourceUnit) : Type 0 where
  pub body : IsTrue (is_statement u (has_words u None) None 0 u.body 64)
  pub procedures : (p : ℕ) (q : Proc) → slice_get u.procs p ≡ Some q → IsTrue (is_statement u (has_words u (Some p)) (Some p) (answer_of u (Some p)) q.body 64)
