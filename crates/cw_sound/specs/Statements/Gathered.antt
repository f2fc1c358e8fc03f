-- What is gathered over statements: nothing of a declaration, and of each other part what its own parts give, together.
use Rattle.std.specs.Prelude.{map, Option, Some, None}
use Rattle.cw_tree.specs.declared.expression.RawExpr.{RawExpr}
use Rattle.cw_tree.specs.declared.expression.RawRef.{RawRef}
use Rattle.cw_tree.specs.declared.statement.RawDecl.{RawDecl-F}
use Rattle.cw_tree.specs.declared.statement.RawDecl.TheOpen as layer
use Rattle.cw_tree.specs.declared.statement.RawDecl.TheOpen.{RawForm-F, RawSimple-F, RawBlock-F, RawProc-F, RawStmt-F}
use Rattle.cw_tree.specs.declared.statement.RawBlock.{RawBlock, fold-RawBlock}
use Rattle.cw_tree.specs.declared.statement.RawStmt.{RawStmt, fold-RawStmt}
use Rattle.cw_sound.specs.Expressions.Gathered.{Gathering}

module _ {A : Type 0} (g : Gathering A) where
  abbrev pub gathered_if : Option A → A
  gathered_if None = g.nothing
  gathered_if (Some x) = x

  abbrev pub declaration_step : RawDecl-F A A A A A A → A
  declaration_step d = g.nothing

  abbrev pub block_step : RawBlock-F A A A A A A → A
  block_step b = g.all b.stmts

  abbrev pub procedure_step : RawProc-F A A A A A A → A
  procedure_step p = p.body

  abbrev pub statement_step : RawStmt-F A A A A A A → A
  statement_step s = s.form

-- what its expressions give
module _ {A : Type 0} (g : Gathering A) (expression : RawExpr → A) (reference : RawRef → A) where
  abbrev pub simple_step : RawSimple-F A A A A A A → A
  simple_step (layer.Assign r e) = g.two (reference r) (expression e)
  simple_step (layer.AssignBits bits r e) = g.two (reference r) (expression e)
  simple_step (layer.GotoSwitch at n e) = expression e
  simple_step (layer.Call n es) = g.all (map expression es)
  simple_step (layer.Answer at e) = expression e
  simple_step (layer.Block b) = b
  simple_step _ = g.nothing

module _ {A : Type 0} (g : Gathering A) (form : RawForm-F A A A A A A → A) (simple : RawSimple-F A A A A A A → A) where
  abbrev pub block_gathered : RawBlock → A
  block_gathered = fold-RawBlock A A A A A A (declaration_step g) form simple (block_step g) (procedure_step g) (statement_step g)

  abbrev pub statement_gathered : RawStmt → A
  statement_gathered = fold-RawStmt A A A A A A (declaration_step g) form simple (block_step g) (procedure_step g) (statement_step g)
