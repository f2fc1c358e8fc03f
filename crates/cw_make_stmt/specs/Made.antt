-- The trees of a unit for the statements of a text.
-- Official Definition of CORAL 66, "Statements"; BS 5905, "Statements". The forms of trees are this project's profile.
use Rattle.std.specs.Prelude.{ℕ, min, ◌==◌, List, [], ◌∷◌, length, map, Option, Some, None, if◌then◌else◌}
use Rattle.cw_tree.specs.declared.leaf.Position.{Position}
use Rattle.cw_tree.specs.declared.leaf.RawName.{RawName}
use Rattle.cw_tree.specs.declared.expression.RawExpr.{RawExpr}
use Rattle.cw_tree.specs.declared.expression.RawRef.{RawRef, out-RawRef}
use Rattle.cw_tree.specs.declared.expression.RawExpr.TheOpen as raw_ref
use Rattle.cw_tree.specs.declared.expression.RawExpr.TheOpen.{RawRef-F}
use Rattle.cw_tree.specs.declared.expression.RawBits.{RawBits}
use Rattle.cw_tree.specs.declared.statement.RawFelem.{RawFelem}
use Rattle.cw_tree.specs.declared.statement.RawFelem.TheVariants as felem
use Rattle.cw_tree.specs.declared.statement.RawDecl.{RawDecl-F}
use Rattle.cw_tree.specs.declared.statement.RawDecl.TheOpen as layer
use Rattle.cw_tree.specs.declared.statement.RawDecl.TheOpen.{RawForm-F, RawSimple-F, RawBlock-F, RawProc-F, RawStmt-F}
use Rattle.cw_tree.specs.declared.statement.RawForm.{RawForm, fold-RawForm}
use Rattle.cw_tree.specs.declared.statement.RawSimple.{RawSimple, fold-RawSimple}
use Rattle.cw_tree.specs.declared.statement.RawBlock.{RawBlock, fold-RawBlock}
use Rattle.cw_tree.specs.declared.statement.RawStmt.{RawStmt, fold-RawStmt}
use Rattle.cw_scope.specs.declared.resolve.Named.{Named}
use Rattle.cw_table.specs.Rows.{item_at}
use Rattle.cw_amount.specs.Amounts.{place_amount}
use Rattle.cw_make_expr.specs.number.declared.numbered.Numbered.{Numbered}
use Rattle.cw_make_expr.specs.number.declared.numbered.Numbered.TheVariants as numbered
use Rattle.cw_unit.specs.declared.unit.Cond.{Cond}
use Rattle.cw_unit.specs.declared.unit.Ref.{Ref}
use Rattle.cw_unit.specs.declared.unit.Expr.{Expr}
use Rattle.cw_unit.specs.declared.unit.Felem.{Felem}
use Rattle.cw_unit.specs.declared.unit.Felem.TheVariants as element
use Rattle.cw_unit.specs.declared.unit.Goal.TheVariants as goal
use Rattle.cw_unit.specs.declared.unit.Dest.{Dest}
use Rattle.cw_unit.specs.declared.unit.Dest.TheVariants as dest
use Rattle.cw_unit.specs.declared.unit.Stmt.{Stmt, roll-Stmt}
use Rattle.cw_unit.specs.declared.unit.Stmt.TheOpen as statement
use Rattle.cw_make_expr.specs.Parts.{Numbers, within, number_of, item_here, label_in}
use Rattle.cw_make_expr.specs.Made.{expression_of, condition_of, reference_of, call_of}

-- ---- lines

-- every line past the last that a word tells is that one
abbrev pub line_of : Position → ℕ
line_of at = min at.line 65535

abbrev pub ref_position_in : {A B C D E F G H I J K L : Type 0} → RawRef-F A B C D E F G H I J K L → Position
ref_position_in (raw_ref.Name n) = n.at
ref_position_in (raw_ref.One n e) = n.at
ref_position_in (raw_ref.Two n e g) = n.at
ref_position_in (raw_ref.Bare at e) = at

-- where a reference begins
abbrev pub ref_position : RawRef → Position
ref_position r = ref_position_in (out-RawRef r)

-- ---- jumps

abbrev pub goal_of : Option Numbered → Dest
goal_of (Some (numbered.Label l)) = dest.Goal (goal.Own l)
goal_of (Some (numbered.CommonLabel d)) = dest.Goal (goal.Common d)
goal_of (Some (numbered.Control c)) = dest.Special c
goal_of _ = dest.Goal (goal.Own 0)

abbrev pub switch_of : Option Numbered → Expr → Dest
switch_of (Some (numbered.Switch s)) e = dest.Switch s e
switch_of (Some (numbered.CommonSwitch d)) e = dest.CommonSwitch d e
switch_of (Some (numbered.Control c)) e = dest.SpecialSwitch c e
switch_of _ e = dest.Switch 0 e

-- ---- lists

abbrev pub labels_of : Numbers → List RawName → List ℕ
labels_of numbers [] = []
labels_of numbers (n ∷ ns) = label_in (item_at numbers n.at.token) ∷ labels_of numbers ns

abbrev pub mark : List ℕ → Stmt → Stmt
mark ls s = roll-Stmt (statement.Mark ls s)

-- a statement behind its labels, if it has any
abbrev pub marked : Numbers → List RawName → Stmt → Stmt
marked numbers ns s = if length ns == 0 then s else mark (labels_of numbers ns) s

abbrev pub row : List Stmt → Stmt
row ss = roll-Stmt (statement.Seq ss)

abbrev pub row_if : Option Stmt → Stmt
row_if None = row []
row_if (Some s) = s

abbrev pub conditional : (line : ℕ) → Cond → Stmt → Stmt → Stmt
conditional line c a b = roll-Stmt (statement.If line c a b)

abbrev pub repetition : (line item : ℕ) → Ref → List Felem → Stmt → Stmt
repetition line item r es s = roll-Stmt (statement.For line item r es s)

abbrev pub put : (line : ℕ) → Ref → Expr → Stmt
put line r e = roll-Stmt (statement.Put line r e)

abbrev pub put_bits : (line t b : ℕ) → Ref → Expr → Stmt
put_bits line t b r e = roll-Stmt (statement.PutBits line t b r e)

module _ (named : Named) (numbers : Numbers) where
  abbrev pub felem_of : RawFelem → Felem
  felem_of (felem.One e) = element.One (expression_of named numbers e)
  felem_of (felem.While e c) = element.While (expression_of named numbers e) (condition_of named numbers c)
  felem_of (felem.Step a b c) = element.Step (expression_of named numbers a) (expression_of named numbers b) (expression_of named numbers c)

  abbrev pub call_statement : RawName → List RawExpr → Stmt
  call_statement n es = let c = call_of named numbers n es in roll-Stmt (statement.Call (line_of n.at) c.0 c.1)

  abbrev pub assignment_of : RawRef → Expr → Stmt
  assignment_of r e = put (line_of (ref_position r)) (reference_of named numbers r) e

  abbrev pub assignment : RawRef → RawExpr → Stmt
  assignment r e = assignment_of r (expression_of named numbers e)

  abbrev pub bits_assignment_of : RawBits → RawRef → Expr → Stmt
  bits_assignment_of bits r e =
      put_bits (line_of bits.at) (within 255 (place_amount bits.size.first)) (within 255 (place_amount bits.size.second))
      (reference_of named numbers r) e

  abbrev pub bits_assignment : RawBits → RawRef → RawExpr → Stmt
  bits_assignment bits r e = bits_assignment_of bits r (expression_of named numbers e)

  abbrev pub jump : Position → RawName → Stmt
  jump at n = roll-Stmt (statement.Go (line_of at) (goal_of (number_of named numbers n)))

  abbrev pub switch_jump : Position → RawName → RawExpr → Stmt
  switch_jump at n e = roll-Stmt (statement.Go (line_of at) (switch_of (number_of named numbers n) (expression_of named numbers e)))

  abbrev pub answer : Position → RawExpr → Stmt
  answer at e = roll-Stmt (statement.Answer (line_of at) (expression_of named numbers e))

  -- ---- rules of the grammar: a declaration gives no statement, and a procedure that of its body

  abbrev pub declaration_step : RawDecl-F Stmt Stmt Stmt Stmt Stmt Stmt → Stmt
  declaration_step d = row []

  abbrev pub form_step : RawForm-F Stmt Stmt Stmt Stmt Stmt Stmt → Stmt
  form_step (layer.Simple s) = s
  form_step (layer.If at test labels first second) =
      conditional (line_of at) (condition_of named numbers test) (marked numbers labels first) (row_if second)
  form_step (layer.For at variable elems body) =
      repetition (line_of at) (item_here numbers at.token) (reference_of named numbers variable) (map felem_of elems) body

  abbrev pub simple_step : RawSimple-F Stmt Stmt Stmt Stmt Stmt Stmt → Stmt
  simple_step layer.Empty = row []
  simple_step (layer.Assign r e) = assignment r e
  simple_step (layer.AssignBits bits r e) = bits_assignment bits r e
  simple_step (layer.Goto at n) = jump at n
  simple_step (layer.GotoSwitch at n e) = switch_jump at n e
  simple_step (layer.Call n es) = call_statement n es
  simple_step (layer.Answer at e) = answer at e
  simple_step (layer.Block b) = b

  abbrev pub block_step : RawBlock-F Stmt Stmt Stmt Stmt Stmt Stmt → Stmt
  block_step b = row b.stmts

  abbrev pub procedure_step : RawProc-F Stmt Stmt Stmt Stmt Stmt Stmt → Stmt
  procedure_step p = p.body

  abbrev pub statement_step : RawStmt-F Stmt Stmt Stmt Stmt Stmt Stmt → Stmt
  statement_step s = marked numbers s.labels s.form

  abbrev pub form_of : RawForm → Stmt
  form_of = fold-RawForm Stmt Stmt Stmt Stmt Stmt Stmt declaration_step form_step simple_step block_step procedure_step statement_step

  abbrev pub simple_of : RawSimple → Stmt
  simple_of = fold-RawSimple Stmt Stmt Stmt Stmt Stmt Stmt declaration_step form_step simple_step block_step procedure_step statement_step

  abbrev pub block_of : RawBlock → Stmt
  block_of = fold-RawBlock Stmt Stmt Stmt Stmt Stmt Stmt declaration_step form_step simple_step block_step procedure_step statement_step

  abbrev pub statement_of : RawStmt → Stmt
  statement_of = fold-RawStmt Stmt Stmt Stmt Stmt Stmt Stmt declaration_step form_step simple_step block_step procedure_step statement_step
