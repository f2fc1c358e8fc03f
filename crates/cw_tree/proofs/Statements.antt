-- A fold over the trees of statements, and what it is at each form of a part.
use Rattle.std.proofs.Common.{◌≡◌, List, Some, None, sym, ap, ◌∙◌}
use Rattle.cw_tree.specs.declared.leaf.Position.{Position}
use Rattle.cw_tree.specs.declared.leaf.RawName.{RawName}
use Rattle.cw_tree.specs.declared.expression.RawBits.{RawBits}
use Rattle.cw_tree.specs.declared.expression.RawCond.{RawCond}
use Rattle.cw_tree.specs.declared.expression.RawExpr.{RawExpr}
use Rattle.cw_tree.specs.declared.expression.RawRef.{RawRef}
use Rattle.cw_tree.specs.declared.items.RawBase.{RawBase}
use Rattle.cw_tree.specs.declared.items.RawData.{RawData}
use Rattle.cw_tree.specs.declared.statement.RawFelem.{RawFelem}
use Rattle.cw_tree.specs.declared.statement.RawDecl.TheVariants as declaration_tree
use Rattle.cw_tree.specs.declared.statement.RawForm.TheVariants as form_tree
use Rattle.cw_tree.specs.declared.statement.RawSimple.TheVariants as simple_tree
use Rattle.cw_tree.specs.declared.statement.RawDecl.TheOpen as layer
use Rattle.cw_tree.specs.declared.statement.RawDecl.TheOpen.{RawDecl-F, RawForm-F, RawSimple-F, RawBlock-F, RawProc-F, RawStmt-F}
use Rattle.cw_tree.specs.declared.statement.RawDecl.{RawDecl, fold-RawDecl, roll-RawDecl, map-RawDecl, fold-roll-RawDecl}
use Rattle.cw_tree.specs.declared.statement.RawForm.{RawForm, fold-RawForm, roll-RawForm, map-RawForm, fold-roll-RawForm}
use Rattle.cw_tree.specs.declared.statement.RawSimple.{RawSimple, fold-RawSimple, roll-RawSimple, map-RawSimple, fold-roll-RawSimple}
use Rattle.cw_tree.specs.declared.statement.RawBlock.{RawBlock, fold-RawBlock, out-RawBlock, map-RawBlock, fold_out-RawBlock}
use Rattle.cw_tree.specs.declared.statement.RawProc.{RawProc, fold-RawProc, out-RawProc, map-RawProc, fold_out-RawProc}
use Rattle.cw_tree.specs.declared.statement.RawStmt.{RawStmt, fold-RawStmt, out-RawStmt, map-RawStmt, fold_out-RawStmt}

-- what is made of each part, of what was made of its own parts
pub record StatementSteps (D F S B P T : Type 0) : Type 0 where
  pub declaration : RawDecl-F D F S B P T → D
  pub form : RawForm-F D F S B P T → F
  pub simple : RawSimple-F D F S B P T → S
  pub block : RawBlock-F D F S B P T → B
  pub procedure : RawProc-F D F S B P T → P
  pub statement : RawStmt-F D F S B P T → T

module _ {D F S B P T : Type 0} (declaration : RawDecl-F D F S B P T → D) (form : RawForm-F D F S B P T → F) (simple : RawSimple-F D F S B P T → S) (block : RawBlock-F D F S B P T → B) (procedure : RawProc-F D F S B P T → P) (statement : RawStmt-F D F S B P T → T) where
  abbrev pub statement_steps : StatementSteps D F S B P T
  statement_steps = record { declaration = declaration; form = form; simple = simple; block = block; procedure = procedure; statement = statement }

module _ {D F S B P T : Type 0} (s : StatementSteps D F S B P T) where
  abbrev pub of_declaration : RawDecl → D
  of_declaration = fold-RawDecl D F S B P T s.declaration s.form s.simple s.block s.procedure s.statement

  abbrev pub of_form : RawForm → F
  of_form = fold-RawForm D F S B P T s.declaration s.form s.simple s.block s.procedure s.statement

  abbrev pub of_simple : RawSimple → S
  of_simple = fold-RawSimple D F S B P T s.declaration s.form s.simple s.block s.procedure s.statement

  abbrev pub of_block : RawBlock → B
  of_block = fold-RawBlock D F S B P T s.declaration s.form s.simple s.block s.procedure s.statement

  abbrev pub of_procedure : RawProc → P
  of_procedure = fold-RawProc D F S B P T s.declaration s.form s.simple s.block s.procedure s.statement

  abbrev pub of_statement : RawStmt → T
  of_statement = fold-RawStmt D F S B P T s.declaration s.form s.simple s.block s.procedure s.statement

  rolled_declaration : (x : RawDecl-F RawDecl RawForm RawSimple RawBlock RawProc RawStmt) → of_declaration (roll-RawDecl x) ≡ s.declaration (map-RawDecl RawDecl RawForm RawSimple RawBlock RawProc RawStmt D F S B P T of_declaration of_form of_simple of_block of_procedure of_statement x)
  rolled_declaration = fold-roll-RawDecl D F S B P T s.declaration s.form s.simple s.block s.procedure s.statement

  pub of_declaration-Data : (d : RawData) → of_declaration (declaration_tree.Data d) ≡ s.declaration (layer.Data d)
  of_declaration-Data d = ap of_declaration (sym (declaration_tree.rolls-Data d)) ∙ rolled_declaration (layer.Data d)

  pub of_declaration-Overlay : (at : Position) (b : RawBase) (d : RawData) → of_declaration (declaration_tree.Overlay at b d) ≡ s.declaration (layer.Overlay at b d)
  of_declaration-Overlay at b d = ap of_declaration (sym (declaration_tree.rolls-Overlay at b d)) ∙ rolled_declaration (layer.Overlay at b d)

  pub of_declaration-Switch : (at : Position) (n : RawName) (labels : List RawName) → of_declaration (declaration_tree.Switch at n labels) ≡ s.declaration (layer.Switch at n labels)
  of_declaration-Switch at n labels = ap of_declaration (sym (declaration_tree.rolls-Switch at n labels)) ∙ rolled_declaration (layer.Switch at n labels)

  pub of_declaration-Proc : (p : RawProc) → of_declaration (declaration_tree.Proc p) ≡ s.declaration (layer.Proc (of_procedure p))
  of_declaration-Proc p = ap of_declaration (sym (declaration_tree.rolls-Proc p)) ∙ rolled_declaration (layer.Proc p)

  rolled_form : (x : RawForm-F RawDecl RawForm RawSimple RawBlock RawProc RawStmt) → of_form (roll-RawForm x) ≡ s.form (map-RawForm RawDecl RawForm RawSimple RawBlock RawProc RawStmt D F S B P T of_declaration of_form of_simple of_block of_procedure of_statement x)
  rolled_form = fold-roll-RawForm D F S B P T s.declaration s.form s.simple s.block s.procedure s.statement

  pub of_form-Simple : (x : RawSimple) → of_form (form_tree.Simple x) ≡ s.form (layer.Simple (of_simple x))
  of_form-Simple x = ap of_form (sym (form_tree.rolls-Simple x)) ∙ rolled_form (layer.Simple x)

  pub of_form-If-None : (at : Position) (test : RawCond) (labels : List RawName) (first : RawSimple) → of_form (form_tree.If at test labels first None) ≡ s.form (layer.If at test labels (of_simple first) None)
  of_form-If-None at test labels first = ap of_form (sym (form_tree.rolls-If at test labels first None)) ∙ rolled_form (layer.If at test labels first None)

  pub of_form-If-Some : (at : Position) (test : RawCond) (labels : List RawName) (first : RawSimple) (x : RawStmt) → of_form (form_tree.If at test labels first (Some x)) ≡ s.form (layer.If at test labels (of_simple first) (Some (of_statement x)))
  of_form-If-Some at test labels first x = ap of_form (sym (form_tree.rolls-If at test labels first (Some x))) ∙ rolled_form (layer.If at test labels first (Some x))

  pub of_form-For : (at : Position) (variable : RawRef) (elems : List RawFelem) (body : RawStmt) → of_form (form_tree.For at variable elems body) ≡ s.form (layer.For at variable elems (of_statement body))
  of_form-For at variable elems body = ap of_form (sym (form_tree.rolls-For at variable elems body)) ∙ rolled_form (layer.For at variable elems body)

  rolled_simple : (x : RawSimple-F RawDecl RawForm RawSimple RawBlock RawProc RawStmt) → of_simple (roll-RawSimple x) ≡ s.simple (map-RawSimple RawDecl RawForm RawSimple RawBlock RawProc RawStmt D F S B P T of_declaration of_form of_simple of_block of_procedure of_statement x)
  rolled_simple = fold-roll-RawSimple D F S B P T s.declaration s.form s.simple s.block s.procedure s.statement

  pub of_simple-Empty : of_simple simple_tree.Empty ≡ s.simple layer.Empty
  of_simple-Empty = ap of_simple (sym simple_tree.rolls-Empty) ∙ rolled_simple layer.Empty

  pub of_simple-Assign : (r : RawRef) (e : RawExpr) → of_simple (simple_tree.Assign r e) ≡ s.simple (layer.Assign r e)
  of_simple-Assign r e = ap of_simple (sym (simple_tree.rolls-Assign r e)) ∙ rolled_simple (layer.Assign r e)

  pub of_simple-AssignBits : (bits : RawBits) (r : RawRef) (e : RawExpr) → of_simple (simple_tree.AssignBits bits r e) ≡ s.simple (layer.AssignBits bits r e)
  of_simple-AssignBits bits r e = ap of_simple (sym (simple_tree.rolls-AssignBits bits r e)) ∙ rolled_simple (layer.AssignBits bits r e)

  pub of_simple-Goto : (at : Position) (n : RawName) → of_simple (simple_tree.Goto at n) ≡ s.simple (layer.Goto at n)
  of_simple-Goto at n = ap of_simple (sym (simple_tree.rolls-Goto at n)) ∙ rolled_simple (layer.Goto at n)

  pub of_simple-GotoSwitch : (at : Position) (n : RawName) (e : RawExpr) → of_simple (simple_tree.GotoSwitch at n e) ≡ s.simple (layer.GotoSwitch at n e)
  of_simple-GotoSwitch at n e = ap of_simple (sym (simple_tree.rolls-GotoSwitch at n e)) ∙ rolled_simple (layer.GotoSwitch at n e)

  pub of_simple-Call : (n : RawName) (es : List RawExpr) → of_simple (simple_tree.Call n es) ≡ s.simple (layer.Call n es)
  of_simple-Call n es = ap of_simple (sym (simple_tree.rolls-Call n es)) ∙ rolled_simple (layer.Call n es)

  pub of_simple-Answer : (at : Position) (e : RawExpr) → of_simple (simple_tree.Answer at e) ≡ s.simple (layer.Answer at e)
  of_simple-Answer at e = ap of_simple (sym (simple_tree.rolls-Answer at e)) ∙ rolled_simple (layer.Answer at e)

  pub of_simple-Block : (b : RawBlock) → of_simple (simple_tree.Block b) ≡ s.simple (layer.Block (of_block b))
  of_simple-Block b = ap of_simple (sym (simple_tree.rolls-Block b)) ∙ rolled_simple (layer.Block b)

  pub of_block-out : (x : RawBlock) → of_block x ≡ s.block (map-RawBlock RawDecl RawForm RawSimple RawBlock RawProc RawStmt D F S B P T of_declaration of_form of_simple of_block of_procedure of_statement (out-RawBlock x))
  of_block-out = fold_out-RawBlock D F S B P T s.declaration s.form s.simple s.block s.procedure s.statement

  pub of_procedure-out : (x : RawProc) → of_procedure x ≡ s.procedure (map-RawProc RawDecl RawForm RawSimple RawBlock RawProc RawStmt D F S B P T of_declaration of_form of_simple of_block of_procedure of_statement (out-RawProc x))
  of_procedure-out = fold_out-RawProc D F S B P T s.declaration s.form s.simple s.block s.procedure s.statement

  pub of_statement-out : (x : RawStmt) → of_statement x ≡ s.statement (map-RawStmt RawDecl RawForm RawSimple RawBlock RawProc RawStmt D F S B P T of_declaration of_form of_simple of_block of_procedure of_statement (out-RawStmt x))
  of_statement-out = fold_out-RawStmt D F S B P T s.declaration s.form s.simple s.block s.procedure s.statement
