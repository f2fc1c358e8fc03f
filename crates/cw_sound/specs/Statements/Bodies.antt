-- The bodies of the procedures that a part of a text declares, in order of the text, each with the token of its procedure's name.
use Rattle.std.specs.Prelude.{ℕ, List, [], ◌∷◌, ◌++◌, Option, Some, None}
use Rattle.cw_tree.specs.declared.statement.RawDecl.{RawDecl, RawDecl-F, para-RawDecl}
use Rattle.cw_tree.specs.declared.statement.RawDecl.TheOpen as layer
use Rattle.cw_tree.specs.declared.statement.RawDecl.TheOpen.{RawForm-F, RawSimple-F, RawBlock-F, RawProc-F, RawStmt-F}
use Rattle.cw_tree.specs.declared.statement.RawForm.{RawForm, para-RawForm}
use Rattle.cw_tree.specs.declared.statement.RawSimple.{RawSimple, para-RawSimple}
use Rattle.cw_tree.specs.declared.statement.RawBlock.{RawBlock, para-RawBlock}
use Rattle.cw_tree.specs.declared.statement.RawProc.{RawProc, para-RawProc}
use Rattle.cw_tree.specs.declared.statement.RawStmt.{RawStmt, para-RawStmt}

pub record Body : Type 0 where
  pub token : ℕ
  pub statement : RawStmt

abbrev pub Bodies : Type 0
Bodies = List Body

-- each part of the text stands beside the bodies in it
abbrev pub joined : {X : Type 0} → List (X × Bodies) → Bodies
joined [] = []
joined (p ∷ ps) = p.1 ++ joined ps

abbrev pub bodies_if : {X : Type 0} → Option (X × Bodies) → Bodies
bodies_if None = []
bodies_if (Some p) = p.1

abbrev pub declaration_step : RawDecl-F (RawDecl × Bodies) (RawForm × Bodies) (RawSimple × Bodies)
    (RawBlock × Bodies) (RawProc × Bodies) (RawStmt × Bodies) → Bodies
declaration_step (layer.Data d) = []
declaration_step (layer.Overlay at b d) = []
declaration_step (layer.Switch at n labels) = []
declaration_step (layer.Proc p) = p.1

abbrev pub form_step : RawForm-F (RawDecl × Bodies) (RawForm × Bodies) (RawSimple × Bodies) (RawBlock × Bodies) (RawProc × Bodies) (RawStmt × Bodies) → Bodies
form_step (layer.Simple s) = s.1
form_step (layer.If at test labels first second) = first.1 ++ bodies_if second
form_step (layer.For at variable elems body) = body.1

abbrev pub simple_step : RawSimple-F (RawDecl × Bodies) (RawForm × Bodies) (RawSimple × Bodies) (RawBlock × Bodies)
    (RawProc × Bodies) (RawStmt × Bodies) → Bodies
simple_step layer.Empty = []
simple_step (layer.Assign r e) = []
simple_step (layer.AssignBits bits r e) = []
simple_step (layer.Goto at n) = []
simple_step (layer.GotoSwitch at n e) = []
simple_step (layer.Call n es) = []
simple_step (layer.Answer at e) = []
simple_step (layer.Block b) = b.1

abbrev pub block_step : RawBlock-F (RawDecl × Bodies) (RawForm × Bodies) (RawSimple × Bodies) (RawBlock × Bodies) (RawProc × Bodies) (RawStmt × Bodies) → Bodies
block_step b = joined b.decls ++ joined b.stmts

abbrev pub procedure_step : RawProc-F (RawDecl × Bodies) (RawForm × Bodies) (RawSimple × Bodies) (RawBlock × Bodies)
    (RawProc × Bodies) (RawStmt × Bodies) → Bodies
procedure_step p = record { token = p.name.at.token; statement = p.body.0 } ∷ p.body.1

abbrev pub statement_step : RawStmt-F (RawDecl × Bodies) (RawForm × Bodies) (RawSimple × Bodies) (RawBlock × Bodies)
    (RawProc × Bodies) (RawStmt × Bodies) → Bodies
statement_step s = s.form.1

abbrev pub declaration_bodies : RawDecl → Bodies
declaration_bodies = para-RawDecl Bodies Bodies Bodies Bodies Bodies Bodies declaration_step form_step simple_step block_step procedure_step statement_step

abbrev pub form_bodies : RawForm → Bodies
form_bodies = para-RawForm Bodies Bodies Bodies Bodies Bodies Bodies declaration_step form_step simple_step block_step procedure_step statement_step

abbrev pub simple_bodies : RawSimple → Bodies
simple_bodies = para-RawSimple Bodies Bodies Bodies Bodies Bodies Bodies declaration_step form_step simple_step block_step procedure_step statement_step

abbrev pub block_bodies : RawBlock → Bodies
block_bodies = para-RawBlock Bodies Bodies Bodies Bodies Bodies Bodies declaration_step form_step simple_step block_step procedure_step statement_step

abbrev pub procedure_bodies : RawProc → Bodies
procedure_bodies = para-RawProc Bodies Bodies Bodies Bodies Bodies Bodies declaration_step form_step simple_step block_step procedure_step statement_step

abbrev pub statement_bodies : RawStmt → Bodies
statement_bodies = para-RawStmt Bodies Bodies Bodies Bodies Bodies Bodies declaration_step form_step simple_step block_step procedure_step statement_step
