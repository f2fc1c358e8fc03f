-- What the items of a text hold at the start, in order of the text: presets, and strings.
-- Official Definition of CORAL 66, "Presetting", "Strings"; BS 5905, "Presetting".
use Rattle.std.specs.Prelude.{List, [], ◌∷◌, ◌++◌, Option, Some, None}
use Rattle.cw_tree.specs.declared.segment.Raw.{Raw}
use Rattle.cw_tree.specs.declared.segment.RawComm.{RawComm}
use Rattle.cw_tree.specs.declared.segment.RawComm.TheVariants as comm
use Rattle.cw_tree.specs.declared.segment.RawCitem.{RawCitem}
use Rattle.cw_tree.specs.declared.segment.RawCitem.TheVariants as citem
use Rattle.cw_tree.specs.declared.statement.RawFelem.{RawFelem}
use Rattle.cw_tree.specs.declared.statement.RawFelem.TheVariants as felem
use Rattle.cw_tree.specs.declared.statement.RawDecl.{RawDecl, RawDecl-F, fold-RawDecl}
use Rattle.cw_tree.specs.declared.statement.RawDecl.TheOpen as layer
use Rattle.cw_tree.specs.declared.statement.RawDecl.TheOpen.{RawForm-F, RawSimple-F, RawBlock-F, RawProc-F, RawStmt-F}
use Rattle.cw_tree.specs.declared.statement.RawForm.{RawForm, fold-RawForm}
use Rattle.cw_tree.specs.declared.statement.RawSimple.{RawSimple, fold-RawSimple}
use Rattle.cw_tree.specs.declared.statement.RawBlock.{RawBlock, fold-RawBlock}
use Rattle.cw_tree.specs.declared.statement.RawProc.{RawProc, fold-RawProc}
use Rattle.cw_tree.specs.declared.statement.RawStmt.{RawStmt, fold-RawStmt}
use Rattle.cw_preset.specs.Strings.{Rows, joined, expression_rows, condition_rows, reference_rows, argument_rows}
use Rattle.cw_preset.specs.Lists.{data_rows}

abbrev pub felem_rows : RawFelem → Rows
felem_rows (felem.One e) = expression_rows e
felem_rows (felem.While e c) = expression_rows e ++ condition_rows c
felem_rows (felem.Step a b c) = expression_rows a ++ (expression_rows b ++ expression_rows c)

abbrev pub felems_rows : List RawFelem → Rows
felems_rows [] = []
felems_rows (e ∷ es) = felem_rows e ++ felems_rows es

abbrev pub rows_if : Option Rows → Rows
rows_if None = []
rows_if (Some r) = r

abbrev pub declaration_step : RawDecl-F Rows Rows Rows Rows Rows Rows → Rows
declaration_step (layer.Data d) = data_rows d
declaration_step (layer.Overlay at b d) = data_rows d
declaration_step (layer.Switch at n labels) = []
declaration_step (layer.Proc p) = p

abbrev pub form_step : RawForm-F Rows Rows Rows Rows Rows Rows → Rows
form_step (layer.Simple s) = s
form_step (layer.If at test labels first second) = condition_rows test ++ (first ++ rows_if second)
form_step (layer.For at variable elems body) = reference_rows variable ++ (felems_rows elems ++ body)

abbrev pub simple_step : RawSimple-F Rows Rows Rows Rows Rows Rows → Rows
simple_step layer.Empty = []
simple_step (layer.Assign r e) = reference_rows r ++ expression_rows e
simple_step (layer.AssignBits bits r e) = reference_rows r ++ expression_rows e
simple_step (layer.Goto at n) = []
simple_step (layer.GotoSwitch at n e) = expression_rows e
simple_step (layer.Call n es) = argument_rows es
simple_step (layer.Answer at e) = expression_rows e
simple_step (layer.Block b) = b

abbrev pub block_step : RawBlock-F Rows Rows Rows Rows Rows Rows → Rows
block_step b = joined b.decls ++ joined b.stmts

abbrev pub procedure_step : RawProc-F Rows Rows Rows Rows Rows Rows → Rows
procedure_step p = p.body

abbrev pub statement_step : RawStmt-F Rows Rows Rows Rows Rows Rows → Rows
statement_step s = s.form

abbrev pub declaration_rows : RawDecl → Rows
declaration_rows = fold-RawDecl Rows Rows Rows Rows Rows Rows declaration_step form_step simple_step block_step procedure_step statement_step

abbrev pub form_rows : RawForm → Rows
form_rows = fold-RawForm Rows Rows Rows Rows Rows Rows declaration_step form_step simple_step block_step procedure_step statement_step

abbrev pub simple_rows : RawSimple → Rows
simple_rows = fold-RawSimple Rows Rows Rows Rows Rows Rows declaration_step form_step simple_step block_step procedure_step statement_step

abbrev pub block_rows : RawBlock → Rows
block_rows = fold-RawBlock Rows Rows Rows Rows Rows Rows declaration_step form_step simple_step block_step procedure_step statement_step

abbrev pub procedure_rows : RawProc → Rows
procedure_rows = fold-RawProc Rows Rows Rows Rows Rows Rows declaration_step form_step simple_step block_step procedure_step statement_step

abbrev pub statement_rows : RawStmt → Rows
statement_rows = fold-RawStmt Rows Rows Rows Rows Rows Rows declaration_step form_step simple_step block_step procedure_step statement_step

-- ---- communicators

abbrev pub citem_rows : RawCitem → Rows
citem_rows (citem.Data d) = data_rows d
citem_rows (citem.Overlay at b d) = data_rows d
citem_rows (citem.Label at ns) = []
citem_rows (citem.Switch at ns) = []
citem_rows (citem.Spec s) = []

abbrev pub citems_rows : List RawCitem → Rows
citems_rows [] = []
citems_rows (i ∷ is) = citem_rows i ++ citems_rows is

abbrev pub communicator_rows : RawComm → Rows
communicator_rows (comm.Common at is) = citems_rows is
communicator_rows (comm.Library at ss) = []
communicator_rows (comm.Absolute at is) = []

abbrev pub communicators_rows : List RawComm → Rows
communicators_rows [] = []
communicators_rows (c ∷ cs) = communicator_rows c ++ communicators_rows cs

abbrev pub held_of : Raw → Rows
held_of raw = communicators_rows raw.comms ++ block_rows raw.block
