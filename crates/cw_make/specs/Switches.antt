-- The switches that a text declares, in order of the text, each with the procedure in which it is declared, and with its labels.
-- Official Definition of CORAL 66, "Switches"; BS 5905, "Switches".
use Rattle.std.specs.Prelude.{ℕ, List, [], ◌∷◌, ◌++◌, Option, Some, None}
use Rattle.cw_tree.specs.declared.leaf.RawName.{RawName}
use Rattle.cw_tree.specs.declared.segment.Raw.{Raw}
use Rattle.cw_tree.specs.declared.statement.RawDecl.{RawDecl, RawDecl-F, fold-RawDecl}
use Rattle.cw_tree.specs.declared.statement.RawDecl.TheOpen as layer
use Rattle.cw_tree.specs.declared.statement.RawDecl.TheOpen.{RawForm-F, RawSimple-F, RawBlock-F, RawProc-F, RawStmt-F}
use Rattle.cw_tree.specs.declared.statement.RawForm.{RawForm, fold-RawForm}
use Rattle.cw_tree.specs.declared.statement.RawSimple.{RawSimple, fold-RawSimple}
use Rattle.cw_tree.specs.declared.statement.RawBlock.{RawBlock, fold-RawBlock}
use Rattle.cw_tree.specs.declared.statement.RawProc.{RawProc, fold-RawProc}
use Rattle.cw_tree.specs.declared.statement.RawStmt.{RawStmt, fold-RawStmt}
use Rattle.cw_scope.specs.declared.resolve.Named.{Named}
use Rattle.cw_unit.specs.declared.unit.Goal.{Goal}
use Rattle.cw_unit.specs.declared.unit.Switch.{Switch}
use Rattle.cw_make_items.specs.Lookup.{Numbers, proc_here, goal_of}

-- by the procedure around them
abbrev pub Switches : Type 0
Switches = (proc : Option ℕ) → List Switch

abbrev pub joined : List Switches → Switches
joined [] q = []
joined (x ∷ xs) q = x q ++ joined xs q

abbrev pub switches_if : Option Switches → Switches
switches_if None q = []
switches_if (Some x) q = x q

module _ (named : Named) (numbers : Numbers) where
  abbrev pub goals_of : List RawName → List Goal
  goals_of [] = []
  goals_of (n ∷ ns) = goal_of named numbers n ∷ goals_of ns

  abbrev pub declaration_step : RawDecl-F Switches Switches Switches Switches Switches Switches → Switches
  declaration_step (layer.Data d) q = []
  declaration_step (layer.Overlay at b d) q = []
  declaration_step (layer.Switch at n labels) q = record { proc = q; list = goals_of labels } ∷ []
  declaration_step (layer.Proc p) q = p q

  abbrev pub form_step : RawForm-F Switches Switches Switches Switches Switches Switches → Switches
  form_step (layer.Simple s) q = s q
  form_step (layer.If at test labels first second) q = first q ++ switches_if second q
  form_step (layer.For at variable elems body) q = body q

  abbrev pub simple_step : RawSimple-F Switches Switches Switches Switches Switches Switches → Switches
  simple_step layer.Empty q = []
  simple_step (layer.Assign r e) q = []
  simple_step (layer.AssignBits bits r e) q = []
  simple_step (layer.Goto at n) q = []
  simple_step (layer.GotoSwitch at n e) q = []
  simple_step (layer.Call n es) q = []
  simple_step (layer.Answer at e) q = []
  simple_step (layer.Block b) q = b q

  abbrev pub block_step : RawBlock-F Switches Switches Switches Switches Switches Switches → Switches
  block_step b q = joined b.decls q ++ joined b.stmts q

  abbrev pub procedure_step : RawProc-F Switches Switches Switches Switches Switches Switches → Switches
  procedure_step p q = p.body (Some (proc_here numbers p.name.at.token))

  abbrev pub statement_step : RawStmt-F Switches Switches Switches Switches Switches Switches → Switches
  statement_step s q = s.form q

  abbrev pub declaration_switches : RawDecl → Switches
  declaration_switches = fold-RawDecl Switches Switches Switches Switches Switches Switches declaration_step
      form_step simple_step block_step procedure_step statement_step

  abbrev pub form_switches : RawForm → Switches
  form_switches = fold-RawForm Switches Switches Switches Switches Switches Switches declaration_step form_step
      simple_step block_step procedure_step statement_step

  abbrev pub simple_switches : RawSimple → Switches
  simple_switches = fold-RawSimple Switches Switches Switches Switches Switches Switches declaration_step form_step
      simple_step block_step procedure_step statement_step

  abbrev pub block_switches : RawBlock → Switches
  block_switches = fold-RawBlock Switches Switches Switches Switches Switches Switches declaration_step form_step
      simple_step block_step procedure_step statement_step

  abbrev pub procedure_switches : RawProc → Switches
  procedure_switches = fold-RawProc Switches Switches Switches Switches Switches Switches declaration_step form_step
      simple_step block_step procedure_step statement_step

  abbrev pub statement_switches : RawStmt → Switches
  statement_switches = fold-RawStmt Switches Switches Switches Switches Switches Switches declaration_step form_step
      simple_step block_step procedure_step statement_step

  abbrev pub switches_of : Raw → List Switch
  switches_of raw = block_switches raw.block None
