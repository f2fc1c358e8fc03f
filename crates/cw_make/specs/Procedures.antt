-- The procedures of a unit, in order of the text. A procedure may be declared in each block, so the whole tree is gone through.
-- Official Definition of CORAL 66, "Procedures"; BS 5905, "Procedures".
use Rattle.std.specs.Prelude.{ℕ, List, [], ◌∷◌, ◌++◌, Bool, true, false, Option, Some, None, if◌then◌else◌}
use Rattle.cw_tree.specs.declared.leaf.RawName.{RawName}
use Rattle.cw_tree.specs.declared.segment.Raw.{Raw}
use Rattle.cw_tree.specs.declared.statement.RawParam.{RawParam}
use Rattle.cw_tree.specs.declared.statement.RawParam.TheVariants as raw
use Rattle.cw_number.specs.things.Things.{is_recursive}
use Rattle.cw_scope.specs.declared.resolve.Named.{Named}
use Rattle.cw_number.specs.Numbers.{next_byte}
use Rattle.cw_make_items.specs.Types.{scale_of, answer_of, width_of, plain_spec}
use Rattle.cw_make_stmt.specs.Made.{statement_of}
use Rattle.cw_unit.specs.declared.unit.Param.{Param}
use Rattle.cw_unit.specs.declared.unit.Param.TheVariants as param
use Rattle.cw_unit.specs.declared.unit.Proc.{Proc}
use Rattle.cw_make_items.specs.Lookup.{Numbers, item_here, control_here}
use Rattle.cw_tree.specs.declared.statement.RawDecl.{RawDecl, RawDecl-F}
use Rattle.cw_tree.specs.declared.statement.RawForm.{RawForm}
use Rattle.cw_tree.specs.declared.statement.RawSimple.{RawSimple}
use Rattle.cw_tree.specs.declared.statement.RawBlock.{RawBlock}
use Rattle.cw_tree.specs.declared.statement.RawProc.{RawProc, out-RawProc}
use Rattle.cw_tree.specs.declared.statement.RawStmt.{RawStmt}
use Rattle.cw_tree.specs.declared.statement.RawDecl.TheFolds.{para-RawDecl, para-RawForm, para-RawSimple, para-RawBlock, para-RawProc, para-RawStmt}
use Rattle.cw_tree.specs.declared.statement.RawDecl.TheOpen as layer
use Rattle.cw_tree.specs.declared.statement.RawDecl.TheOpen.{RawForm-F, RawSimple-F, RawBlock-F, RawProc-F, RawStmt-F}

module _ (numbers : Numbers) where
  -- a parameter with this name
  abbrev pub param_of : RawParam → RawName → Param
  param_of (raw.Value at t ns) n = param.Value (item_here numbers n.at.token) (scale_of t)
  param_of (raw.Location at t ns) n = param.Location (item_here numbers n.at.token) (scale_of t)
  param_of (raw.Array t ns) n = param.Array (item_here numbers n.at.token) (scale_of t)
  param_of (raw.Table t) n = param.Table (item_here numbers n.at.token) (width_of t.size)
  param_of (raw.Label at ns) n = param.Label (control_here numbers n.at.token)
  param_of (raw.Switch at ns) n = param.Switch (control_here numbers n.at.token)
  param_of (raw.Proc answer at m ps) n = param.Proc (control_here numbers n.at.token) (plain_spec answer ps)

  abbrev pub each_param : RawParam → List RawName → List Param
  each_param p [] = []
  each_param p (n ∷ ns) = param_of p n ∷ each_param p ns

  abbrev pub params_in : RawParam → List Param
  params_in (raw.Value at t ns) = each_param (raw.Value at t ns) ns
  params_in (raw.Location at t ns) = each_param (raw.Location at t ns) ns
  params_in (raw.Array t ns) = each_param (raw.Array t ns) ns
  params_in (raw.Table t) = param_of (raw.Table t) t.name ∷ []
  params_in (raw.Label at ns) = each_param (raw.Label at ns) ns
  params_in (raw.Switch at ns) = each_param (raw.Switch at ns) ns
  params_in (raw.Proc answer at n ps) = param_of (raw.Proc answer at n ps) n ∷ []

  abbrev pub params_of : List RawParam → List Param
  params_of [] = []
  params_of (p ∷ ps) = params_in p ++ params_of ps

abbrev pub is_control : Param → Bool
is_control (param.Label c) = true
is_control (param.Switch c) = true
is_control (param.Proc c s) = true
is_control _ = false

-- so many and those of a list
abbrev pub controls_from : ℕ → List Param → ℕ
controls_from n [] = n
controls_from n (p ∷ ps) = controls_from (if is_control p then next_byte n else n) ps

abbrev pub Procs : Type 0
Procs = List Proc

-- each part of the text stands beside the procedures that are declared in it
abbrev pub joined : {X : Type 0} → List (X × Procs) → Procs
joined [] = []
joined (p ∷ ps) = p.1 ++ joined ps

abbrev pub procedures_if : {X : Type 0} → Option (X × Procs) → Procs
procedures_if None = []
procedures_if (Some p) = p.1

module _ (named : Named) (numbers : Numbers) where
  abbrev pub proc_of : RawProc → Proc
  proc_of p =
      record {
        name = (out-RawProc p).name.name;
        answer = answer_of (out-RawProc p).answer;
        recursive = is_recursive (out-RawProc p).tag;
        params = params_of numbers (out-RawProc p).params;
        specials = controls_from 0 (params_of numbers (out-RawProc p).params);
        body = statement_of named numbers (out-RawProc p).body;
      }

  abbrev pub declaration_step : RawDecl-F (RawDecl × Procs) (RawForm × Procs) (RawSimple × Procs) (RawBlock × Procs) (RawProc × Procs) (RawStmt × Procs) → Procs
  declaration_step (layer.Data d) = []
  declaration_step (layer.Overlay at b d) = []
  declaration_step (layer.Switch at n labels) = []
  declaration_step (layer.Proc p) = proc_of p.0 ∷ p.1

  abbrev pub form_step : RawForm-F (RawDecl × Procs) (RawForm × Procs) (RawSimple × Procs) (RawBlock × Procs) (RawProc × Procs) (RawStmt × Procs) → Procs
  form_step (layer.Simple s) = s.1
  form_step (layer.If at test labels first second) = first.1 ++ procedures_if second
  form_step (layer.For at variable elems body) = body.1

  abbrev pub simple_step : RawSimple-F (RawDecl × Procs) (RawForm × Procs) (RawSimple × Procs) (RawBlock × Procs) (RawProc × Procs) (RawStmt × Procs) → Procs
  simple_step layer.Empty = []
  simple_step (layer.Assign r e) = []
  simple_step (layer.AssignBits bits r e) = []
  simple_step (layer.Goto at n) = []
  simple_step (layer.GotoSwitch at n e) = []
  simple_step (layer.Call n es) = []
  simple_step (layer.Answer at e) = []
  simple_step (layer.Block b) = b.1

  abbrev pub block_step : RawBlock-F (RawDecl × Procs) (RawForm × Procs) (RawSimple × Procs) (RawBlock × Procs) (RawProc × Procs) (RawStmt × Procs) → Procs
  block_step b = joined b.decls ++ joined b.stmts

  abbrev pub procedure_step : RawProc-F (RawDecl × Procs) (RawForm × Procs) (RawSimple × Procs) (RawBlock × Procs) (RawProc × Procs) (RawStmt × Procs) → Procs
  procedure_step p = p.body.1

  abbrev pub statement_step : RawStmt-F (RawDecl × Procs) (RawForm × Procs) (RawSimple × Procs) (RawBlock × Procs) (RawProc × Procs) (RawStmt × Procs) → Procs
  statement_step s = s.form.1

  unfoldable pub declaration_procs : RawDecl → Procs
  declaration_procs = para-RawDecl Procs Procs Procs Procs Procs Procs declaration_step form_step simple_step block_step procedure_step statement_step

  unfoldable pub form_procs : RawForm → Procs
  form_procs = para-RawForm Procs Procs Procs Procs Procs Procs declaration_step form_step simple_step block_step procedure_step statement_step

  unfoldable pub simple_procs : RawSimple → Procs
  simple_procs = para-RawSimple Procs Procs Procs Procs Procs Procs declaration_step form_step simple_step block_step procedure_step statement_step

  unfoldable pub block_procs : RawBlock → Procs
  block_procs = para-RawBlock Procs Procs Procs Procs Procs Procs declaration_step form_step simple_step block_step procedure_step statement_step

  unfoldable pub procedure_procs : RawProc → Procs
  procedure_procs = para-RawProc Procs Procs Procs Procs Procs Procs declaration_step form_step simple_step block_step procedure_step statement_step

  unfoldable pub statement_procs : RawStmt → Procs
  statement_procs = para-RawStmt Procs Procs Procs Procs Procs Procs declaration_step form_step simple_step block_step procedure_step statement_step

  abbrev pub procs_of : Raw → List Proc
  procs_of raw = block_procs raw.block
