-- Statements, declarations and texts with all their positions as one.
use Rattle.std.specs.Prelude.{map, option_map}
use Rattle.cw_tree.specs.declared.statement.RawFelem.{RawFelem}
use Rattle.cw_tree.specs.declared.statement.RawFelem.TheVariants as felem_tree
use Rattle.cw_tree.specs.declared.statement.RawParam.{RawParam}
use Rattle.cw_tree.specs.declared.statement.RawParam.TheVariants as param_tree
use Rattle.cw_tree.specs.declared.statement.RawDecl.TheOpen as layer
use Rattle.cw_tree.specs.declared.statement.RawDecl.TheOpen.{RawDecl-F, RawForm-F, RawSimple-F, RawBlock-F, RawProc-F, RawStmt-F}
use Rattle.cw_tree.specs.declared.statement.RawDecl.{RawDecl, roll-RawDecl, fold-RawDecl}
use Rattle.cw_tree.specs.declared.statement.RawForm.{RawForm, roll-RawForm, fold-RawForm}
use Rattle.cw_tree.specs.declared.statement.RawSimple.{RawSimple, roll-RawSimple, fold-RawSimple}
use Rattle.cw_tree.specs.declared.statement.RawBlock.{RawBlock, roll-RawBlock, fold-RawBlock}
use Rattle.cw_tree.specs.declared.statement.RawProc.{RawProc, roll-RawProc, fold-RawProc}
use Rattle.cw_tree.specs.declared.statement.RawStmt.{RawStmt, roll-RawStmt, fold-RawStmt}
use Rattle.cw_tree.specs.declared.segment.Raw.{Raw}
use Rattle.cw_read_back.specs.Expressions.Unplaced.{nowhere, unplaced_name, unplaced_type, unplaced_bits, unplaced_expr, unplaced_cond, unplaced_ref}
use Rattle.cw_read_back.specs.Trees.UnplacedItems.{unplaced_data, unplaced_base, unplaced_table, unplaced_ptag, unplaced_ips, unplaced_comm}

abbrev pub unplaced_felem : RawFelem → RawFelem
unplaced_felem (felem_tree.One e) = felem_tree.One (unplaced_expr e)
unplaced_felem (felem_tree.While e c) = felem_tree.While (unplaced_expr e) (unplaced_cond c)
unplaced_felem (felem_tree.Step a b c) = felem_tree.Step (unplaced_expr a) (unplaced_expr b) (unplaced_expr c)

abbrev pub unplaced_param : RawParam → RawParam
unplaced_param (param_tree.Value at t ns) = param_tree.Value nowhere (unplaced_type t) (map unplaced_name ns)
unplaced_param (param_tree.Location at t ns) = param_tree.Location nowhere (unplaced_type t) (map unplaced_name ns)
unplaced_param (param_tree.Array t ns) = param_tree.Array (unplaced_type t) (map unplaced_name ns)
unplaced_param (param_tree.Table t) = param_tree.Table (unplaced_table t)
unplaced_param (param_tree.Label at ns) = param_tree.Label nowhere (map unplaced_name ns)
unplaced_param (param_tree.Switch at ns) = param_tree.Switch nowhere (map unplaced_name ns)
unplaced_param (param_tree.Proc answer at n is) = param_tree.Proc (option_map unplaced_type answer) nowhere (unplaced_name n) (map unplaced_ips is)

abbrev pub unplaced_decl_step : RawDecl-F RawDecl RawForm RawSimple RawBlock RawProc RawStmt → RawDecl
unplaced_decl_step (layer.Data d) = roll-RawDecl (layer.Data (unplaced_data d))
unplaced_decl_step (layer.Overlay at b d) = roll-RawDecl (layer.Overlay nowhere (unplaced_base b) (unplaced_data d))
unplaced_decl_step (layer.Switch at n ns) = roll-RawDecl (layer.Switch nowhere (unplaced_name n) (map unplaced_name ns))
unplaced_decl_step (layer.Proc p) = roll-RawDecl (layer.Proc p)

abbrev pub unplaced_form_step : RawForm-F RawDecl RawForm RawSimple RawBlock RawProc RawStmt → RawForm
unplaced_form_step (layer.Simple s) = roll-RawForm (layer.Simple s)
unplaced_form_step (layer.If at c ls a b) = roll-RawForm (layer.If nowhere (unplaced_cond c) (map unplaced_name ls) a b)
unplaced_form_step (layer.For at r es body) = roll-RawForm (layer.For nowhere (unplaced_ref r) (map unplaced_felem es) body)

abbrev pub unplaced_simple_step : RawSimple-F RawDecl RawForm RawSimple RawBlock RawProc RawStmt → RawSimple
unplaced_simple_step layer.Empty = roll-RawSimple layer.Empty
unplaced_simple_step (layer.Assign r e) = roll-RawSimple (layer.Assign (unplaced_ref r) (unplaced_expr e))
unplaced_simple_step (layer.AssignBits b r e) = roll-RawSimple (layer.AssignBits (unplaced_bits b) (unplaced_ref r) (unplaced_expr e))
unplaced_simple_step (layer.Goto at n) = roll-RawSimple (layer.Goto nowhere (unplaced_name n))
unplaced_simple_step (layer.GotoSwitch at n e) = roll-RawSimple (layer.GotoSwitch nowhere (unplaced_name n) (unplaced_expr e))
unplaced_simple_step (layer.Call f xs) = roll-RawSimple (layer.Call (unplaced_name f) (map unplaced_expr xs))
unplaced_simple_step (layer.Answer at e) = roll-RawSimple (layer.Answer nowhere (unplaced_expr e))
unplaced_simple_step (layer.Block b) = roll-RawSimple (layer.Block b)

abbrev pub unplaced_block_step : RawBlock-F RawDecl RawForm RawSimple RawBlock RawProc RawStmt → RawBlock
unplaced_block_step b = roll-RawBlock (record { at = nowhere; decls = b.decls; stmts = b.stmts })

abbrev pub unplaced_proc_step : RawProc-F RawDecl RawForm RawSimple RawBlock RawProc RawStmt → RawProc
unplaced_proc_step p = roll-RawProc (record {
  answer = option_map unplaced_type p.answer;
  tag = unplaced_ptag p.tag;
  name = unplaced_name p.name;
  params = map unplaced_param p.params;
  body = p.body;
})

abbrev pub unplaced_stmt_step : RawStmt-F RawDecl RawForm RawSimple RawBlock RawProc RawStmt → RawStmt
unplaced_stmt_step s = roll-RawStmt (record { labels = map unplaced_name s.labels; form = s.form })

abbrev pub unplaced_decl : RawDecl → RawDecl
unplaced_decl = fold-RawDecl RawDecl RawForm RawSimple RawBlock RawProc RawStmt
    unplaced_decl_step unplaced_form_step unplaced_simple_step unplaced_block_step unplaced_proc_step unplaced_stmt_step

abbrev pub unplaced_form : RawForm → RawForm
unplaced_form = fold-RawForm RawDecl RawForm RawSimple RawBlock RawProc RawStmt
    unplaced_decl_step unplaced_form_step unplaced_simple_step unplaced_block_step unplaced_proc_step unplaced_stmt_step

abbrev pub unplaced_simple : RawSimple → RawSimple
unplaced_simple = fold-RawSimple RawDecl RawForm RawSimple RawBlock RawProc RawStmt
    unplaced_decl_step unplaced_form_step unplaced_simple_step unplaced_block_step unplaced_proc_step unplaced_stmt_step

abbrev pub unplaced_block : RawBlock → RawBlock
unplaced_block = fold-RawBlock RawDecl RawForm RawSimple RawBlock RawProc RawStmt
    unplaced_decl_step unplaced_form_step unplaced_simple_step unplaced_block_step unplaced_proc_step unplaced_stmt_step

abbrev pub unplaced_proc : RawProc → RawProc
unplaced_proc = fold-RawProc RawDecl RawForm RawSimple RawBlock RawProc RawStmt
    unplaced_decl_step unplaced_form_step unplaced_simple_step unplaced_block_step unplaced_proc_step unplaced_stmt_step

abbrev pub unplaced_stmt : RawStmt → RawStmt
unplaced_stmt = fold-RawStmt RawDecl RawForm RawSimple RawBlock RawProc RawStmt
    unplaced_decl_step unplaced_form_step unplaced_simple_step unplaced_block_step unplaced_proc_step unplaced_stmt_step

-- the text's tree, whose number of tokens is as one too
abbrev pub unplaced : Raw → Raw
unplaced r = record { name = r.name; comms = map unplaced_comm r.comms; block = unplaced_block r.block; tokens = 0 }
