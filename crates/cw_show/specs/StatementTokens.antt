-- The canonical tokens of statements, and of a segment.
use Rattle.std.specs.Prelude.{ℕ, Bool, true, false, List, [], ◌∷◌, ◌++◌, map, Option, Some, None}
use Rattle.cw_lex.specs.declared.token.Symbol.TheVariants as symbols
use Rattle.cw_lex.specs.declared.token.Word.TheVariants as words
use Rattle.cw_tree.specs.declared.leaf.RawName.{RawName}
use Rattle.cw_tree.specs.declared.leaf.RawType.{RawType}
use Rattle.cw_tree.specs.declared.statement.RawFelem.{RawFelem}
use Rattle.cw_tree.specs.declared.statement.RawParam.{RawParam}
use Rattle.cw_tree.specs.declared.statement.RawFelem.TheVariants as felems
use Rattle.cw_tree.specs.declared.statement.RawParam.TheVariants as params
use Rattle.cw_tree.specs.declared.statement.RawDecl.TheOpen as layer
use Rattle.cw_tree.specs.declared.statement.RawDecl.TheOpen.{RawDecl-F, RawForm-F, RawSimple-F, RawBlock-F, RawProc-F, RawStmt-F}
use Rattle.cw_tree.specs.declared.statement.RawDecl.{RawDecl, fold-RawDecl}
use Rattle.cw_tree.specs.declared.statement.RawForm.{RawForm, fold-RawForm}
use Rattle.cw_tree.specs.declared.statement.RawSimple.{RawSimple, fold-RawSimple}
use Rattle.cw_tree.specs.declared.statement.RawBlock.{RawBlock, fold-RawBlock}
use Rattle.cw_tree.specs.declared.statement.RawProc.{RawProc, fold-RawProc}
use Rattle.cw_tree.specs.declared.statement.RawStmt.{RawStmt, fold-RawStmt}
use Rattle.cw_tree.specs.declared.expression.RawExpr.{RawExpr}
use Rattle.cw_tree.specs.declared.expression.RawRef.{RawRef}
use Rattle.cw_tree.specs.declared.statement.RawPtag.{RawPtag}
use Rattle.cw_tree.specs.declared.segment.Raw.{Raw}
use Rattle.cw_show.specs.Spelling.{Spelling, word, symbol, text_of}
use Rattle.cw_show.specs.Canonical.{Tokens, name, type_tokens, between, joined, ended, listed, comma, semicolon, indexed}
use Rattle.cw_show.specs.ExpressionTokens.{bits_tokens, expr_tokens, cond_tokens, ref_tokens}
use Rattle.cw_show.specs.ItemTokens.{names_tokens, data_tokens, overlay_tokens, table_with}
use Rattle.cw_show.specs.SegmentTokens.{answer_tokens, tag, ips_tokens, comm_tokens}

abbrev pub param_tokens : RawParam → Tokens
param_tokens (params.Value at t ns) = word words.Value ∷ (type_tokens t ++ names_tokens ns)
param_tokens (params.Location at t ns) = word words.Location ∷ (type_tokens t ++ names_tokens ns)
param_tokens (params.Array t ns) = type_tokens t ++ word words.Array ∷ names_tokens ns
param_tokens (params.Table t) = table_with t []
param_tokens (params.Label at ns) = word words.Label ∷ names_tokens ns
param_tokens (params.Switch at ns) = word words.Switch ∷ names_tokens ns
param_tokens (params.Proc answer at n is) = answer_tokens answer ++ word words.Procedure ∷ name n.name ∷ listed comma (map ips_tokens is)

abbrev pub felem_tokens : RawFelem → Tokens
felem_tokens (felems.One e) = expr_tokens e
felem_tokens (felems.While e c) = expr_tokens e ++ word words.While ∷ cond_tokens c
felem_tokens (felems.Step a b c) = expr_tokens a ++ word words.Step ∷ (expr_tokens b ++ word words.Until ∷ expr_tokens c)

abbrev pub params_tokens : List RawParam → Tokens
params_tokens ps = listed semicolon (map param_tokens ps)

abbrev pub felems_tokens : List RawFelem → Tokens
felems_tokens es = between comma (map felem_tokens es)

-- SWITCH name := name , ..
abbrev pub switch_tokens : RawName → List RawName → Tokens
switch_tokens n ns = word words.Switch ∷ name n.name ∷ symbol symbols.Assign ∷ names_tokens ns

-- ref := expr
abbrev pub assignment_tokens : RawRef → RawExpr → Tokens
assignment_tokens r e = ref_tokens r ++ symbol symbols.Assign ∷ expr_tokens e

-- FOR ref := felem , .. DO
abbrev pub control_tokens : RawRef → List RawFelem → Tokens
control_tokens r es = word words.For ∷ (ref_tokens r ++ symbol symbols.Assign ∷ (felems_tokens es ++ word words.Do ∷ []))

-- what stands before a procedure's body
abbrev pub head_tokens : Option RawType → RawPtag → RawName → List RawParam → Tokens
head_tokens answer t n ps = answer_tokens answer ++ tag t ∷ name n.name ∷ (params_tokens ps ++ semicolon ∷ [])

-- name :
abbrev pub label_tokens : RawName → Tokens
label_tokens n = name n.name ∷ symbol symbols.Colon ∷ []

abbrev pub labels_tokens : List RawName → Tokens
labels_tokens ns = joined (map label_tokens ns)

abbrev pub else_tokens : Option Tokens → Tokens
else_tokens None = []
else_tokens (Some x) = word words.Else ∷ x

abbrev pub decl_step : RawDecl-F Tokens Tokens Tokens Tokens Tokens Tokens → Tokens
decl_step (layer.Data d) = data_tokens d
decl_step (layer.Overlay at b d) = overlay_tokens b d
decl_step (layer.Switch at n ns) = switch_tokens n ns
decl_step (layer.Proc p) = p

abbrev pub form_step : RawForm-F Tokens Tokens Tokens Tokens Tokens Tokens → Tokens
form_step (layer.Simple s) = s
form_step (layer.If at c ls a b) = word words.If ∷ (cond_tokens c ++ word words.Then ∷ (labels_tokens ls ++ (a ++ else_tokens b)))
form_step (layer.For at r es body) = control_tokens r es ++ body

abbrev pub simple_step : RawSimple-F Tokens Tokens Tokens Tokens Tokens Tokens → Tokens
simple_step layer.Empty = []
simple_step (layer.Assign r e) = assignment_tokens r e
simple_step (layer.AssignBits b r e) = bits_tokens b ++ assignment_tokens r e
simple_step (layer.Goto at n) = word words.Goto ∷ name n.name ∷ []
simple_step (layer.GotoSwitch at n e) = word words.Goto ∷ name n.name ∷ indexed (expr_tokens e)
simple_step (layer.Call f xs) = name f.name ∷ listed comma (map expr_tokens xs)
simple_step (layer.Answer at e) = word words.Answer ∷ expr_tokens e
simple_step (layer.Block b) = b

abbrev pub block_step : RawBlock-F Tokens Tokens Tokens Tokens Tokens Tokens → Tokens
block_step b = word words.Begin ∷ (ended b.decls ++ (between semicolon b.stmts ++ word words.End ∷ []))

abbrev pub proc_step : RawProc-F Tokens Tokens Tokens Tokens Tokens Tokens → Tokens
proc_step p = head_tokens p.answer p.tag p.name p.params ++ p.body

abbrev pub stmt_step : RawStmt-F Tokens Tokens Tokens Tokens Tokens Tokens → Tokens
stmt_step s = labels_tokens s.labels ++ s.form

abbrev pub decl_tokens : RawDecl → Tokens
decl_tokens = fold-RawDecl Tokens Tokens Tokens Tokens Tokens Tokens
    decl_step form_step simple_step block_step proc_step stmt_step

abbrev pub form_tokens : RawForm → Tokens
form_tokens = fold-RawForm Tokens Tokens Tokens Tokens Tokens Tokens
    decl_step form_step simple_step block_step proc_step stmt_step

abbrev pub simple_tokens : RawSimple → Tokens
simple_tokens = fold-RawSimple Tokens Tokens Tokens Tokens Tokens Tokens
    decl_step form_step simple_step block_step proc_step stmt_step

abbrev pub block_tokens : RawBlock → Tokens
block_tokens = fold-RawBlock Tokens Tokens Tokens Tokens Tokens Tokens
    decl_step form_step simple_step block_step proc_step stmt_step

abbrev pub proc_tokens : RawProc → Tokens
proc_tokens = fold-RawProc Tokens Tokens Tokens Tokens Tokens Tokens
    decl_step form_step simple_step block_step proc_step stmt_step

abbrev pub stmt_tokens : RawStmt → Tokens
stmt_tokens = fold-RawStmt Tokens Tokens Tokens Tokens Tokens Tokens
    decl_step form_step simple_step block_step proc_step stmt_step

-- the canonical tokens of a tree
abbrev pub canonical_tokens : Raw → Tokens
canonical_tokens r = ended (map comm_tokens r.comms) ++ word words.Segment ∷ name r.name ∷ (block_tokens r.block ++ word words.Finish ∷ [])

-- the text of a tree: its tokens, each with a blank or the end of the line behind it
abbrev pub canonical_text : Raw → List ℕ
canonical_text r = text_of (canonical_tokens r)
