-- Statements and declarations by their first layer: their canonical tokens, and the same with all positions as one.
use Rattle.std.proofs.Common.{◌≡◌, List, [], ◌∷◌, ◌++◌, map, Option, Some, None, ◌∙◌}
use Rattle.std.specs.Prelude.{option_map}
use Rattle.cw_lex.specs.declared.token.Word.TheVariants as words
use Rattle.cw_tree.specs.declared.leaf.Position.{Position}
use Rattle.cw_tree.specs.declared.leaf.RawName.{RawName}
use Rattle.cw_tree.specs.declared.leaf.RawType.{RawType}
use Rattle.cw_tree.specs.declared.expression.RawBits.{RawBits}
use Rattle.cw_tree.specs.declared.expression.RawExpr.{RawExpr}
use Rattle.cw_tree.specs.declared.expression.RawCond.{RawCond}
use Rattle.cw_tree.specs.declared.expression.RawRef.{RawRef}
use Rattle.cw_tree.specs.declared.items.RawData.{RawData}
use Rattle.cw_tree.specs.declared.items.RawBase.{RawBase}
use Rattle.cw_tree.specs.declared.statement.RawFelem.{RawFelem}
use Rattle.cw_tree.specs.declared.statement.RawPtag.{RawPtag}
use Rattle.cw_tree.specs.declared.statement.RawParam.{RawParam}
use Rattle.cw_tree.specs.declared.statement.RawDecl.{RawDecl}
use Rattle.cw_tree.specs.declared.statement.RawForm.{RawForm}
use Rattle.cw_tree.specs.declared.statement.RawSimple.{RawSimple}
use Rattle.cw_tree.specs.declared.statement.RawBlock.{RawBlock, roll-RawBlock, fold-roll-RawBlock}
use Rattle.cw_tree.specs.declared.statement.RawProc.{RawProc, roll-RawProc, fold-roll-RawProc}
use Rattle.cw_tree.specs.declared.statement.RawStmt.{RawStmt, roll-RawStmt, fold-roll-RawStmt}
use Rattle.cw_tree.specs.declared.statement.RawDecl.TheVariants as decl_tree
use Rattle.cw_tree.specs.declared.statement.RawForm.TheVariants as form_tree
use Rattle.cw_tree.specs.declared.statement.RawSimple.TheVariants as simple_tree
use Rattle.cw_tree.proofs.Statements.{StatementSteps, statement_steps, of_declaration-Data, of_declaration-Overlay, of_declaration-Proc, of_declaration-Switch, of_form-For, of_form-If-None, of_form-If-Some, of_form-Simple, of_simple-Answer, of_simple-Assign, of_simple-AssignBits, of_simple-Block, of_simple-Call, of_simple-Empty, of_simple-Goto, of_simple-GotoSwitch}
use Rattle.cw_show.specs.Spelling.{word}
use Rattle.cw_show.specs.Canonical.{Tokens, name, between, ended, listed, comma, semicolon, indexed}
use Rattle.cw_show.specs.ExpressionTokens.{bits_tokens, expr_tokens, cond_tokens}
use Rattle.cw_show.specs.ItemTokens.{data_tokens, overlay_tokens}
use Rattle.cw_show.specs.StatementTokens.{switch_tokens, assignment_tokens, control_tokens, head_tokens, labels_tokens, decl_step, form_step, simple_step, block_step, proc_step, stmt_step, decl_tokens, form_tokens, simple_tokens, block_tokens, proc_tokens, stmt_tokens}
use Rattle.cw_read_back.specs.Expressions.Unplaced.{nowhere, unplaced_name, unplaced_type, unplaced_bits, unplaced_expr, unplaced_cond, unplaced_ref}
use Rattle.cw_read_back.specs.Trees.UnplacedItems.{unplaced_data, unplaced_base, unplaced_ptag}
use Rattle.cw_read_back.specs.Trees.UnplacedStatements.{unplaced_felem, unplaced_param, unplaced_decl_step, unplaced_form_step, unplaced_simple_step, unplaced_block_step, unplaced_proc_step, unplaced_stmt_step, unplaced_decl, unplaced_form, unplaced_simple, unplaced_block, unplaced_proc, unplaced_stmt}

-- what is made of each part: its canonical tokens, and the part with all positions as one

abbrev written : StatementSteps Tokens Tokens Tokens Tokens Tokens Tokens
written = statement_steps decl_step form_step simple_step block_step proc_step stmt_step

abbrev bare : StatementSteps RawDecl RawForm RawSimple RawBlock RawProc RawStmt
bare = statement_steps unplaced_decl_step unplaced_form_step unplaced_simple_step unplaced_block_step unplaced_proc_step unplaced_stmt_step

pub data_decl-tokens : (x : RawData) → decl_tokens (decl_tree.Data x) ≡ data_tokens x
data_decl-tokens x = of_declaration-Data written x

pub data_decl-bare : (x : RawData) → unplaced_decl (decl_tree.Data x) ≡ decl_tree.Data (unplaced_data x)
data_decl-bare x = of_declaration-Data bare x ∙ decl_tree.rolls-Data (unplaced_data x)

pub overlay_decl-tokens : (at : Position) (x : RawBase) (y : RawData) → decl_tokens (decl_tree.Overlay at x y) ≡ overlay_tokens x y
overlay_decl-tokens at x y = of_declaration-Overlay written at x y

pub overlay_decl-bare : (at : Position) (x : RawBase) (y : RawData) → unplaced_decl (decl_tree.Overlay at x y) ≡ decl_tree.Overlay nowhere (unplaced_base x) (unplaced_data y)
overlay_decl-bare at x y = of_declaration-Overlay bare at x y ∙ decl_tree.rolls-Overlay nowhere (unplaced_base x) (unplaced_data y)

pub switch_decl-tokens : (at : Position) (f : RawName) (xs : List RawName) → decl_tokens (decl_tree.Switch at f xs) ≡ switch_tokens f xs
switch_decl-tokens at f xs = of_declaration-Switch written at f xs

pub switch_decl-bare : (at : Position) (f : RawName) (xs : List RawName) → unplaced_decl (decl_tree.Switch at f xs) ≡ decl_tree.Switch nowhere (unplaced_name f) (map unplaced_name xs)
switch_decl-bare at f xs = of_declaration-Switch bare at f xs ∙ decl_tree.rolls-Switch nowhere (unplaced_name f) (map unplaced_name xs)

pub proc_decl-tokens : (x : RawProc) → decl_tokens (decl_tree.Proc x) ≡ proc_tokens x
proc_decl-tokens x = of_declaration-Proc written x

pub proc_decl-bare : (x : RawProc) → unplaced_decl (decl_tree.Proc x) ≡ decl_tree.Proc (unplaced_proc x)
proc_decl-bare x = of_declaration-Proc bare x ∙ decl_tree.rolls-Proc (unplaced_proc x)

pub simple_form-tokens : (x : RawSimple) → form_tokens (form_tree.Simple x) ≡ simple_tokens x
simple_form-tokens x = of_form-Simple written x

pub simple_form-bare : (x : RawSimple) → unplaced_form (form_tree.Simple x) ≡ form_tree.Simple (unplaced_simple x)
simple_form-bare x = of_form-Simple bare x ∙ form_tree.rolls-Simple (unplaced_simple x)

pub if_alone-tokens : (at : Position) (t : RawCond) (ls : List RawName) (x : RawSimple) → form_tokens (form_tree.If at t ls x None) ≡ word words.If ∷ (cond_tokens t ++ word words.Then ∷ (labels_tokens ls ++ (simple_tokens x ++ [])))
if_alone-tokens at t ls x = of_form-If-None written at t ls x

pub if_alone-bare : (at : Position) (t : RawCond) (ls : List RawName) (x : RawSimple) → unplaced_form (form_tree.If at t ls x None) ≡ form_tree.If nowhere (unplaced_cond t) (map unplaced_name ls) (unplaced_simple x) None
if_alone-bare at t ls x = of_form-If-None bare at t ls x ∙ form_tree.rolls-If nowhere (unplaced_cond t) (map unplaced_name ls) (unplaced_simple x) None

pub if_else-tokens : (at : Position) (t : RawCond) (ls : List RawName) (x : RawSimple) (y : RawStmt) → form_tokens (form_tree.If at t ls x (Some y)) ≡ word words.If ∷ (cond_tokens t ++ word words.Then ∷ (labels_tokens ls ++ (simple_tokens x ++ word words.Else ∷ stmt_tokens y)))
if_else-tokens at t ls x y = of_form-If-Some written at t ls x y

pub if_else-bare : (at : Position) (t : RawCond) (ls : List RawName) (x : RawSimple) (y : RawStmt) → unplaced_form (form_tree.If at t ls x (Some y)) ≡ form_tree.If nowhere (unplaced_cond t) (map unplaced_name ls) (unplaced_simple x) (Some (unplaced_stmt y))
if_else-bare at t ls x y = of_form-If-Some bare at t ls x y ∙ form_tree.rolls-If nowhere (unplaced_cond t) (map unplaced_name ls) (unplaced_simple x) (Some (unplaced_stmt y))

pub for_form-tokens : (at : Position) (r : RawRef) (xs : List RawFelem) (y : RawStmt) → form_tokens (form_tree.For at r xs y) ≡ control_tokens r xs ++ stmt_tokens y
for_form-tokens at r xs y = of_form-For written at r xs y

pub for_form-bare : (at : Position) (r : RawRef) (xs : List RawFelem) (y : RawStmt) → unplaced_form (form_tree.For at r xs y) ≡ form_tree.For nowhere (unplaced_ref r) (map unplaced_felem xs) (unplaced_stmt y)
for_form-bare at r xs y = of_form-For bare at r xs y ∙ form_tree.rolls-For nowhere (unplaced_ref r) (map unplaced_felem xs) (unplaced_stmt y)

pub empty-tokens : simple_tokens simple_tree.Empty ≡ []
empty-tokens = of_simple-Empty written

pub assign-tokens : (r : RawRef) (x : RawExpr) → simple_tokens (simple_tree.Assign r x) ≡ assignment_tokens r x
assign-tokens r x = of_simple-Assign written r x

pub assign-bare : (r : RawRef) (x : RawExpr) → unplaced_simple (simple_tree.Assign r x) ≡ simple_tree.Assign (unplaced_ref r) (unplaced_expr x)
assign-bare r x = of_simple-Assign bare r x ∙ simple_tree.rolls-Assign (unplaced_ref r) (unplaced_expr x)

pub assign_bits-tokens : (z : RawBits) (r : RawRef) (x : RawExpr) → simple_tokens (simple_tree.AssignBits z r x) ≡ bits_tokens z ++ assignment_tokens r x
assign_bits-tokens z r x = of_simple-AssignBits written z r x

pub assign_bits-bare : (z : RawBits) (r : RawRef) (x : RawExpr) → unplaced_simple (simple_tree.AssignBits z r x) ≡ simple_tree.AssignBits (unplaced_bits z) (unplaced_ref r) (unplaced_expr x)
assign_bits-bare z r x = of_simple-AssignBits bare z r x ∙ simple_tree.rolls-AssignBits (unplaced_bits z) (unplaced_ref r) (unplaced_expr x)

pub goto-tokens : (at : Position) (f : RawName) → simple_tokens (simple_tree.Goto at f) ≡ word words.Goto ∷ name f.name ∷ []
goto-tokens at f = of_simple-Goto written at f

pub goto-bare : (at : Position) (f : RawName) → unplaced_simple (simple_tree.Goto at f) ≡ simple_tree.Goto nowhere (unplaced_name f)
goto-bare at f = of_simple-Goto bare at f ∙ simple_tree.rolls-Goto nowhere (unplaced_name f)

pub goto_switch-tokens : (at : Position) (f : RawName) (x : RawExpr) → simple_tokens (simple_tree.GotoSwitch at f x) ≡ word words.Goto ∷ name f.name ∷ indexed (expr_tokens x)
goto_switch-tokens at f x = of_simple-GotoSwitch written at f x

pub goto_switch-bare : (at : Position) (f : RawName) (x : RawExpr) → unplaced_simple (simple_tree.GotoSwitch at f x) ≡ simple_tree.GotoSwitch nowhere (unplaced_name f) (unplaced_expr x)
goto_switch-bare at f x = of_simple-GotoSwitch bare at f x ∙ simple_tree.rolls-GotoSwitch nowhere (unplaced_name f) (unplaced_expr x)

pub call-tokens : (f : RawName) (xs : List RawExpr) → simple_tokens (simple_tree.Call f xs) ≡ name f.name ∷ listed comma (map expr_tokens xs)
call-tokens f xs = of_simple-Call written f xs

pub call-bare : (f : RawName) (xs : List RawExpr) → unplaced_simple (simple_tree.Call f xs) ≡ simple_tree.Call (unplaced_name f) (map unplaced_expr xs)
call-bare f xs = of_simple-Call bare f xs ∙ simple_tree.rolls-Call (unplaced_name f) (map unplaced_expr xs)

pub answer-tokens : (at : Position) (x : RawExpr) → simple_tokens (simple_tree.Answer at x) ≡ word words.Answer ∷ expr_tokens x
answer-tokens at x = of_simple-Answer written at x

pub answer-bare : (at : Position) (x : RawExpr) → unplaced_simple (simple_tree.Answer at x) ≡ simple_tree.Answer nowhere (unplaced_expr x)
answer-bare at x = of_simple-Answer bare at x ∙ simple_tree.rolls-Answer nowhere (unplaced_expr x)

pub block_form-tokens : (x : RawBlock) → simple_tokens (simple_tree.Block x) ≡ block_tokens x
block_form-tokens x = of_simple-Block written x

pub block_form-bare : (x : RawBlock) → unplaced_simple (simple_tree.Block x) ≡ simple_tree.Block (unplaced_block x)
block_form-bare x = of_simple-Block bare x ∙ simple_tree.rolls-Block (unplaced_block x)

pub block-tokens : (at : Position) (ds : List RawDecl) (xs : List RawStmt) → block_tokens (roll-RawBlock (record { at = at; decls = ds; stmts = xs })) ≡ word words.Begin ∷ (ended (map decl_tokens ds) ++ (between semicolon (map stmt_tokens xs) ++ word words.End ∷ []))
block-tokens at ds xs = fold-roll-RawBlock Tokens Tokens Tokens Tokens Tokens Tokens
    decl_step form_step simple_step block_step proc_step stmt_step (record { at = at; decls = ds; stmts = xs })

pub block-bare : (at : Position) (ds : List RawDecl) (xs : List RawStmt) → unplaced_block (roll-RawBlock (record { at = at; decls = ds; stmts = xs })) ≡ roll-RawBlock (record { at = nowhere; decls = map unplaced_decl ds; stmts = map unplaced_stmt xs })
block-bare at ds xs = fold-roll-RawBlock RawDecl RawForm RawSimple RawBlock RawProc RawStmt
    unplaced_decl_step unplaced_form_step unplaced_simple_step unplaced_block_step unplaced_proc_step unplaced_stmt_step (record { at = at; decls = ds; stmts = xs })

pub proc-tokens : (o : Option RawType) (t : RawPtag) (f : RawName) (ps : List RawParam) (x : RawStmt) → proc_tokens (roll-RawProc (record { answer = o; tag = t; name = f; params = ps; body = x })) ≡ head_tokens o t f ps ++ stmt_tokens x
proc-tokens o t f ps x = fold-roll-RawProc Tokens Tokens Tokens Tokens Tokens Tokens
    decl_step form_step simple_step block_step proc_step stmt_step (record { answer = o; tag = t; name = f; params = ps; body = x })

pub proc-bare : (o : Option RawType) (t : RawPtag) (f : RawName) (ps : List RawParam) (x : RawStmt) → unplaced_proc (roll-RawProc (record { answer = o; tag = t; name = f; params = ps; body = x })) ≡ roll-RawProc (record { answer = option_map unplaced_type o; tag = unplaced_ptag t; name = unplaced_name f; params = map unplaced_param ps; body = unplaced_stmt x })
proc-bare o t f ps x = fold-roll-RawProc RawDecl RawForm RawSimple RawBlock RawProc RawStmt
    unplaced_decl_step unplaced_form_step unplaced_simple_step unplaced_block_step unplaced_proc_step unplaced_stmt_step (record { answer = o; tag = t; name = f; params = ps; body = x })

pub stmt-tokens : (ls : List RawName) (x : RawForm) → stmt_tokens (roll-RawStmt (record { labels = ls; form = x })) ≡ labels_tokens ls ++ form_tokens x
stmt-tokens ls x = fold-roll-RawStmt Tokens Tokens Tokens Tokens Tokens Tokens
    decl_step form_step simple_step block_step proc_step stmt_step (record { labels = ls; form = x })

pub stmt-bare : (ls : List RawName) (x : RawForm) → unplaced_stmt (roll-RawStmt (record { labels = ls; form = x })) ≡ roll-RawStmt (record { labels = map unplaced_name ls; form = unplaced_form x })
stmt-bare ls x = fold-roll-RawStmt RawDecl RawForm RawSimple RawBlock RawProc RawStmt
    unplaced_decl_step unplaced_form_step unplaced_simple_step unplaced_block_step unplaced_proc_step unplaced_stmt_step (record { labels = ls; form = x })
