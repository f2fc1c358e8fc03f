-- Statements, declarations and texts have at least as many tokens as their canonical text.
use Rattle.std.proofs.Common.{◌≡◌, ℕ, suc, ◌+◌, ◌≤◌, Bool, true, false, List, [], ◌∷◌, ◌++◌, length, length-append, map, Option, Some, None, sym, ap, ◌∙◌, arith}
use Rattle.cw_lex.specs.declared.token.Symbol.TheVariants as symbols
use Rattle.cw_lex.specs.declared.token.Word.TheVariants as words
use Rattle.cw_tree.specs.declared.leaf.Position.{Position}
use Rattle.cw_tree.specs.declared.leaf.RawName.{RawName}
use Rattle.cw_tree.specs.declared.leaf.RawType.{RawType}
use Rattle.cw_tree.specs.declared.expression.RawCond.{RawCond}
use Rattle.cw_tree.specs.declared.expression.RawExpr.{RawExpr}
use Rattle.cw_tree.specs.declared.expression.RawRef.{RawRef}
use Rattle.cw_tree.specs.declared.expression.RawRef.TheVariants as ref_tree
use Rattle.cw_tree.specs.declared.items.RawData.{RawData}
use Rattle.cw_tree.specs.declared.statement.RawBlock.{roll-RawBlock}
use Rattle.cw_tree.specs.declared.statement.RawDecl.{RawDecl}
use Rattle.cw_tree.specs.declared.statement.RawDecl.TheVariants as decl_tree
use Rattle.cw_tree.specs.declared.statement.RawDecl.TheViews.{roll-out-RawStmt}
use Rattle.cw_tree.specs.declared.statement.RawFelem.{RawFelem}
use Rattle.cw_tree.specs.declared.statement.RawForm.{RawForm}
use Rattle.cw_tree.specs.declared.statement.RawForm.TheVariants as form_tree
use Rattle.cw_tree.specs.declared.statement.RawParam.{RawParam}
use Rattle.cw_tree.specs.declared.statement.RawPtag.{RawPtag}
use Rattle.cw_tree.specs.declared.statement.RawSimple.{RawSimple}
use Rattle.cw_tree.specs.declared.statement.RawSimple.TheVariants as simple_tree
use Rattle.cw_tree.specs.declared.statement.RawStmt.{RawStmt, out-RawStmt}
use Rattle.cw_grammar.specs.Tokens.{position}
use Rattle.cw_grammar.specs.Grammar.{a_list, a_pair, an_option, a_from, a_name, a_type, a_stmt, a_simple, a_felem, a_decl, a_param, a_comm, a_raw}
use Rattle.cw_grammar.specs.Rules.{indexed_name, symbol, ◌<*◌}
use Rattle.cw_grammar.specs.Statements.{simple_behind, unnamed, block_tree, stmt_tree, with_label, simple_stmt, simple, if_tree, for_tree, stmt, felem, procedure_param, param, proc_tree, proc_behind, worded_decl, decl, comm, text}
use Rattle.cw_show.specs.Spelling.{word, symbol as symbol_shown}
use Rattle.cw_show.specs.Canonical.{name as the_name, type_tokens, between, ended, listed, comma, semicolon}
use Rattle.cw_show.specs.ExpressionTokens.{bits_tokens, expr_tokens, cond_tokens, ref_tokens}
use Rattle.cw_show.specs.ItemTokens.{names_tokens, data_tokens}
use Rattle.cw_show.specs.SegmentTokens.{answer_tokens, tag, ips_tokens, comm_tokens}
use Rattle.cw_show.specs.StatementTokens.{param_tokens, felem_tokens, params_tokens, felems_tokens, assignment_tokens, control_tokens, head_tokens, labels_tokens, decl_tokens, form_tokens, simple_tokens, block_tokens, stmt_tokens, canonical_tokens}
use Rattle.cw_read_back.proofs.Trees.StatementLayers.{data_decl-tokens, overlay_decl-tokens, switch_decl-tokens, proc_decl-tokens, simple_form-tokens, if_alone-tokens, if_else-tokens, for_form-tokens, empty-tokens, assign-tokens, assign_bits-tokens, goto-tokens, goto_switch-tokens, call-tokens, answer-tokens, block_form-tokens, block-tokens, proc-tokens, stmt-tokens}
use Rattle.cw_read_back.proofs.Shorter.Lengths.{ended_length, listed_most}
use Rattle.cw_tokens.proofs.Counting.{b_one, b_none, b_then, b_left, b_right, b_map, b_opens, b_again, separated_counts, name_counts}
use Rattle.cw_read_back.proofs.Shorter.Built.{behind_else, Built, Counts}
use Rattle.cw_read_back.proofs.Shorter.Expressions.{type_counts, bits_counts, square_length, ref_name, ref_bare, indexed_most, reference_counts, condition_counts, expr_counts}
use Rattle.cw_read_back.proofs.Shorter.Items.{semicolons_counts, listed_counts, names_counts, table_counts, data_table_counts, singles_counts, arrays_counts, overlay_counts, tag_counts, ips_list_counts, comm_counts}

-- ---- simple statements

assign_length : (r : RawRef) (e : RawExpr) → length (simple_tokens (simple_tree.Assign r e)) ≡ suc (length (ref_tokens r) + length (expr_tokens e))
assign_length r e = let a = ap length (assign-tokens r e) in omega (arith, a, length-append (ref_tokens r) (symbol_shown symbols.Assign ∷ expr_tokens e))

call_most : (n : RawName) (es : List RawExpr) → length (simple_tokens (simple_tree.Call n es)) ≤ 3 + length (between comma (map expr_tokens es))
call_most n es = let a : length (simple_tokens (simple_tree.Call n es)) ≡ suc (length (listed comma (map expr_tokens es))) = ap length (call-tokens n es) in omega (arith, a, listed_most comma expr_tokens es)

simple_most : (n : RawName) {f : RawName → RawSimple} {u : ℕ} → Built (a_from a_name a_simple) simple_behind f u → length (simple_tokens (f n)) ≤ suc u
unfolding simple_behind
simple_most n (b_left (b_map (b_map (b_then {v = v} {y = e} b_one d)))) = omega (arith, assign_length (ref_tree.Name n) e, ref_name n, expr_counts e v d)
simple_most n (b_right (b_left (b_map (b_then (b_opens {x = y} h) (b_map (b_then {v = v} {y = e} b_one d)))))) = omega (arith, assign_length (indexed_name n y.0 y.1) e, indexed_most n y.0 y.1, h, expr_counts e v d)
simple_most n (b_right (b_right (b_left (b_map (b_opens {x = es} h))))) = omega (arith, call_most n es, h)
simple_most n (b_right (b_right (b_right b_none))) = let a = ap length (call-tokens n []) in omega (arith, a)

block_length : (at : Position) (ds : List RawDecl) (ss : List RawStmt) → length (block_tokens (roll-RawBlock (record { at = at; decls = ds; stmts = ss }))) ≡ 2 + (length (ended (map decl_tokens ds)) + length (between semicolon (map stmt_tokens ss)))
block_length at ds ss =
    let a = ap length (block-tokens at ds ss) in
    let b = length-append (ended (map decl_tokens ds)) (between semicolon (map stmt_tokens ss) ++ word words.End ∷ []) in
    let c = length-append (between semicolon (map stmt_tokens ss)) (word words.End ∷ []) in
    omega (arith, a, b, c)

unnamed_counts : (q : Bool) → Counts a_simple (unnamed q) (λ x. length (simple_tokens x))
unfolding unnamed
unnamed_counts q x u (b_left (b_map (b_then (b_opens {t = t} {x = a} h) (b_map (b_then {v = v} {y = e} b_one d))))) = omega (arith, assign_length (ref_tree.Bare (position t) a) e, ref_bare (position t) a, h, expr_counts e v d)
unnamed_counts q x u (b_right (b_left (b_map (b_then {u = v} {x = z} b (b_then {u = w} {x = r} c (b_map (b_then {v = m} {y = e} b_one d))))))) =
    let a = ap length (assign_bits-tokens z r e) in
    omega (arith, a, length-append (bits_tokens z) (assignment_tokens r e), length-append (ref_tokens r) (symbol_shown symbols.Assign ∷ expr_tokens e), bits_counts z v b, reference_counts r w c, expr_counts e m d)
unnamed_counts q x u (b_right (b_right (b_left (b_map (b_then {x = t} b_one (b_then {u = v} {x = n} d (b_left (b_map (b_opens {x = e} h))))))))) =
    let a = ap length (goto_switch-tokens (position t) n e) in
    omega (arith, a, square_length (expr_tokens e), name_counts n v d, h)
unnamed_counts q x u (b_right (b_right (b_left (b_map (b_then {x = t} b_one (b_then {u = v} {x = n} d (b_right b_none))))))) = let a = ap length (goto-tokens (position t) n) in omega (arith, a, name_counts n v d)
unnamed_counts q x u (b_right (b_right (b_right (b_left (b_map (b_then {v = v} {x = t} {y = e} b_one d)))))) = let a = ap length (answer-tokens (position t) e) in omega (arith, a, expr_counts e v d)
unnamed_counts q x u (b_right (b_right (b_right (b_right (b_left (b_map (b_opens {t = t} {x = y} h))))))) = let a = ap length (block_form-tokens (block_tree t y.0 y.1)) in omega (arith, a, block_length (position t) y.0 y.1, h)
unnamed_counts q x u (b_right (b_right (b_right (b_right (b_right b_none))))) = let a = ap length empty-tokens in omega (arith, a)

pub simple_counts : (q : Bool) → Counts (a_pair (a_list a_name) a_simple) (simple q) (λ x. length (labels_tokens x.0) + length (simple_tokens x.1))
unfolding simple
simple_counts q x u (b_left (b_map (b_then {u = v} {x = n} d (b_left (b_map (b_map (b_then b_one (b_again h)))))))) = omega (arith, name_counts n v d, h)
simple_counts q x u (b_left (b_map (b_then {u = v} {x = n} d (b_right (b_map s))))) = omega (arith, name_counts n v d, simple_most n s)
simple_counts q x u (b_right (b_map {u = v} {x = s} d)) = omega (arith, unnamed_counts q s v d)

-- ---- statements

stmt_length : (ls : List RawName) (f : RawForm) → length (stmt_tokens (stmt_tree ls f)) ≡ length (labels_tokens ls) + length (form_tokens f)
stmt_length ls f = ap length (stmt-tokens ls f) ∙ length-append (labels_tokens ls) (form_tokens f)

labelled_length : (n : RawName) (s : RawStmt) → length (stmt_tokens (with_label n s)) ≡ 2 + length (stmt_tokens s)
labelled_length n s =
    let y = out-RawStmt s in
    let a : length (stmt_tokens s) ≡ length (labels_tokens y.labels) + length (form_tokens y.form) = ap (λ z. length (stmt_tokens z)) (sym (roll-out-RawStmt s)) ∙ stmt_length y.labels y.form in
    let b : length (stmt_tokens (with_label n s)) ≡ length (labels_tokens (n ∷ y.labels)) + length (form_tokens y.form) = stmt_length (n ∷ y.labels) y.form in
    omega (arith, a, b)

simple_alone : (s : RawSimple) → length (stmt_tokens (simple_stmt s)) ≡ length (simple_tokens s)
simple_alone s = let a = ap length (simple_form-tokens s) in omega (arith, stmt_length [] (form_tree.Simple s), a)

if_most : (at : Position) (c : RawCond) (ls : List RawName) (a : RawSimple) (o : Option RawStmt) → length (form_tokens (form_tree.If at c ls a o)) ≤ 2 + (length (cond_tokens c) + (length (labels_tokens ls) + length (simple_tokens a) + behind_else o))
if_most at c ls a None =
    let all = ap length (if_alone-tokens at c ls a) in
    let i = length-append (cond_tokens c) (word words.Then ∷ (labels_tokens ls ++ (simple_tokens a ++ []))) in
    let j = length-append (labels_tokens ls) (simple_tokens a ++ []) in
    let k = length-append (simple_tokens a) [] in
    omega (arith, all, i, j, k)
if_most at c ls a (Some b) =
    let all = ap length (if_else-tokens at c ls a b) in
    let i = length-append (cond_tokens c) (word words.Then ∷ (labels_tokens ls ++ (simple_tokens a ++ word words.Else ∷ stmt_tokens b))) in
    let j = length-append (labels_tokens ls) (simple_tokens a ++ word words.Else ∷ stmt_tokens b) in
    let k = length-append (simple_tokens a) (word words.Else ∷ stmt_tokens b) in
    omega (arith, all, i, j, k)

for_length : (at : Position) (r : RawRef) (es : List RawFelem) (s : RawStmt) → length (form_tokens (form_tree.For at r es s)) ≡ 3 + (length (ref_tokens r) + (length (felems_tokens es) + length (stmt_tokens s)))
for_length at r es s =
    let all = ap length (for_form-tokens at r es s) in
    let i = length-append (control_tokens r es) (stmt_tokens s) in
    let j = length-append (ref_tokens r) (symbol_shown symbols.Assign ∷ (felems_tokens es ++ word words.Do ∷ [])) in
    let k = length-append (felems_tokens es) (word words.Do ∷ []) in
    omega (arith, all, i, j, k)

pub stmt_counts : (q : Bool) → Counts a_stmt (stmt q) (λ x. length (stmt_tokens x))
unfolding stmt
stmt_counts q x u (b_left (b_map (b_then {u = v} {x = n} d (b_left (b_map (b_map (b_then b_one (b_again {x = s} h)))))))) = omega (arith, labelled_length n s, name_counts n v d, h)
stmt_counts q x u (b_left (b_map (b_then {u = v} {x = n} d (b_right (b_map {x = f} s))))) = omega (arith, simple_alone (f n), name_counts n v d, simple_most n s)
stmt_counts q x u (b_right (b_left (b_map (b_opens {t = t} {x = y} h)))) = omega (arith, stmt_length [] (if_tree t y), if_most (position t) y.0 y.1.0.0 y.1.0.1 y.1.1, h)
stmt_counts q x u (b_right (b_right (b_left (b_map (b_opens {t = t} {x = y} h))))) = omega (arith, stmt_length [] (for_tree t y), for_length (position t) y.0 y.1.0 y.1.1, h)
stmt_counts q x u (b_right (b_right (b_right (b_map {u = v} {x = s} d)))) = omega (arith, simple_alone s, unnamed_counts q s v d)

pub felem_counts : Counts a_felem felem (λ x. length (felem_tokens x))
unfolding felem
felem_counts x u (b_map (b_then {u = v} {x = e} d (b_left (b_map (b_map (b_then {v = w} {y = c} b_one f)))))) = omega (arith, length-append (expr_tokens e) (word words.While ∷ cond_tokens c), expr_counts e v d, condition_counts c w f)
felem_counts x u (b_map (b_then {u = v} {x = a} d (b_right (b_left (b_map (b_map (b_then b_one (b_then {u = w} {x = b} e (b_map (b_then {v = z} {y = c} b_one f)))))))))) =
    omega (arith, length-append (expr_tokens a) (word words.Step ∷ (expr_tokens b ++ word words.Until ∷ expr_tokens c)), length-append (expr_tokens b) (word words.Until ∷ expr_tokens c), expr_counts a v d, expr_counts b w e, expr_counts c z f)
felem_counts x u (b_map (b_then {u = v} {x = e} d (b_right (b_right b_none)))) = omega (arith, expr_counts e v d)

-- ---- parameters

procedure_most : (o : Option RawType) {f : Option RawType → RawParam} {u : ℕ} → Built (a_from (an_option a_type) a_param) procedure_param f u → length (param_tokens (f o)) ≤ length (answer_tokens o) + u
unfolding procedure_param
procedure_most o (b_map (b_then b_one (b_then {u = v} {v = w} {x = n} {y = is} d l))) = omega (arith, length-append (answer_tokens o) (word words.Procedure ∷ the_name n.name ∷ listed comma (map ips_tokens is)), name_counts n v d, ips_list_counts is w l)

param_counts : Counts a_param param (λ x. length (param_tokens x))
unfolding param
param_counts x u (b_left (b_map (b_then {u = w} {x = t} d (b_left (b_map (b_map (b_then {v = v} {y = ns} b_one l))))))) = omega (arith, length-append (type_tokens t) (word words.Array ∷ names_tokens ns), type_counts t w d, names_counts ns v l)
param_counts x u (b_left (b_map (b_then {u = w} {x = t} d (b_right (b_map f))))) = omega (arith, type_counts t w d, procedure_most (Some t) f)
param_counts x u (b_right (b_left (b_map f))) = omega (arith, procedure_most None f)
param_counts x u (b_right (b_right (b_left (b_map (b_then b_one (b_then {u = w} {v = v} {x = t} {y = ns} d l)))))) = omega (arith, length-append (type_tokens t) (names_tokens ns), type_counts t w d, names_counts ns v l)
param_counts x u (b_right (b_right (b_right (b_left (b_map (b_then b_one (b_then {u = w} {v = v} {x = t} {y = ns} d l))))))) = omega (arith, length-append (type_tokens t) (names_tokens ns), type_counts t w d, names_counts ns v l)
param_counts x u (b_right (b_right (b_right (b_right (b_left (b_map {u = v} {x = t} d)))))) = omega (arith, table_counts t v d)
param_counts x u (b_right (b_right (b_right (b_right (b_right (b_left (b_map (b_then {v = v} {y = ns} b_one l)))))))) = omega (arith, names_counts ns v l)
param_counts x u (b_right (b_right (b_right (b_right (b_right (b_right (b_map (b_then {v = v} {y = ns} b_one l)))))))) = omega (arith, names_counts ns v l)

-- ---- declarations

proc_length : (o : Option RawType) (g : RawPtag) (n : RawName) (ps : List RawParam) (s : RawStmt) → length (decl_tokens (decl_tree.Proc (proc_tree o g n ps s))) ≡ 3 + (length (answer_tokens o) + (length (params_tokens ps) + length (stmt_tokens s)))
proc_length o g n ps s =
    let all = ap length (proc_decl-tokens (proc_tree o g n ps s) ∙ proc-tokens o g n ps s) in
    let i = length-append (head_tokens o g n ps) (stmt_tokens s) in
    let j = length-append (answer_tokens o) (tag g ∷ the_name n.name ∷ (params_tokens ps ++ semicolon ∷ [])) in
    let k = length-append (params_tokens ps) (semicolon ∷ []) in
    omega (arith, all, i, j, k)

proc_most : (o : Option RawType) {f : Option RawType → RawDecl} {u : ℕ} → Built (a_from (an_option a_type) a_decl) proc_behind f u → length (decl_tokens (f o)) ≤ length (answer_tokens o) + u
unfolding proc_behind
proc_most o (b_map (b_then {u = v} {x = g} t (b_then {u = w} {x = n} d (b_then {u = z} {x = ps} l (b_opens {x = s} h))))) =
    omega (arith, proc_length o g n ps s, tag_counts g v t, name_counts n w d, listed_counts semicolon param_tokens (semicolons_counts {s = a_param} {g = param} param_tokens param_counts) ps z l, h)

data_length : (d : RawData) → length (decl_tokens (decl_tree.Data d)) ≡ length (data_tokens d)
data_length d = ap length (data_decl-tokens d)

worded_most : (x : RawDecl) (u : ℕ) → Built a_decl worded_decl x u → length (decl_tokens x) ≤ u
unfolding worded_decl
worded_most x u (b_left (b_map {u = v} {x = y} d)) = omega (arith, data_length y, data_table_counts y v d)
worded_most x u (b_right (b_left (b_map {u = v} {x = y} d))) = let a = ap length (overlay_decl-tokens (position y.0) y.1.0 y.1.1) in omega (arith, a, overlay_counts y v d)
worded_most x u (b_right (b_right (b_map (b_then {x = t} b_one (b_then {u = v} {x = n} d (b_map (b_then {v = w} {y = ns} b_one l))))))) =
    let a = ap length (switch_decl-tokens (position t) n ns) in
    omega (arith, a, name_counts n v d, names_counts ns w l)

decl_most : (q : Bool) (x : RawDecl) (u : ℕ) → Built a_decl (decl q) x u → length (decl_tokens x) ≤ u
unfolding decl
decl_most true x u (b_left (b_map (b_then {u = v} {x = t} d (b_left (b_map {x = f} e))))) = omega (arith, data_length (f t), type_counts t v d, singles_counts t e)
decl_most true x u (b_left (b_map (b_then {u = v} {x = t} d (b_right (b_map {x = f} e))))) = omega (arith, data_length (f t), type_counts t v d, arrays_counts t e)
decl_most true x u (b_right d) = worded_most x u d
decl_most false x u (b_left (b_map (b_then {u = v} {x = t} d (b_left (b_map {x = f} e))))) = omega (arith, data_length (f t), type_counts t v d, singles_counts t e)
decl_most false x u (b_left (b_map (b_then {u = v} {x = t} d (b_right (b_left (b_map {x = f} e)))))) = omega (arith, data_length (f t), type_counts t v d, arrays_counts t e)
decl_most false x u (b_left (b_map (b_then {u = v} {x = t} d (b_right (b_right (b_map e)))))) = omega (arith, type_counts t v d, proc_most (Some t) e)
decl_most false x u (b_right (b_left d)) = worded_most x u d
decl_most false x u (b_right (b_right (b_map d))) = omega (arith, proc_most None d)

-- with the semicolon behind it
pub decl_counts : (q : Bool) → Counts a_decl (decl q <* symbol symbols.Semicolon) (λ x. suc (length (decl_tokens x)))
decl_counts q x u (b_map (b_then {u = v} d b_one)) = omega (arith, decl_most q x v d)

-- ---- texts

ended_comm : Counts a_comm (comm <* symbol symbols.Semicolon) (λ x. suc (length (comm_tokens x)))
ended_comm x u (b_map (b_then {u = v} d b_one)) = omega (arith, comm_counts x v d)

pub text_counts : Counts a_raw text (λ x. length (canonical_tokens x))
unfolding text
text_counts x u (b_map (b_then {x = cs} l (b_then (b_map (b_then {v = v} {y = n} b_one d)) (b_then (b_opens {t = t} {x = y} h) b_one)))) =
    let b = block_tokens (block_tree t y.0 y.1) in
    let i = length-append (ended (map comm_tokens cs)) (word words.Segment ∷ the_name n.name ∷ (b ++ word words.Finish ∷ [])) in
    let j = length-append b (word words.Finish ∷ []) in
    let k = separated_counts (λ z. length (comm_tokens z)) ended_comm l in
    omega (arith, i, j, k, ended_length comm_tokens cs, block_length (position t) y.0 y.1, name_counts n v d, h)
