-- Statements, declarations and texts have at least as many tokens as they count.
use Rattle.std.proofs.Common.{◌≡◌, ℕ, suc, ◌+◌, ◌*◌, ◌≤◌, Bool, true, false, List, [], ◌∷◌, length, map, Option, Some, None, arith}
use Rattle.cw_tree.specs.declared.leaf.Position.{Position}
use Rattle.cw_tree.specs.declared.leaf.RawName.{RawName}
use Rattle.cw_tree.specs.declared.leaf.RawType.{RawType}
use Rattle.cw_tree.specs.declared.expression.RawCond.{RawCond}
use Rattle.cw_tree.specs.declared.expression.RawRef.TheVariants as ref_tree
use Rattle.cw_tree.specs.declared.statement.RawDecl.{RawDecl}
use Rattle.cw_tree.specs.declared.statement.RawForm.TheVariants as form_tree
use Rattle.cw_tree.specs.declared.statement.RawSimple.{RawSimple}
use Rattle.cw_tree.specs.declared.statement.RawStmt.{RawStmt, out-RawStmt}
use Rattle.cw_tree.specs.declared.statement.RawParam.{RawParam}
use Rattle.cw_grammar.specs.Tokens.{position}
use Rattle.cw_grammar.specs.Grammar.{a_list, a_pair, an_option, a_from, a_name, a_type, a_table, a_ptag, a_stmt, a_simple, a_felem, a_decl, a_param, a_raw}
use Rattle.cw_grammar.specs.Rules.{name, indexed_name, symbol, ◌<*◌, commas}
use Rattle.cw_grammar.specs.Statements.{semicolons, in_round, listed, simple_behind, unnamed, block_tree, with_label, simple_stmt, simple, if_tree, for_tree, stmt, felem, table, procedure_param, param, ptag, proc_tree, proc_behind, worded_decl, decl, text}
use Rattle.cw_lex.specs.declared.token.Symbol.TheVariants as symbols
use Rattle.cw_tokens.specs.TreeTokens.{total, expr_tokens, cond_tokens, felem_tokens, param_tokens, simple_tokens, form_tokens, stmt_tokens, decl_tokens, text_tokens}
use Rattle.cw_tokens.proofs.Lists.{arguments_most, total_most, all_ones}
use Rattle.cw_tokens.proofs.Layers.{ref-Name, ref-Bare, decl-Data, decl-Overlay, decl-Switch, decl-Proc, form-Simple, if_alone, if_else, form-For, simple-Empty, simple-Assign, simple-AssignBits, simple-Goto, simple-GotoSwitch, simple-Call, simple-Answer, simple-Block, block-made, proc-made, stmt-made, stmt-layer}
use Rattle.cw_tokens.proofs.Counting.{b_one, b_none, b_then, b_left, b_right, b_map, b_opens, b_again, token_counts, name_counts}
use Rattle.cw_tokens.proofs.Built.{behind_else, Built, Counts, some_counts}
use Rattle.cw_tokens.proofs.Expressions.{type_counts, bits_counts, indexed_most, reference_counts, condition_counts, expr_counts}

-- ---- simple statements

simple_most : (n : RawName) {f : RawName → RawSimple} {u : ℕ} → Built (a_from a_name a_simple) simple_behind f u → simple_tokens (f n) ≤ suc u
unfolding simple_behind
simple_most n (b_left (b_map (b_map (b_then {v = v} {y = e} b_one d)))) = omega (arith, simple-Assign (ref_tree.Name n) e, ref-Name n, expr_counts e v d)
simple_most n (b_right (b_left (b_map (b_then (b_opens {x = y} h) (b_map (b_then {v = v} {y = e} b_one d)))))) = omega (arith, simple-Assign (indexed_name n y.0 y.1) e, indexed_most n y.0 y.1, h, expr_counts e v d)
simple_most n (b_right (b_right (b_left (b_map (b_opens {x = es} h))))) = omega (arith, simple-Call n es, arguments_most (map expr_tokens es), h)
simple_most n (b_right (b_right (b_right b_none))) = omega (arith, simple-Call n [])

unnamed_counts : (q : Bool) → Counts a_simple (unnamed q) simple_tokens
unfolding unnamed
unnamed_counts q x u (b_left (b_map (b_then (b_opens {t = t} {x = a} h) (b_map (b_then {v = v} {y = e} b_one d))))) = omega (arith, simple-Assign (ref_tree.Bare (position t) a) e, ref-Bare (position t) a, h, expr_counts e v d)
unnamed_counts q x u (b_right (b_left (b_map (b_then {u = v} {x = z} b (b_then {u = w} {x = r} c (b_map (b_then {v = m} {y = e} b_one d))))))) = omega (arith, simple-AssignBits z r e, bits_counts z v b, reference_counts r w c, expr_counts e m d)
unnamed_counts q x u (b_right (b_right (b_left (b_map (b_then {x = t} b_one (b_then {u = v} {x = n} d (b_left (b_map (b_opens {x = e} h))))))))) = omega (arith, simple-GotoSwitch (position t) n e, name_counts n v d, h)
unnamed_counts q x u (b_right (b_right (b_left (b_map (b_then {x = t} b_one (b_then {u = v} {x = n} d (b_right b_none))))))) = omega (arith, simple-Goto (position t) n, name_counts n v d)
unnamed_counts q x u (b_right (b_right (b_right (b_left (b_map (b_then {v = v} {x = t} {y = e} b_one d)))))) = omega (arith, simple-Answer (position t) e, expr_counts e v d)
unnamed_counts q x u (b_right (b_right (b_right (b_right (b_left (b_map (b_opens {t = t} {x = y} h))))))) = omega (arith, simple-Block (block_tree t y.0 y.1), block-made (position t) y.0 y.1, h)
unnamed_counts q x u (b_right (b_right (b_right (b_right (b_right b_none))))) = omega (arith, simple-Empty)

pub simple_counts : (q : Bool) → Counts (a_pair (a_list a_name) a_simple) (simple q) (λ x. 2 * length x.0 + simple_tokens x.1)
unfolding simple
simple_counts q x u (b_left (b_map (b_then {u = v} {x = n} d (b_left (b_map (b_map (b_then b_one (b_again h)))))))) = omega (arith, name_counts n v d, h)
simple_counts q x u (b_left (b_map (b_then {u = v} {x = n} d (b_right (b_map s))))) = omega (arith, name_counts n v d, simple_most n s)
simple_counts q x u (b_right (b_map {u = v} {x = s} d)) = omega (arith, unnamed_counts q s v d)

-- ---- statements

labelled_most : (n : RawName) (s : RawStmt) → stmt_tokens (with_label n s) ≡ 2 + stmt_tokens s
labelled_most n s = omega (arith, stmt-made (n ∷ (out-RawStmt s).labels) (out-RawStmt s).form, stmt-layer s)

simple_alone : (s : RawSimple) → stmt_tokens (simple_stmt s) ≡ simple_tokens s
simple_alone s = omega (arith, stmt-made [] (form_tree.Simple s), form-Simple s)

if_most : (at : Position) (c : RawCond) (ls : List RawName) (a : RawSimple) (o : Option RawStmt) → form_tokens (form_tree.If at c ls a o) ≤ 2 + (cond_tokens c + (2 * length ls + simple_tokens a + behind_else o))
if_most at c ls a None = omega (arith, if_alone at c ls a)
if_most at c ls a (Some b) = omega (arith, if_else at c ls a b)

pub stmt_counts : (q : Bool) → Counts a_stmt (stmt q) stmt_tokens
unfolding stmt
stmt_counts q x u (b_left (b_map (b_then {u = v} {x = n} d (b_left (b_map (b_map (b_then b_one (b_again {x = s} h)))))))) = omega (arith, labelled_most n s, name_counts n v d, h)
stmt_counts q x u (b_left (b_map (b_then {u = v} {x = n} d (b_right (b_map {x = f} s))))) = omega (arith, simple_alone (f n), name_counts n v d, simple_most n s)
stmt_counts q x u (b_right (b_left (b_map (b_opens {t = t} {x = y} h)))) = omega (arith, stmt-made [] (if_tree t y), if_most (position t) y.0 y.1.0.0 y.1.0.1 y.1.1, h)
stmt_counts q x u (b_right (b_right (b_left (b_map (b_opens {t = t} {x = y} h))))) = omega (arith, stmt-made [] (for_tree t y), form-For (position t) y.0 y.1.0 y.1.1, h)
stmt_counts q x u (b_right (b_right (b_right (b_map {u = v} {x = s} d)))) = omega (arith, simple_alone s, unnamed_counts q s v d)

pub felem_counts : Counts a_felem felem felem_tokens
unfolding felem
felem_counts x u (b_map (b_then {u = v} {x = e} d (b_left (b_map (b_map (b_then {v = w} {y = c} b_one f)))))) = omega (arith, expr_counts e v d, condition_counts c w f)
felem_counts x u (b_map (b_then {u = v} {x = a} d (b_right (b_left (b_map (b_map (b_then b_one (b_then {u = w} {x = b} e (b_map (b_then {v = z} {y = c} b_one f)))))))))) = omega (arith, expr_counts a v d, expr_counts b w e, expr_counts c z f)
felem_counts x u (b_map (b_then {u = v} {x = e} d (b_right (b_right b_none)))) = omega (arith, expr_counts e v d)

-- ---- parameters

-- two tokens for each name but one
names_count : (ns : List RawName) (u : ℕ) → Built (a_list a_name) (commas name) ns u → 2 * length ns ≤ suc u
names_count ns u (b_map (b_then {x = n} {y = more} d l)) = omega (arith, some_counts (λ z. 1) token_counts name_counts d l, all_ones more)

table_counts : Counts a_table table (λ x. 2)
unfolding table
table_counts x u (b_map (b_then b_one (b_then {u = v} {x = n} d e))) = omega (arith, name_counts n v d)

procedure_most : (o : Option RawType) {f : Option RawType → RawParam} {u : ℕ} → Built (a_from (an_option a_type) a_param) procedure_param f u → param_tokens (f o) ≤ u
unfolding procedure_param
procedure_most o (b_map (b_then b_one (b_then {u = v} {x = n} d l))) = omega (arith, name_counts n v d)

param_counts : Counts a_param param param_tokens
unfolding param
param_counts x u (b_left (b_map (b_then {x = t} d (b_left (b_map (b_map (b_then {v = v} {y = ns} b_one l))))))) = omega (arith, type_counts t _ d, names_count ns v l)
param_counts x u (b_left (b_map (b_then {x = t} d (b_right (b_map f))))) = omega (arith, procedure_most (Some t) f)
param_counts x u (b_right (b_left (b_map f))) = procedure_most None f
param_counts x u (b_right (b_right (b_left (b_map (b_then b_one (b_then {v = v} {x = t} {y = ns} d l)))))) = omega (arith, type_counts t _ d, names_count ns v l)
param_counts x u (b_right (b_right (b_right (b_left (b_map (b_then b_one (b_then {v = v} {x = t} {y = ns} d l))))))) = omega (arith, type_counts t _ d, names_count ns v l)
param_counts x u (b_right (b_right (b_right (b_right (b_left (b_map {u = v} {x = t} d)))))) = table_counts t v d
param_counts x u (b_right (b_right (b_right (b_right (b_right (b_left (b_map (b_then {v = v} {y = ns} b_one l)))))))) = omega (arith, names_count ns v l)
param_counts x u (b_right (b_right (b_right (b_right (b_right (b_right (b_map (b_then {v = v} {y = ns} b_one l)))))))) = omega (arith, names_count ns v l)

params_count : {xs : List RawParam} {u : ℕ} → Built (a_list a_param) (listed (in_round (semicolons param))) xs u → total (map param_tokens xs) ≤ u
params_count (b_left (b_map (b_then b_one (b_map (b_then (b_map (b_then {x = p} {y = more} d l)) b_one))))) = omega (arith, some_counts param_tokens token_counts param_counts d l, total_most (map param_tokens more))
params_count (b_right b_none) = omega arith

-- ---- declarations: the semicolon behind one is counted with it

tag_counts : Counts a_ptag ptag (λ x. 1)
unfolding ptag
tag_counts x u (b_left (b_map b_one)) = omega arith
tag_counts x u (b_right (b_map (b_map (b_then b_one d)))) = omega arith

proc_most : (o : Option RawType) {f : Option RawType → RawDecl} {u : ℕ} → Built (a_from (an_option a_type) a_decl) proc_behind f u → decl_tokens (f o) ≤ suc u
unfolding proc_behind
proc_most o (b_map (b_then {u = v} {x = tag} t (b_then {u = w} {x = n} d (b_then {x = ps} l (b_opens {x = s} h))))) = omega (arith, decl-Proc (proc_tree o tag n ps s), proc-made o tag n ps s, tag_counts tag v t, name_counts n w d, params_count l, h)

worded_most : (x : RawDecl) (u : ℕ) → Built a_decl worded_decl x u → decl_tokens x ≤ suc u
unfolding worded_decl
worded_most x u (b_left (b_map {x = y} d)) = omega (arith, decl-Data y)
worded_most x u (b_right (b_left (b_map {x = y} d))) = omega (arith, decl-Overlay (position y.0) y.1.0 y.1.1)
worded_most x u (b_right (b_right (b_map (b_then {x = t} b_one (b_then {u = v} {x = n} d (b_map (b_then {v = w} {y = ns} b_one l))))))) = omega (arith, decl-Switch (position t) n ns, name_counts n v d, names_count ns w l)

decl_most : (q : Bool) (x : RawDecl) (u : ℕ) → Built a_decl (decl q) x u → decl_tokens x ≤ suc u
unfolding decl
decl_most true x u (b_left (b_map (b_then {x = t} d (b_left (b_map {x = f} e))))) = omega (arith, decl-Data (f t))
decl_most true x u (b_left (b_map (b_then {x = t} d (b_right (b_map {x = f} e))))) = omega (arith, decl-Data (f t))
decl_most true x u (b_right d) = worded_most x u d
decl_most false x u (b_left (b_map (b_then {x = t} d (b_left (b_map {x = f} e))))) = omega (arith, decl-Data (f t))
decl_most false x u (b_left (b_map (b_then {x = t} d (b_right (b_left (b_map {x = f} e)))))) = omega (arith, decl-Data (f t))
decl_most false x u (b_left (b_map (b_then {x = t} d (b_right (b_right (b_map e)))))) = omega (arith, proc_most (Some t) e)
decl_most false x u (b_right (b_left d)) = worded_most x u d
decl_most false x u (b_right (b_right (b_map d))) = proc_most None d

pub decl_counts : (q : Bool) → Counts a_decl (decl q <* symbol symbols.Semicolon) decl_tokens
decl_counts q x u (b_map (b_then {u = v} d b_one)) = omega (arith, decl_most q x v d)

-- ---- texts

pub text_counts : Counts a_raw text text_tokens
unfolding text
text_counts x u (b_map (b_then cs (b_then (b_map (b_then {v = v} {y = n} b_one d)) (b_then (b_opens {t = t} {x = y} h) b_one)))) = omega (arith, block-made (position t) y.0 y.1, name_counts n v d, h)
