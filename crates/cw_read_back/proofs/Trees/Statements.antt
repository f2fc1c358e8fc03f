-- Statements, declarations and texts are read as their canonical tokens, the same but for positions.
use Rattle.std.proofs.Common.{◌≡◌, ℕ, suc, Bool, true, false, List, [], ◌∷◌, ◌++◌, map, Option, Some, None, refl, sym, ap, ap₂, ◌∙◌, append_assoc, append-nil}
use Rattle.std.specs.Prelude.{option_map}
use Rattle.cw_lex.specs.declared.token.Symbol.TheVariants as symbols
use Rattle.cw_lex.specs.declared.token.Word.TheVariants as words
use Rattle.cw_tree.specs.declared.leaf.Position.{Position}
use Rattle.cw_tree.specs.declared.leaf.RawName.{RawName}
use Rattle.cw_tree.specs.declared.leaf.RawType.{RawType}
use Rattle.cw_tree.specs.declared.expression.RawBits.{RawBits}
use Rattle.cw_tree.specs.declared.expression.RawExpr.{RawExpr}
use Rattle.cw_tree.specs.declared.expression.RawCond.{RawCond}
use Rattle.cw_tree.specs.declared.expression.RawRef.{RawRef}
use Rattle.cw_tree.specs.declared.expression.RawRef.TheVariants as ref_tree
use Rattle.cw_tree.specs.declared.items.RawTable.{RawTable}
use Rattle.cw_tree.specs.declared.items.RawData.{RawData}
use Rattle.cw_tree.specs.declared.items.RawBase.{RawBase}
use Rattle.cw_tree.specs.declared.statement.RawDecl.TheOpen.{RawStmt-F}
use Rattle.cw_tree.specs.declared.statement.RawDecl.TheViews.{out-roll-RawStmt}
use Rattle.cw_tree.specs.declared.statement.RawDecl.{RawDecl}
use Rattle.cw_tree.specs.declared.statement.RawDecl.TheVariants as decl_tree
use Rattle.cw_tree.specs.declared.statement.RawForm.{RawForm}
use Rattle.cw_tree.specs.declared.statement.RawForm.TheVariants as form_tree
use Rattle.cw_tree.specs.declared.statement.RawSimple.{RawSimple}
use Rattle.cw_tree.specs.declared.statement.RawSimple.TheVariants as simple_tree
use Rattle.cw_tree.specs.declared.statement.RawBlock.{RawBlock, roll-RawBlock}
use Rattle.cw_tree.specs.declared.statement.RawProc.{RawProc}
use Rattle.cw_tree.specs.declared.statement.RawStmt.{RawStmt, out-RawStmt, fold_out-RawStmt}
use Rattle.cw_tree.specs.declared.statement.RawFelem.{RawFelem}
use Rattle.cw_tree.specs.declared.statement.RawFelem.TheVariants as felem_tree
use Rattle.cw_tree.specs.declared.statement.RawPtag.{RawPtag}
use Rattle.cw_tree.specs.declared.statement.RawParam.{RawParam}
use Rattle.cw_tree.specs.declared.statement.RawParam.TheVariants as param_tree
use Rattle.cw_tree.specs.declared.segment.RawIps.{RawIps}
use Rattle.cw_grammar.specs.Tokens.{Item, position}
use Rattle.cw_grammar.specs.Grammar.{a_token, a_pair, a_list, an_option, a_from, a_name, a_type, a_bits, an_expr, a_cond, a_base, a_stmt, a_simple, a_felem, a_decl, a_ptag, a_param, block_rest, opens, again, labelled, labelled_simple}
use Rattle.cw_lex.specs.declared.token.TokenKind.TheVariants as kinds
use Rattle.cw_grammar.specs.Table.{rule, again_rule}
use Rattle.cw_grammar.specs.Rules.{name, bits, condition, expr, indexed_name}
use Rattle.cw_grammar.specs.Statements.{base, ptag, simple_behind, jump, block_tree, unnamed, stmt_tree, simple_stmt, with_label, simple, if_tree, for_tree, stmt, felem, procedure_param, param, proc_tree, proc_behind, worded_decl, decl}
use Rattle.cw_show.specs.Spelling.{word, symbol}
use Rattle.cw_show.specs.Canonical.{Tokens, name as name_spelling, between, listed, comma, semicolon}
use Rattle.cw_show.specs.ExpressionTokens.{bits_tokens, expr_tokens, cond_tokens, ref_tokens}
use Rattle.cw_show.specs.ItemTokens.{base_tokens}
use Rattle.cw_show.specs.SegmentTokens.{answer_tokens, tag, ips_tokens}
use Rattle.cw_show.specs.StatementTokens.{param_tokens, felem_tokens, params_tokens, felems_tokens, labels_tokens, decl_tokens, form_tokens, simple_tokens, block_tokens, stmt_tokens}
use Rattle.cw_read_back.specs.Expressions.Unplaced.{nowhere, unplaced_name, unplaced_type, unplaced_bits, unplaced_expr, unplaced_cond, unplaced_ref}
use Rattle.cw_read_back.specs.Trees.UnplacedItems.{unplaced_base, unplaced_ptag}
use Rattle.cw_read_back.specs.Trees.UnplacedStatements.{unplaced_felem, unplaced_param, unplaced_decl_step, unplaced_form_step, unplaced_simple_step, unplaced_block_step, unplaced_proc_step, unplaced_stmt_step, unplaced_decl, unplaced_form, unplaced_simple, unplaced_block, unplaced_stmt}
use Rattle.cw_read_back.proofs.Expressions.Reading.{Reads, Back, Each, Held, IsSome, word_is, symbol_is, ◌&◌, left, right, mapped, led_back, opened, opened_word, second, first, respelled, nothing, absent_read, present_read, between_read}
use Rattle.cw_read_back.proofs.Expressions.Expressions.{RefRead, Indexes, one_inside, two_inside, subscript_read, bare_same, name_same, called_read}
use Rattle.cw_read_back.proofs.Expressions.ExpressionLayers.{named-tokens, one_index-tokens, two_indexes-tokens, bare-tokens}
use Rattle.cw_read_back.proofs.Trees.Forms.{ap₃, ap₄, started, sectioned_read, ended_read}
use Rattle.cw_read_back.proofs.Trees.Data.{Name, NumberType, TableRead, names_read}
use Rattle.cw_read_back.proofs.Trees.Specifications.{DataRead, IpsRead, tag_tokens, overlay_read, ips_list_read}
use Rattle.cw_read_back.proofs.Trees.StatementLayers.{data_decl-tokens, overlay_decl-tokens, overlay_decl-bare, switch_decl-tokens, switch_decl-bare, proc_decl-tokens, proc_decl-bare, simple_form-tokens, simple_form-bare, if_alone-tokens, if_alone-bare, if_else-tokens, if_else-bare, for_form-tokens, for_form-bare, empty-tokens, assign-tokens, assign-bare, assign_bits-tokens, assign_bits-bare, goto-tokens, goto-bare, goto_switch-tokens, goto_switch-bare, call-tokens, call-bare, answer-tokens, answer-bare, block_form-tokens, block_form-bare, block-tokens, block-bare, proc-tokens, proc-bare, stmt-tokens, stmt-bare}

abbrev pub Expr : ℕ → RawExpr → Type 0
Expr n x = Back n an_expr expr expr_tokens unplaced_expr x

abbrev pub Cond : ℕ → RawCond → Type 0
Cond n x = Back n a_cond condition cond_tokens unplaced_cond x

-- ---- simple statements

-- A simple statement, as a statement and as what has only labels before it.
pub record SimpleRead (n : ℕ) (p : Bool) (x : RawSimple) : Type 0 where
  pub alone : Reads n a_stmt (stmt p) (simple_tokens x) (λ d. unplaced_stmt d ≡ unplaced_stmt (simple_stmt x))
  pub simply : Reads n (a_pair (a_list a_name) a_simple) (simple p) (simple_tokens x) (λ d. (map unplaced_name d.0 ≡ []) × (unplaced_simple d.1 ≡ unplaced_simple x))

simple_same : (d x : RawSimple) → unplaced_simple d ≡ unplaced_simple x → unplaced_stmt (simple_stmt d) ≡ unplaced_stmt (simple_stmt x)
simple_same d x e =
    stmt-bare [] (form_tree.Simple d) ∙ ap (stmt_tree []) (simple_form-bare d ∙ ap (λ v. form_tree.Simple v) e ∙ sym (simple_form-bare x)) ∙ sym (stmt-bare [] (form_tree.Simple x))

-- what stands behind the name that a statement begins with
abbrev BehindName : ℕ → RawName → RawSimple → Tokens → Type 0
BehindName n f x a = Reads n (a_from a_name a_simple) simple_behind a (λ g. (z : RawName) → unplaced_name z ≡ unplaced_name f → unplaced_simple (g z) ≡ unplaced_simple x)

named_simple : {n : ℕ} (p : Bool) (f : RawName) (x : RawSimple) (a : Tokens) → simple_tokens x ≡ name_spelling f.name ∷ a → Name n f → BehindName n f x a → SimpleRead n p x
unfolding stmt simple
named_simple p f x a e h k = record {
  alone = respelled e (left (started {y = f} h (right (mapped k (λ g q z d. simple_same (g z) x (q z d)))))) (λ z q. q);
  simply = respelled e (left (started {y = f} h (right (mapped k (λ g q z d. (refl, q z d)))))) (λ z q. q);
}

unnamed_simple : {n : ℕ} (p : Bool) (x : RawSimple) (a : Tokens) → simple_tokens x ≡ a → Reads n a_simple (unnamed p) a (λ d. unplaced_simple d ≡ unplaced_simple x) → SimpleRead n p x
unfolding stmt simple
unnamed_simple p x a e k = record {
  alone = respelled e (right (right (right (mapped k (λ d q. simple_same d x q))))) (λ z q. q);
  simply = respelled e (right (mapped k (λ d q. (refl, q)))) (λ z q. q);
}

pub empty_read : {n : ℕ} {p : Bool} → SimpleRead n p simple_tree.Empty
unfolding unnamed
empty_read {p = p} = unnamed_simple p simple_tree.Empty [] empty-tokens (right (right (right (right (right (nothing simple_tree.Empty refl))))))

assign_same : (r s : RawRef) (x y : RawExpr) → unplaced_ref s ≡ unplaced_ref r → unplaced_expr y ≡ unplaced_expr x → unplaced_simple (simple_tree.Assign s y) ≡ unplaced_simple (simple_tree.Assign r x)
assign_same r s x y e k = assign-bare s y ∙ ap₂ (λ u v. simple_tree.Assign u v) e k ∙ sym (assign-bare r x)

pub name_assigned : {n : ℕ} {p : Bool} (f : RawName) (x : RawExpr) → Name n f → Expr n x → SimpleRead n p (simple_tree.Assign (ref_tree.Name f) x)
unfolding simple_behind
name_assigned {p = p} f x h k =
    named_simple p f (simple_tree.Assign (ref_tree.Name f) x) (symbol symbols.Assign ∷ expr_tokens x) (assign-tokens (ref_tree.Name f) x ∙ ap (λ u. u ++ symbol symbols.Assign ∷ expr_tokens x) (named-tokens f)) h
    (left (mapped (second (symbol_is symbols.Assign) k) (λ y e z d. assign_same (ref_tree.Name f) (ref_tree.Name z) x y (name_same f z d) e)))

index_assigned : {n : ℕ} {p : Bool} (f : RawName) (r : RawRef) (a : Tokens) (x : RawExpr) → ref_tokens r ≡ name_spelling f.name ∷ symbol symbols.OpenSquare ∷ a → Name (suc n) f → Indexes n f a r → Expr (suc n) x → SimpleRead (suc n) p (simple_tree.Assign r x)
unfolding simple_behind
index_assigned {p = p} f r a x e h k l =
    named_simple p f (simple_tree.Assign r x) ((symbol symbols.OpenSquare ∷ a) ++ symbol symbols.Assign ∷ expr_tokens x) (assign-tokens r x ∙ ap (λ u. u ++ symbol symbols.Assign ∷ expr_tokens x) e) h
    (right (left (mapped (opened symbols.OpenSquare k & second (symbol_is symbols.Assign) l) (λ w q z d. assign_same r (indexed_name z w.0.1.0 w.0.1.1) x w.1 (q.0 z d) q.1))))

pub one_assigned : {n : ℕ} {p : Bool} (f : RawName) (i : RawExpr) (x : RawExpr) → Name (suc n) f → Expr n i → Expr (suc n) x → SimpleRead (suc n) p (simple_tree.Assign (ref_tree.One f i) x)
one_assigned f i x h k l = index_assigned f (ref_tree.One f i) (expr_tokens i ++ symbol symbols.CloseSquare ∷ []) x (one_index-tokens f i) h (one_inside f i k) l

pub two_assigned : {n : ℕ} {p : Bool} (f : RawName) (i j : RawExpr) (x : RawExpr) → Name (suc n) f → Expr n i → Expr n j → Expr (suc n) x → SimpleRead (suc n) p (simple_tree.Assign (ref_tree.Two f i j) x)
two_assigned f i j x h k m l = index_assigned f (ref_tree.Two f i j) (expr_tokens i ++ comma ∷ (expr_tokens j ++ symbol symbols.CloseSquare ∷ [])) x (two_indexes-tokens f i j) h (two_inside f i j k m) l

pub bare_assigned : {n : ℕ} {p : Bool} (at : Position) (i x : RawExpr) → Expr n i → Expr (suc n) x → SimpleRead (suc n) p (simple_tree.Assign (ref_tree.Bare at i) x)
unfolding unnamed
bare_assigned {p = p} at i x h k =
    unnamed_simple p (simple_tree.Assign (ref_tree.Bare at i) x) ((symbol symbols.OpenSquare ∷ (expr_tokens i ++ symbol symbols.CloseSquare ∷ [])) ++ symbol symbols.Assign ∷ expr_tokens x) (assign-tokens (ref_tree.Bare at i) x ∙ ap (λ u. u ++ symbol symbols.Assign ∷ expr_tokens x) (bare-tokens at i))
    (left (mapped (opened symbols.OpenSquare (subscript_read i h) & second (symbol_is symbols.Assign) k) (λ z q. assign_same (ref_tree.Bare at i) (ref_tree.Bare (position z.0.0) z.0.1) x z.1 (bare_same at (position z.0.0) z.0.1 i q.0) q.1)))

pub bits_assigned : {n : ℕ} {p : Bool} (b : RawBits) (r : RawRef) (x : RawExpr) → Back n a_bits bits bits_tokens unplaced_bits b → RefRead n r → Expr n x → SimpleRead n p (simple_tree.AssignBits b r x)
unfolding unnamed
bits_assigned {p = p} b r x h k l =
    unnamed_simple p (simple_tree.AssignBits b r x) (bits_tokens b ++ (ref_tokens r ++ symbol symbols.Assign ∷ expr_tokens x)) (assign_bits-tokens b r x)
    (right (left (mapped (h & k.0 & second (symbol_is symbols.Assign) l) (λ z q. assign_bits-bare z.0 z.1.0 z.1.1 ∙ ap₃ (λ u v w. simple_tree.AssignBits u v w) q.0 q.1.0 q.1.1 ∙ sym (assign_bits-bare b r x)))))

pub goto_read : {n : ℕ} {p : Bool} (at : Position) (f : RawName) → Name n f → SimpleRead n p (simple_tree.Goto at f)
unfolding unnamed
goto_read {p = p} at f h =
    unnamed_simple p (simple_tree.Goto at f) (word words.Goto ∷ name_spelling f.name ∷ []) (goto-tokens at f)
    (right (right (left (mapped (word_is words.Goto refl & h & absent_read) (λ z q. ap (λ o. unplaced_simple (jump z.0 z.1.0 o)) q.1.1 ∙ goto-bare (position z.0) z.1.0 ∙ ap (λ v. simple_tree.Goto nowhere v) q.1.0 ∙ sym (goto-bare at f))))))

jump_same : (t : Item) (at : Position) (f g : RawName) (x : RawExpr) (o : Option (Item × RawExpr)) → unplaced_name g ≡ unplaced_name f → IsSome (λ w. unplaced_expr w.1 ≡ unplaced_expr x) o → unplaced_simple (jump t g o) ≡ unplaced_simple (simple_tree.GotoSwitch at f x)
jump_same t at f g x None e k = absurd k
jump_same t at f g x (Some w) e k = goto_switch-bare (position t) g w.1 ∙ ap₂ (λ u v. simple_tree.GotoSwitch nowhere u v) e k ∙ sym (goto_switch-bare at f x)

pub goto_switch_read : {n : ℕ} {p : Bool} (at : Position) (f : RawName) (x : RawExpr) → Name (suc n) f → Expr n x → SimpleRead (suc n) p (simple_tree.GotoSwitch at f x)
unfolding unnamed
goto_switch_read {p = p} at f x h k =
    unnamed_simple p (simple_tree.GotoSwitch at f x) (word words.Goto ∷ name_spelling f.name ∷ symbol symbols.OpenSquare ∷ (expr_tokens x ++ symbol symbols.CloseSquare ∷ [])) (goto_switch-tokens at f x)
    (right (right (left (mapped (word_is words.Goto refl & h & present_read (opened symbols.OpenSquare (subscript_read x k))) (λ z q. jump_same z.0 at f z.1.0 x z.1.1 q.1.0 q.1.1)))))

pub call_alone_read : {n : ℕ} {p : Bool} (f : RawName) → Name n f → SimpleRead n p (simple_tree.Call f [])
unfolding simple_behind
call_alone_read {p = p} f h = named_simple p f (simple_tree.Call f []) [] (call-tokens f []) h
    (right (right (right (nothing (λ m. simple_tree.Call m []) (λ z d. call-bare z [] ∙ ap (λ v. simple_tree.Call v []) d ∙ sym (call-bare f []))))))

pub call_with_read : {n : ℕ} {p : Bool} (f : RawName) (x : RawExpr) (xs : List RawExpr) → Name (suc n) f → Expr n x × Each (Expr n) xs → SimpleRead (suc n) p (simple_tree.Call f (x ∷ xs))
unfolding simple_behind
call_with_read {p = p} f x xs h k =
    named_simple p f (simple_tree.Call f (x ∷ xs)) (symbol symbols.Open ∷ (between comma (map expr_tokens (x ∷ xs)) ++ symbol symbols.Close ∷ [])) (call-tokens f (x ∷ xs)) h
    (right (right (left (mapped (opened symbols.Open (called_read x xs k)) (λ w q z d. call-bare z w.1 ∙ ap₂ (λ u v. simple_tree.Call u v) d q ∙ sym (call-bare f (x ∷ xs)))))))

pub answer_read : {n : ℕ} {p : Bool} (at : Position) (x : RawExpr) → Expr n x → SimpleRead n p (simple_tree.Answer at x)
unfolding unnamed
answer_read {p = p} at x h =
    unnamed_simple p (simple_tree.Answer at x) (word words.Answer ∷ expr_tokens x) (answer-tokens at x)
    (right (right (right (left (mapped (word_is words.Answer refl & h) (λ z q. answer-bare (position z.0) z.1 ∙ ap (λ v. simple_tree.Answer nowhere v) q.1 ∙ sym (answer-bare at x)))))))

-- ---- blocks

-- a block behind its BEGIN
abbrev pub BlockRead : ℕ → Bool → RawBlock → Type 0
BlockRead n p x = Reads n (a_pair a_token (a_pair (a_list a_decl) (a_list a_stmt))) (opens (kinds.Word words.Begin) (block_rest p)) (block_tokens x) (λ z. unplaced_block (block_tree z.0 z.1.0 z.1.1) ≡ unplaced_block x)

abbrev pub Decl : ℕ → Bool → RawDecl → Type 0
Decl n p x = Back n a_decl (decl p) decl_tokens unplaced_decl x

abbrev pub Stmt : ℕ → Bool → RawStmt → Type 0
Stmt n p x = Back n a_stmt (again (labelled p)) stmt_tokens unplaced_stmt x

abbrev block_with : List RawDecl → List RawStmt → RawBlock
block_with ds xs = roll-RawBlock (record { at = nowhere; decls = ds; stmts = xs })

pub block_read : {n : ℕ} {p : Bool} (at : Position) (ds : List RawDecl) (x : RawStmt) (xs : List RawStmt) → Each (Decl n p) ds → Stmt n p x × Each (Stmt n p) xs → BlockRead (suc n) p (roll-RawBlock (record { at = at; decls = ds; stmts = x ∷ xs }))
unfolding rule
block_read at ds x xs h k = respelled (block-tokens at ds (x ∷ xs))
    (opened_word words.Begin refl (ended_read decl_tokens unplaced_decl ds h & first (between_read stmt_tokens unplaced_stmt semicolon (symbol_is symbols.Semicolon) x xs k) (word_is words.End refl & absent_read)))
    (λ z q. block-bare (position z.0) z.1.0 z.1.1 ∙ ap₂ block_with q.0 q.1 ∙ sym (block-bare at ds (x ∷ xs)))

pub inner_block_read : {n : ℕ} {p : Bool} (x : RawBlock) → BlockRead n p x → SimpleRead n p (simple_tree.Block x)
unfolding unnamed
inner_block_read {p = p} x h =
    unnamed_simple p (simple_tree.Block x) (block_tokens x) (block_form-tokens x)
    (right (right (right (right (left (mapped h (λ z q. block_form-bare (block_tree z.0 z.1.0 z.1.1) ∙ ap (λ v. simple_tree.Block v) q ∙ sym (block_form-bare x))))))))

-- ---- labels

label_bare : (f : RawName) (s : RawStmt) → unplaced_stmt (with_label f s) ≡ with_label (unplaced_name f) (unplaced_stmt s)
label_bare f s =
    stmt-bare (f ∷ (out-RawStmt s).labels) (out-RawStmt s).form
    ∙ sym (ap (λ (y : RawStmt-F RawDecl RawForm RawSimple RawBlock RawProc RawStmt). stmt_tree (unplaced_name f ∷ y.labels) y.form) (out-roll-RawStmt (record { labels = map unplaced_name (out-RawStmt s).labels; form = unplaced_form (out-RawStmt s).form })))
    ∙ sym (ap (with_label (unplaced_name f)) (fold_out-RawStmt RawDecl RawForm RawSimple RawBlock RawProc RawStmt unplaced_decl_step unplaced_form_step unplaced_simple_step unplaced_block_step unplaced_proc_step unplaced_stmt_step s))

label_same : (f g : RawName) (ls : List RawName) (x : RawForm) (s : RawStmt) → unplaced_name g ≡ unplaced_name f → unplaced_stmt s ≡ unplaced_stmt (stmt_tree ls x) → unplaced_stmt (with_label g s) ≡ unplaced_stmt (stmt_tree (f ∷ ls) x)
label_same f g ls x s e k =
    label_bare g s ∙ ap₂ with_label e k ∙ sym (label_bare f (stmt_tree ls x))
    ∙ ap (λ (y : RawStmt-F RawDecl RawForm RawSimple RawBlock RawProc RawStmt). unplaced_stmt (stmt_tree (f ∷ y.labels) y.form)) (out-roll-RawStmt (record { labels = ls; form = x }))

-- a statement that has no labels
abbrev pub FormRead : ℕ → Bool → RawForm → Type 0
FormRead n p x = Reads n a_stmt (stmt p) (form_tokens x) (λ d. unplaced_stmt d ≡ unplaced_stmt (stmt_tree [] x))

labels_read : {n : ℕ} (p : Bool) (ls : List RawName) (x : RawForm) → Each (Name n) ls → FormRead n p x → Reads n a_stmt (stmt p) (labels_tokens ls ++ form_tokens x) (λ d. unplaced_stmt d ≡ unplaced_stmt (stmt_tree ls x))
unfolding stmt again_rule
labels_read p [] x h k = k
labels_read p (l ∷ ls) x h k = left (started {y = l} h.0 (left (mapped (second (symbol_is symbols.Colon) (led_back (labels_read p ls x h.1 k))) (λ s e g d. label_same l g ls x s d e))))

pub stmt_read : {n : ℕ} {p : Bool} (ls : List RawName) (x : RawForm) → Each (Name n) ls → FormRead n p x → Stmt n p (stmt_tree ls x)
unfolding again_rule
stmt_read {p = p} ls x h k = respelled (stmt-tokens ls x) (led_back (labels_read p ls x h k)) (λ z q. q)

-- a simple statement behind its labels
abbrev Labelled : ℕ → Bool → List RawName → RawSimple → Tokens → Type 0
Labelled n p ls x a = Reads n (a_pair (a_list a_name) a_simple) (again (labelled_simple p)) a (λ d. (map unplaced_name d.0 ≡ map unplaced_name ls) × (unplaced_simple d.1 ≡ unplaced_simple x))

labelled_read : {n : ℕ} {p : Bool} (ls : List RawName) (x : RawSimple) → Each (Name n) ls → SimpleRead n p x → Labelled n p ls x (labels_tokens ls ++ simple_tokens x)
unfolding simple again_rule
labelled_read [] x h k = led_back k.simply
labelled_read (l ∷ ls) x h k = led_back (left (started {y = l} h.0 (left (mapped (second (symbol_is symbols.Colon) (labelled_read ls x h.1 k)) (λ s e g d. (ap₂ (λ y ys. y ∷ ys) d e.0, e.1))))))

-- ---- IF and FOR

pub simple_form_read : {n : ℕ} {p : Bool} (x : RawSimple) → SimpleRead n p x → FormRead n p (form_tree.Simple x)
simple_form_read x h = respelled (simple_form-tokens x) h.alone (λ z q. q)

form_same : (d x : RawForm) → unplaced_form d ≡ unplaced_form x → unplaced_stmt (stmt_tree [] d) ≡ unplaced_stmt (stmt_tree [] x)
form_same d x e = stmt-bare [] d ∙ ap (stmt_tree []) e ∙ sym (stmt-bare [] x)

abbrev if_with : Option RawStmt → RawCond → List RawName → RawSimple → RawForm
if_with o t ls x = form_tree.If nowhere t ls x o

alone_same : (at here : Position) (t c : RawCond) (ls ms : List RawName) (x y : RawSimple) (o : Option RawStmt) → unplaced_cond c ≡ unplaced_cond t → map unplaced_name ms ≡ map unplaced_name ls → unplaced_simple y ≡ unplaced_simple x → o ≡ None
    → unplaced_form (form_tree.If here c ms y o) ≡ unplaced_form (form_tree.If at t ls x None)
alone_same at here t c ls ms x y o e k l q =
    ap (λ u. unplaced_form (form_tree.If here c ms y u)) q ∙ if_alone-bare here c ms y ∙ ap₃ (if_with None) e k l ∙ sym (if_alone-bare at t ls x)

abbrev else_with : RawCond → List RawName → RawSimple → RawStmt → RawForm
else_with t ls x s = form_tree.If nowhere t ls x (Some s)

else_same : (at here : Position) (t c : RawCond) (ls ms : List RawName) (x y : RawSimple) (s : RawStmt) (o : Option RawStmt) → unplaced_cond c ≡ unplaced_cond t → map unplaced_name ms ≡ map unplaced_name ls → unplaced_simple y ≡ unplaced_simple x → IsSome (λ d. unplaced_stmt d ≡ unplaced_stmt s) o
    → unplaced_form (form_tree.If here c ms y o) ≡ unplaced_form (form_tree.If at t ls x (Some s))
else_same at here t c ls ms x y s None e k l q = absurd q
else_same at here t c ls ms x y s (Some d) e k l q = if_else-bare here c ms y d ∙ ap₄ else_with e k l q ∙ sym (if_else-bare at t ls x s)

pub if_read : {n : ℕ} {p : Bool} (at : Position) (t : RawCond) (ls : List RawName) (x : RawSimple) → Cond n t → Each (Name n) ls → SimpleRead n p x → FormRead (suc n) p (form_tree.If at t ls x None)
unfolding stmt rule
if_read at t ls x h k l = respelled (if_alone-tokens at t ls x ∙ ap (λ u. word words.If ∷ (cond_tokens t ++ word words.Then ∷ u)) (sym (append_assoc (labels_tokens ls) (simple_tokens x) [])))
    (right (left (mapped (opened_word words.If refl (h & second (word_is words.Then refl) (labelled_read ls x k l) & absent_read))
    (λ z q. form_same (if_tree z.0 z.1) (form_tree.If at t ls x None) (alone_same at (position z.0) t z.1.0 ls z.1.1.0.0 x z.1.1.0.1 z.1.1.1 q.0 q.1.0.0 q.1.0.1 q.1.1))))) (λ z q. q)

pub else_read : {n : ℕ} {p : Bool} (at : Position) (t : RawCond) (ls : List RawName) (x : RawSimple) (s : RawStmt) → Cond (suc n) t → Each (Name (suc n)) ls → SimpleRead (suc n) p x → Stmt n p s → FormRead (suc (suc n)) p (form_tree.If at t ls x (Some s))
unfolding stmt rule
else_read at t ls x s h k l m = respelled (if_else-tokens at t ls x s ∙ ap (λ u. word words.If ∷ (cond_tokens t ++ word words.Then ∷ u)) (sym (append_assoc (labels_tokens ls) (simple_tokens x) (word words.Else ∷ stmt_tokens s))))
    (right (left (mapped (opened_word words.If refl (h & second (word_is words.Then refl) (labelled_read ls x k l) & present_read (mapped (opened_word words.Else refl m) (λ z q. q))))
    (λ z q. form_same (if_tree z.0 z.1) (form_tree.If at t ls x (Some s)) (else_same at (position z.0) t z.1.0 ls z.1.1.0.0 x z.1.1.0.1 s z.1.1.1 q.0 q.1.0.0 q.1.0.1 q.1.1))))) (λ z q. q)

abbrev pub Felem : ℕ → RawFelem → Type 0
Felem n x = Back n a_felem felem felem_tokens unplaced_felem x

abbrev for_with : RawRef → List RawFelem → RawStmt → RawForm
for_with r xs s = form_tree.For nowhere r xs s

for_tokens : (at : Position) (r : RawRef) (xs : List RawFelem) (s : RawStmt) → form_tokens (form_tree.For at r xs s) ≡ word words.For ∷ (ref_tokens r ++ ((symbol symbols.Assign ∷ felems_tokens xs) ++ word words.Do ∷ stmt_tokens s))
for_tokens at r xs s =
    for_form-tokens at r xs s
    ∙ ap (λ u. word words.For ∷ u) (append_assoc (ref_tokens r) (symbol symbols.Assign ∷ (felems_tokens xs ++ word words.Do ∷ [])) (stmt_tokens s))
    ∙ ap (λ u. word words.For ∷ (ref_tokens r ++ symbol symbols.Assign ∷ u)) (append_assoc (felems_tokens xs) (word words.Do ∷ []) (stmt_tokens s))

pub for_read : {n : ℕ} {p : Bool} (at : Position) (r : RawRef) (x : RawFelem) (xs : List RawFelem) (s : RawStmt) → RefRead n r → Felem n x × Each (Felem n) xs → Stmt n p s → FormRead (suc n) p (form_tree.For at r (x ∷ xs) s)
unfolding stmt rule
for_read at r x xs s h k l = respelled (for_tokens at r (x ∷ xs) s)
    (right (right (left (mapped (opened_word words.For refl (h.0 & second (symbol_is symbols.Assign) (between_read felem_tokens unplaced_felem comma (symbol_is symbols.Comma) x xs k) & second (word_is words.Do refl) l))
    (λ z q. form_same (for_tree z.0 z.1) (form_tree.For at r (x ∷ xs) s) (for_form-bare (position z.0) z.1.0 z.1.1.0 z.1.1.1 ∙ ap₃ for_with q.0 q.1.0 q.1.1 ∙ sym (for_form-bare at r (x ∷ xs) s))))))) (λ z q. q)

pub one_felem_read : {n : ℕ} (x : RawExpr) → Expr n x → Felem n (felem_tree.One x)
unfolding felem
one_felem_read x h = respelled (sym (append-nil (expr_tokens x))) (started h (right (right (nothing (λ e. felem_tree.One e) (λ z d. ap (λ v. felem_tree.One v) d))))) (λ z q. q)

pub while_felem_read : {n : ℕ} (x : RawExpr) (t : RawCond) → Expr n x → Cond n t → Felem n (felem_tree.While x t)
unfolding felem
while_felem_read x t h k = started h (left (mapped (second (word_is words.While refl) k) (λ c e z d. ap₂ (λ u v. felem_tree.While u v) d e)))

pub step_felem_read : {n : ℕ} (x y z : RawExpr) → Expr n x → Expr n y → Expr n z → Felem n (felem_tree.Step x y z)
unfolding felem
step_felem_read x y z h k l = started h (right (left (mapped (second (word_is words.Step refl) (k & second (word_is words.Until refl) l)) (λ w e u d. ap₃ (λ a b c. felem_tree.Step a b c) d e.0 e.1))))

-- ---- parameters

abbrev pub Param : ℕ → RawParam → Type 0
Param n x = Back n a_param param param_tokens unplaced_param x

pub value_param_read : {n : ℕ} (at : Position) (t : RawType) (x : RawName) (xs : List RawName) → NumberType n t → Name n x × Each (Name n) xs → Param n (param_tree.Value at t (x ∷ xs))
unfolding param
value_param_read at t x xs h k = right (right (left (mapped (word_is words.Value refl & h & names_read x xs k) (λ z p. ap₂ (λ u v. param_tree.Value nowhere u v) p.1.0 p.1.1))))

pub location_param_read : {n : ℕ} (at : Position) (t : RawType) (x : RawName) (xs : List RawName) → NumberType n t → Name n x × Each (Name n) xs → Param n (param_tree.Location at t (x ∷ xs))
unfolding param
location_param_read at t x xs h k = right (right (right (left (mapped (word_is words.Location refl & h & names_read x xs k) (λ z p. ap₂ (λ u v. param_tree.Location nowhere u v) p.1.0 p.1.1)))))

pub array_param_read : {n : ℕ} (t : RawType) (x : RawName) (xs : List RawName) → NumberType n t → Name n x × Each (Name n) xs → Param n (param_tree.Array t (x ∷ xs))
unfolding param
array_param_read t x xs h k = left (started h (left (mapped (second (word_is words.Array refl) (names_read x xs k)) (λ ns e z d. ap₂ (λ u v. param_tree.Array u v) d e))))

pub table_param_read : {n : ℕ} (t : RawTable) → TableRead n t → Param n (param_tree.Table t)
unfolding param
table_param_read t h = right (right (right (right (left (mapped h (λ z e. ap (λ v. param_tree.Table v) e))))))

pub label_param_read : {n : ℕ} (at : Position) (x : RawName) (xs : List RawName) → Name n x × Each (Name n) xs → Param n (param_tree.Label at (x ∷ xs))
unfolding param
label_param_read at x xs h = right (right (right (right (right (left (mapped (word_is words.Label refl & names_read x xs h) (λ z p. ap (λ v. param_tree.Label nowhere v) p.1)))))))

pub switch_param_read : {n : ℕ} (at : Position) (x : RawName) (xs : List RawName) → Name n x × Each (Name n) xs → Param n (param_tree.Switch at (x ∷ xs))
unfolding param
switch_param_read at x xs h = right (right (right (right (right (right (mapped (word_is words.Switch refl & names_read x xs h) (λ z p. ap (λ v. param_tree.Switch nowhere v) p.1)))))))

procedure_behind : {n : ℕ} (at : Position) (o : Option RawType) (f : RawName) (xs : List RawIps) → Name n f → Each (IpsRead n) xs → Reads n (a_from (an_option a_type) a_param) procedure_param (word words.Procedure ∷ name_spelling f.name ∷ listed comma (map ips_tokens xs)) (λ g. (c : Option RawType) → option_map unplaced_type c ≡ option_map unplaced_type o → unplaced_param (g c) ≡ unplaced_param (param_tree.Proc o at f xs))
unfolding procedure_param
procedure_behind at o f xs h k = mapped (word_is words.Procedure refl & h & ips_list_read xs k) (λ z p c e. ap₃ (λ u v w. param_tree.Proc u nowhere v w) e p.1.0 p.1.1)

pub procedure_param_read : {n : ℕ} (o : Option RawType) (at : Position) (f : RawName) (xs : List RawIps) → Held (NumberType n) o → Name n f → Each (IpsRead n) xs → Param n (param_tree.Proc o at f xs)
unfolding param
procedure_param_read None at f xs h k l = right (left (mapped (procedure_behind at None f xs k l) (λ g p. p None refl)))
procedure_param_read (Some t) at f xs h k l = left (started h (right (mapped (procedure_behind at (Some t) f xs k l) (λ g p z e. p (Some z) (ap (λ v. Some v) e)))))

-- ---- declarations

pub data_decl_read : {n : ℕ} (p : Bool) (x : RawData) → DataRead n x → Decl n p (decl_tree.Data x)
data_decl_read p x h = respelled (data_decl-tokens x) (h.declared p) (λ z q. q)

worded_decl_read : {n : ℕ} (p : Bool) (x : RawDecl) (a : Tokens) → decl_tokens x ≡ a → Reads n a_decl worded_decl a (λ d. unplaced_decl d ≡ unplaced_decl x) → Decl n p x
unfolding decl
worded_decl_read true x a e k = respelled e (right k) (λ z q. q)
worded_decl_read false x a e k = respelled e (right (left k)) (λ z q. q)

pub overlay_decl_read : {n : ℕ} (p : Bool) (at : Position) (x : RawBase) (y : RawData) → Back n a_base base base_tokens unplaced_base x → DataRead n y → Decl n p (decl_tree.Overlay at x y)
unfolding worded_decl
overlay_decl_read p at x y h k = worded_decl_read p (decl_tree.Overlay at x y) _ (overlay_decl-tokens at x y)
    (right (left (mapped (overlay_read x y h k) (λ z q. overlay_decl-bare (position z.0) z.1.0 z.1.1 ∙ ap₂ (λ u v. decl_tree.Overlay nowhere u v) q.0 q.1 ∙ sym (overlay_decl-bare at x y)))))

pub switch_decl_read : {n : ℕ} (p : Bool) (at : Position) (f x : RawName) (xs : List RawName) → Name n f → Name n x × Each (Name n) xs → Decl n p (decl_tree.Switch at f (x ∷ xs))
unfolding worded_decl
switch_decl_read p at f x xs h k = worded_decl_read p (decl_tree.Switch at f (x ∷ xs)) _ (switch_decl-tokens at f (x ∷ xs))
    (right (right (mapped (word_is words.Switch refl & h & second (symbol_is symbols.Assign) (names_read x xs k)) (λ z q. switch_decl-bare (position z.0) z.1.0 z.1.1 ∙ ap₂ (λ u v. decl_tree.Switch nowhere u v) q.1.0 q.1.1 ∙ sym (switch_decl-bare at f (x ∷ xs))))))

abbrev proc_with : RawPtag → RawName → List RawParam → RawStmt → Option RawType → RawProc
proc_with t f ps s o = proc_tree o t f ps s

proc_same : (o c : Option RawType) (t u : RawPtag) (f g : RawName) (ps qs : List RawParam) (s r : RawStmt) → option_map unplaced_type c ≡ option_map unplaced_type o → unplaced_ptag u ≡ unplaced_ptag t → unplaced_name g ≡ unplaced_name f → map unplaced_param qs ≡ map unplaced_param ps → unplaced_stmt r ≡ unplaced_stmt s
    → unplaced_decl (decl_tree.Proc (proc_tree c u g qs r)) ≡ unplaced_decl (decl_tree.Proc (proc_tree o t f ps s))
proc_same o c t u f g ps qs s r e1 e2 e3 e4 e5 =
    proc_decl-bare (proc_tree c u g qs r)
    ∙ ap (λ v. decl_tree.Proc v) (proc-bare c u g qs r ∙ ap (proc_with (unplaced_ptag u) (unplaced_name g) (map unplaced_param qs) (unplaced_stmt r)) e1 ∙ ap₄ (proc_tree (option_map unplaced_type o)) e2 e3 e4 e5 ∙ sym (proc-bare o t f ps s))
    ∙ sym (proc_decl-bare (proc_tree o t f ps s))

-- what stands behind the type of a procedure's answer
abbrev ProcBehind : ℕ → Option RawType → RawPtag → RawName → List RawParam → RawStmt → Type 0
ProcBehind n o t f ps s = Reads n (a_from (an_option a_type) a_decl) proc_behind (tag t ∷ name_spelling f.name ∷ (params_tokens ps ++ semicolon ∷ stmt_tokens s))
    (λ g. (c : Option RawType) → option_map unplaced_type c ≡ option_map unplaced_type o → unplaced_decl (g c) ≡ unplaced_decl (decl_tree.Proc (proc_tree o t f ps s)))

proc_tokens_are : (o : Option RawType) (t : RawPtag) (f : RawName) (ps : List RawParam) (s : RawStmt) → decl_tokens (decl_tree.Proc (proc_tree o t f ps s)) ≡ answer_tokens o ++ tag t ∷ name_spelling f.name ∷ (params_tokens ps ++ semicolon ∷ stmt_tokens s)
proc_tokens_are o t f ps s =
    proc_decl-tokens (proc_tree o t f ps s) ∙ proc-tokens o t f ps s
    ∙ append_assoc (answer_tokens o) (tag t ∷ name_spelling f.name ∷ (params_tokens ps ++ semicolon ∷ [])) (stmt_tokens s)
    ∙ ap (λ u. answer_tokens o ++ tag t ∷ name_spelling f.name ∷ u) (append_assoc (params_tokens ps) (semicolon ∷ []) (stmt_tokens s))

proc_from : {n : ℕ} (o : Option RawType) (t : RawPtag) (f : RawName) (ps : List RawParam) (s : RawStmt) → Held (NumberType n) o → ProcBehind n o t f ps s → Decl n false (decl_tree.Proc (proc_tree o t f ps s))
unfolding decl
proc_from None t f ps s h r = respelled (proc_tokens_are None t f ps s) (right (right (mapped r (λ g p. p None refl)))) (λ z q. q)
proc_from (Some y) t f ps s h r = respelled (proc_tokens_are (Some y) t f ps s) (left (started h (right (right (mapped r (λ g p z e. p (Some z) (ap (λ v. Some v) e))))))) (λ z q. q)

pub proc_read : {n : ℕ} (o : Option RawType) (t : RawPtag) (f : RawName) (ps : List RawParam) (s : RawStmt) → Held (NumberType (suc n)) o → Back (suc n) a_ptag ptag tag_tokens unplaced_ptag t → Name (suc n) f → Each (Param (suc n)) ps → Stmt n true s → Decl (suc n) false (decl_tree.Proc (proc_tree o t f ps s))
unfolding proc_behind rule
proc_read o t f ps s h k l m b = proc_from o t f ps s h
    (mapped (k & l & sectioned_read param_tokens unplaced_param ps m & opened symbols.Semicolon b) (λ z p c e. proc_same o c t z.0 f z.1.0 ps z.1.1.0 s z.1.1.1.1 e p.0 p.1.0 p.1.1.0 p.1.1.1))
