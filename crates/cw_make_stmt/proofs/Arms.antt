-- The trees of a text's statements by which of their forms they are.
use Rattle.std.proofs.Common.{◌≡◌, ◌+◌, ◌≤◌, ◌<◌, ℕ, List, [], ◌∷◌, ◌++◌, map, length, drop, get_or, Option, Some, None, sym, ap, ap₂, ◌∙◌, append_assoc, append-nil}
use Rattle.std.proofs.lemmas.List.{drop_all, drop_more}
use Rattle.cw_tree.specs.declared.leaf.Position.{Position}
use Rattle.cw_tree.specs.declared.leaf.RawName.{RawName}
use Rattle.cw_tree.specs.declared.expression.RawExpr.{RawExpr}
use Rattle.cw_tree.specs.declared.expression.RawRef.{RawRef}
use Rattle.cw_tree.specs.declared.expression.RawCond.{RawCond}
use Rattle.cw_tree.specs.declared.expression.RawBits.{RawBits}
use Rattle.cw_tree.specs.declared.statement.RawFelem.{RawFelem}
use Rattle.cw_tree.specs.declared.statement.RawFelem.TheVariants as felem
use Rattle.cw_tree.specs.declared.statement.RawForm.TheVariants as form
use Rattle.cw_tree.specs.declared.statement.RawSimple.TheVariants as simple
use Rattle.cw_tree.specs.declared.statement.RawForm.{RawForm}
use Rattle.cw_tree.specs.declared.statement.RawSimple.{RawSimple}
use Rattle.cw_tree.specs.declared.statement.RawBlock.{RawBlock, out-RawBlock}
use Rattle.cw_tree.specs.declared.statement.RawStmt.{RawStmt, out-RawStmt}
use Rattle.cw_tree.proofs.Statements.{StatementSteps, statement_steps, of_block-out, of_form-For, of_form-If-None, of_form-If-Some, of_form-Simple, of_simple-Answer, of_simple-Assign, of_simple-AssignBits, of_simple-Block, of_simple-Call, of_simple-Empty, of_simple-Goto, of_simple-GotoSwitch, of_statement-out}
use Rattle.cw_scope.specs.declared.resolve.Named.{Named}
use Rattle.cw_unit.specs.declared.unit.Cond.{Cond}
use Rattle.cw_unit.specs.declared.unit.Ref.{Ref}
use Rattle.cw_unit.specs.declared.unit.Expr.{Expr}
use Rattle.cw_unit.specs.declared.unit.Felem.{Felem}
use Rattle.cw_unit.specs.declared.unit.Felem.TheVariants as element
use Rattle.cw_unit.specs.declared.unit.Stmt.{Stmt}
use Rattle.cw_make_expr.specs.Parts.{Numbers, item_here}
use Rattle.cw_make_expr.specs.Made.{expression_of, condition_of, reference_of}
use Rattle.cw_make_stmt.specs.Made.{line_of, marked, row, conditional, repetition, felem_of, assignment, bits_assignment, jump, switch_jump, call_statement, answer}
use Rattle.cw_make_stmt.specs.Made.{declaration_step, form_step, simple_step, block_step, procedure_step, statement_step, form_of, simple_of, block_of, statement_of}

-- one more of those that a loop makes
pub one_more_made : {X Y : Type 0} (f : X → Y) (xs : List X) (i : ℕ) (x : X) (y y' : Y) (a1 a2 end : List Y) → i < length xs → x ≡ get_or xs i x → y ≡ f x → y' ≡ y
    → a2 ≡ a1 ++ y' ∷ []
    → a1 ++ map f (drop i xs) ≡ end → a2 ++ map f (drop (i + 1) xs) ≡ end
one_more_made f xs i x y y' a1 a2 end h e e1 e2 e3 k =
    ap (λ a. a ++ map f (drop (i + 1) xs)) e3 ∙ append_assoc a1 (y' ∷ []) (map f (drop (i + 1) xs))
    ∙ ap (λ z. a1 ++ z ∷ map f (drop (i + 1) xs)) (e2 ∙ e1 ∙ ap f e) ∙ ap (λ l. a1 ++ map f l) (sym (drop_more xs i x h)) ∙ k

pub none_more_made : {X Y : Type 0} (f : X → Y) (xs : List X) (i : ℕ) (a end : List Y) → length xs ≤ i → a ++ map f (drop i xs) ≡ end → a ≡ end
none_more_made f xs i a end h k = sym (append-nil a) ∙ ap (λ l. a ++ map f l) (sym (drop_all i xs h)) ∙ k

module _ (named : Named) (numbers : Numbers) where
  abbrev steps : StatementSteps Stmt Stmt Stmt Stmt Stmt Stmt
  steps = statement_steps (declaration_step named numbers) (form_step named numbers) (simple_step named numbers) (block_step named numbers) (procedure_step named numbers) (statement_step named numbers)

  of_simple_form : (s : RawSimple) → form_of named numbers (form.Simple s) ≡ simple_of named numbers s
  of_simple_form s = of_form-Simple steps s

  of_if : (at : Position) (test : RawCond) (labels : List RawName) (first : RawSimple)
      → form_of named numbers (form.If at test labels first None) ≡ conditional (line_of at) (condition_of named numbers test)
      (marked numbers labels (simple_of named numbers first)) (row [])
  of_if at test labels first = of_form-If-None steps at test labels first

  of_if_else : (at : Position) (test : RawCond) (labels : List RawName) (first : RawSimple) (s : RawStmt)
      → form_of named numbers (form.If at test labels first (Some s)) ≡ conditional (line_of at) (condition_of named numbers test)
      (marked numbers labels (simple_of named numbers first)) (statement_of named numbers s)
  of_if_else at test labels first s = of_form-If-Some steps at test labels first s

  of_for : (at : Position) (variable : RawRef) (elems : List RawFelem) (body : RawStmt)
      → form_of named numbers (form.For at variable elems body) ≡ repetition (line_of at) (item_here numbers at.token) (reference_of named numbers variable)
      (map (felem_of named numbers) elems) (statement_of named numbers body)
  of_for at variable elems body = of_form-For steps at variable elems body

  of_empty : simple_of named numbers simple.Empty ≡ row []
  of_empty = of_simple-Empty steps

  of_assign : (r : RawRef) (e : RawExpr) → simple_of named numbers (simple.Assign r e) ≡ assignment named numbers r e
  of_assign r e = of_simple-Assign steps r e

  of_assign_bits : (b : RawBits) (r : RawRef) (e : RawExpr) → simple_of named numbers (simple.AssignBits b r e) ≡ bits_assignment named numbers b r e
  of_assign_bits b r e = of_simple-AssignBits steps b r e

  of_goto : (at : Position) (n : RawName) → simple_of named numbers (simple.Goto at n) ≡ jump named numbers at n
  of_goto at n = of_simple-Goto steps at n

  of_goto_switch : (at : Position) (n : RawName) (e : RawExpr) → simple_of named numbers (simple.GotoSwitch at n e) ≡ switch_jump named numbers at n e
  of_goto_switch at n e = of_simple-GotoSwitch steps at n e

  of_call : (n : RawName) (es : List RawExpr) → simple_of named numbers (simple.Call n es) ≡ call_statement named numbers n es
  of_call n es = of_simple-Call steps n es

  of_answer : (at : Position) (e : RawExpr) → simple_of named numbers (simple.Answer at e) ≡ answer named numbers at e
  of_answer at e = of_simple-Answer steps at e

  of_inner_block : (b : RawBlock) → simple_of named numbers (simple.Block b) ≡ block_of named numbers b
  of_inner_block b = of_simple-Block steps b

  of_block : (b : RawBlock) → block_of named numbers b ≡ row (map (statement_of named numbers) (out-RawBlock b).stmts)
  of_block = of_block-out steps

  of_statement : (s : RawStmt) → statement_of named numbers s ≡ marked numbers (out-RawStmt s).labels (form_of named numbers (out-RawStmt s).form)
  of_statement = of_statement-out steps

  -- ---- what is made of the parts is the tree of the whole

  pub statement_made : (s : RawStmt) (f : RawForm) (labels : List RawName) (t z : Stmt) → f ≡ (out-RawStmt s).form → labels ≡ (out-RawStmt s).labels
      → t ≡ form_of named numbers f → z ≡ marked numbers labels t → z ≡ statement_of named numbers s
  statement_made s f labels t z ef el e1 k = k ∙ ap₂ (marked numbers) el (e1 ∙ ap (form_of named numbers) ef) ∙ sym (of_statement s)

  pub simple_form_made : (f : RawForm) (s s' : RawSimple) (z : Stmt) → f ≡ form.Simple s → s' ≡ s → z ≡ simple_of named numbers s' → z ≡ form_of named numbers f
  simple_form_made f s s' z ef es k = k ∙ ap (simple_of named numbers) es ∙ sym (of_simple_form s) ∙ ap (form_of named numbers) (sym ef)

  -- behind THEN: the condition, and the arm behind its labels
  arm_made : (first first' : RawSimple) (labels labels' : List RawName) (a b : Stmt) → first' ≡ first → labels' ≡ labels → a ≡ simple_of named numbers first'
      → b ≡ marked numbers labels' a
      → b ≡ marked numbers labels (simple_of named numbers first)
  arm_made first first' labels labels' a b ef el ea k = k ∙ ap₂ (marked numbers) el (ea ∙ ap (simple_of named numbers) ef)

  pub if_made : (f : RawForm) (at : Position) (test test' : RawCond) (labels labels' : List RawName) (first first' : RawSimple) (second : Option RawStmt) (c : Cond)
      (a b other : Stmt) (line : ℕ) (z : Stmt)
      → f ≡ form.If at test labels first second → second ≡ None → test' ≡ test → labels' ≡ labels → first' ≡ first → c ≡ condition_of named numbers test'
      → a ≡ simple_of named numbers first'
      → b ≡ marked numbers labels' a → other ≡ row [] → line ≡ line_of at → z ≡ conditional line c b other → z ≡ form_of named numbers f
  if_made f at test test' labels labels' first first' second c a b other line z ef es et el e1 ec ea eb eo en k =
      k ∙ ap₂ (λ (line : ℕ) (c : Cond). conditional line c b other) en (ec ∙ ap (condition_of named numbers) et)
      ∙ ap₂ (conditional (line_of at) (condition_of named numbers test)) (arm_made first first' labels labels' a b e1 el ea eb) eo
      ∙ sym (of_if at test labels first) ∙ ap (λ (o : Option RawStmt). form_of named numbers (form.If at test labels first o)) (sym es) ∙ ap (form_of named numbers) (sym ef)

  pub if_else_made : (f : RawForm) (at : Position) (test test' : RawCond) (labels labels' : List RawName) (first first' : RawSimple) (second : Option RawStmt) (s s' : RawStmt)
      (c : Cond) (a b other : Stmt)
      (line : ℕ) (z : Stmt) → f ≡ form.If at test labels first second → second ≡ Some s → test' ≡ test → labels' ≡ labels → first' ≡ first → s' ≡ s
      → c ≡ condition_of named numbers test'
      → a ≡ simple_of named numbers first' → b ≡ marked numbers labels' a → other ≡ statement_of named numbers s' → line ≡ line_of at → z ≡ conditional line c b other
      → z ≡ form_of named numbers f
  if_else_made f at test test' labels labels' first first' second s s' c a b other line z ef es et el e1 e2 ec ea eb eo en k =
      k ∙ ap₂ (λ (line : ℕ) (c : Cond). conditional line c b other) en (ec ∙ ap (condition_of named numbers) et)
      ∙ ap₂ (conditional (line_of at) (condition_of named numbers test)) (arm_made first first' labels labels' a b e1 el ea eb) (eo ∙ ap (statement_of named numbers) e2)
      ∙ sym (of_if_else at test labels first s) ∙ ap (λ (o : Option RawStmt). form_of named numbers (form.If at test labels first o)) (sym es) ∙ ap (form_of named numbers) (sym ef)

  pub for_made : (f : RawForm) (at : Position) (variable variable' : RawRef) (elems elems' : List RawFelem) (body body' : RawStmt) (item line : ℕ) (r : Ref) (es : List Felem)
      (b z : Stmt)
      → f ≡ form.For at variable elems body → variable' ≡ variable → elems' ≡ elems → body' ≡ body → item ≡ item_here numbers at.token → r ≡ reference_of named numbers variable'
      → es ≡ map (felem_of named numbers) elems' → b ≡ statement_of named numbers body' → line ≡ line_of at → z ≡ repetition line item r es b → z ≡ form_of named numbers f
  for_made f at variable variable' elems elems' body body' item line r es b z ef ev ee eb ei er e1 e2 en k =
      k ∙ ap₂ (λ (line item : ℕ). repetition line item r es b) en ei
      ∙ ap₂ (λ (r : Ref) (es : List Felem). repetition (line_of at) (item_here numbers at.token) r es b) (er ∙ ap (reference_of named numbers) ev)
      (e1 ∙ ap (map (felem_of named numbers)) ee)
      ∙ ap (repetition (line_of at) (item_here numbers at.token) (reference_of named numbers variable) (map (felem_of named numbers) elems))
      (e2 ∙ ap (statement_of named numbers) eb)
      ∙ sym (of_for at variable elems body) ∙ ap (form_of named numbers) (sym ef)

  pub empty_made : (s : RawSimple) (z : Stmt) → s ≡ simple.Empty → z ≡ row [] → z ≡ simple_of named numbers s
  empty_made s z es k = k ∙ sym of_empty ∙ ap (simple_of named numbers) (sym es)

  pub assign_made : (s : RawSimple) (r r' : RawRef) (e e' : RawExpr) (z : Stmt) → s ≡ simple.Assign r e → r' ≡ r → e' ≡ e → z ≡ assignment named numbers r' e'
      → z ≡ simple_of named numbers s
  assign_made s r r' e e' z es er ee k = k ∙ ap₂ (assignment named numbers) er ee ∙ sym (of_assign r e) ∙ ap (simple_of named numbers) (sym es)

  pub assign_bits_made : (s : RawSimple) (b b' : RawBits) (r r' : RawRef) (e e' : RawExpr) (z : Stmt) → s ≡ simple.AssignBits b r e → b' ≡ b → r' ≡ r → e' ≡ e
      → z ≡ bits_assignment named numbers b' r' e'
      → z ≡ simple_of named numbers s
  assign_bits_made s b b' r r' e e' z es eb er ee k =
      k ∙ ap (λ x. bits_assignment named numbers x r' e') eb ∙ ap₂ (bits_assignment named numbers b) er ee ∙ sym (of_assign_bits b r e) ∙ ap (simple_of named numbers) (sym es)

  pub goto_made : (s : RawSimple) (at : Position) (n : RawName) (x z : Stmt) → s ≡ simple.Goto at n → x ≡ jump named numbers at n → z ≡ x → z ≡ simple_of named numbers s
  goto_made s at n x z es e1 k = k ∙ e1 ∙ sym (of_goto at n) ∙ ap (simple_of named numbers) (sym es)

  pub goto_switch_made : (s : RawSimple) (at : Position) (n : RawName) (e e' : RawExpr) (z : Stmt) → s ≡ simple.GotoSwitch at n e → e' ≡ e → z ≡ switch_jump named numbers at n e'
      → z ≡ simple_of named numbers s
  goto_switch_made s at n e e' z es ee k = k ∙ ap (switch_jump named numbers at n) ee ∙ sym (of_goto_switch at n e) ∙ ap (simple_of named numbers) (sym es)

  pub call_made : (s : RawSimple) (n : RawName) (es es' : List RawExpr) (z : Stmt) → s ≡ simple.Call n es → es' ≡ es → z ≡ call_statement named numbers n es'
      → z ≡ simple_of named numbers s
  call_made s n es es' z e ee k = k ∙ ap (call_statement named numbers n) ee ∙ sym (of_call n es) ∙ ap (simple_of named numbers) (sym e)

  pub answer_made : (s : RawSimple) (at : Position) (e e' : RawExpr) (z : Stmt) → s ≡ simple.Answer at e → e' ≡ e → z ≡ answer named numbers at e' → z ≡ simple_of named numbers s
  answer_made s at e e' z es ee k = k ∙ ap (answer named numbers at) ee ∙ sym (of_answer at e) ∙ ap (simple_of named numbers) (sym es)

  pub inner_block_made : (s : RawSimple) (b b' : RawBlock) (x z : Stmt) → s ≡ simple.Block b → b' ≡ b → x ≡ block_of named numbers b' → z ≡ x → z ≡ simple_of named numbers s
  inner_block_made s b b' x z es eb e1 k = k ∙ e1 ∙ ap (block_of named numbers) eb ∙ sym (of_inner_block b) ∙ ap (simple_of named numbers) (sym es)

  pub block_made : (b : RawBlock) (ss : List RawStmt) (all : List Stmt) (z : Stmt) → ss ≡ (out-RawBlock b).stmts → all ≡ map (statement_of named numbers) ss → z ≡ row all
      → z ≡ block_of named numbers b
  block_made b ss all z es ea k = k ∙ ap row (ea ∙ ap (map (statement_of named numbers)) es) ∙ sym (of_block b)

  -- ---- the elements of a FOR

  pub one_made : (x : RawFelem) (e e' : RawExpr) (v : Expr) → x ≡ felem.One e → e' ≡ e → v ≡ expression_of named numbers e' → element.One v ≡ felem_of named numbers x
  one_made x e e' v ex ee ev = ap element.One (ev ∙ ap (expression_of named numbers) ee) ∙ ap (felem_of named numbers) (sym ex)

  pub while_made : (x : RawFelem) (e e' : RawExpr) (c c' : RawCond) (v w : Expr) (d : Cond) → x ≡ felem.While e c → e' ≡ e → c' ≡ c → v ≡ expression_of named numbers e' → w ≡ v
      → d ≡ condition_of named numbers c' → element.While w d ≡ felem_of named numbers x
  while_made x e e' c c' v w d ex ee ec ev ew ed =
      ap₂ element.While (ew ∙ ev ∙ ap (expression_of named numbers) ee) (ed ∙ ap (condition_of named numbers) ec) ∙ ap (felem_of named numbers) (sym ex)

  pub step_made : (x : RawFelem) (a a' b b' c c' : RawExpr) (u u' v v' w : Expr) → x ≡ felem.Step a b c → a' ≡ a → b' ≡ b → c' ≡ c → u ≡ expression_of named numbers a' → u' ≡ u
      → v ≡ expression_of named numbers b' → v' ≡ v → w ≡ expression_of named numbers c' → element.Step u' v' w ≡ felem_of named numbers x
  step_made x a a' b b' c c' u u' v v' w ex ea eb ec eu eu' ev ev' ew =
      ap₂ (λ (u v : Expr). element.Step u v w) (eu' ∙ eu ∙ ap (expression_of named numbers) ea) (ev' ∙ ev ∙ ap (expression_of named numbers) eb)
      ∙ ap (element.Step (expression_of named numbers a) (expression_of named numbers b)) (ew ∙ ap (expression_of named numbers) ec) ∙ ap (felem_of named numbers) (sym ex)
