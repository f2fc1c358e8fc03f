-- What is made of a statement in normal form, with what is declared in it, has no more tokens than it: by induction over the normal form.
use Rattle.std.proofs.Common.{◌≡◌, ℕ, suc, ◌+◌, ◌*◌, ◌≤◌, Bool, false, List, [], ◌∷◌, length, map, Some, None, refl, ap, subst, arith}
use Rattle.cw_tree.specs.declared.leaf.RawName.{RawName}
use Rattle.cw_tree.specs.declared.expression.RawExpr.{RawExpr}
use Rattle.cw_tree.specs.declared.segment.Raw.{Raw}
use Rattle.cw_tree.specs.declared.statement.RawDecl.{RawDecl}
use Rattle.cw_tree.specs.declared.statement.RawDecl.TheOpen as layer
use Rattle.cw_tree.specs.declared.statement.RawDecl.TheVariants as decl_tree
use Rattle.cw_tree.specs.declared.statement.RawForm.{RawForm}
use Rattle.cw_tree.specs.declared.statement.RawForm.TheVariants as form_tree
use Rattle.cw_tree.specs.declared.statement.RawSimple.{RawSimple}
use Rattle.cw_tree.specs.declared.statement.RawSimple.TheVariants as simple_tree
use Rattle.cw_tree.specs.declared.statement.RawBlock.{RawBlock}
use Rattle.cw_tree.specs.declared.statement.RawStmt.{RawStmt}
use Rattle.cw_tree.specs.declared.statement.RawFelem.{RawFelem}
use Rattle.cw_grammar.specs.Grammar.{Sort, a_list, a_felem, a_stmt, a_form, a_simple, a_block, a_decl, a_raw, Value}
use Rattle.cw_grammar.specs.Statements.{proc_tree}
use Rattle.cw_derived.specs.NormalForm as normal
use Rattle.cw_derived.specs.NormalForm.{IsNormal}
use Rattle.cw_amount.specs.Amounts.{place_amount}
use Rattle.cw_scope.specs.declared.resolve.Named.{Named}
use Rattle.cw_scale.specs.Kinds.{signature_of}
use Rattle.cw_number.specs.Numbers.{numbers_of}
use Rattle.cw_make_expr.specs.Parts.{Numbers, within, number_of, item_here, params_of}
use Rattle.cw_make_expr.specs.Made.{expression_of, condition_of, reference_of, target, arguments}
use Rattle.cw_make_expr.specs.Made as expressions
use Rattle.cw_make_stmt.specs.Made as made
use Rattle.cw_make_stmt.specs.Made.{line_of, ref_position, felem_of}
use Rattle.cw_make.specs.Made.{unit_of}
use Rattle.cw_make.specs.Procedures as procs
use Rattle.cw_make.specs.Switches as switches
use Rattle.cw_make.specs.Switches.{goals_of}
use Rattle.cw_tokens.specs.LeastTokens as least
use Rattle.cw_tokens.specs.LeastTokens.{separated, each_argument, element_tokens, each_element, least_tokens}
use Rattle.cw_tokens.specs.TreeTokens as tree
use Rattle.cw_tokens.specs.TreeTokens.{text_tokens}
use Rattle.cw_sound.proofs.Tokens.Parts.{Each, no_item, an_item, sizes_of}
use Rattle.cw_sound.proofs.Tokens.Primaries.{arguments_least}
use Rattle.cw_sound.proofs.Tokens.Expressions.{SizedExpression, counted}
use Rattle.cw_sound.proofs.Tokens.StatementNodes.{SizedStatement, SizedBody, SizedDeclaration, each_given, put_sized, put_bits_sized, jump_sized, switch_sized, called_sized, answer_sized, empty_sized, marked_sized, if_sized, for_sized, block_sized, body_stated}
use Rattle.cw_sound.proofs.Tokens.StatementLayers.{declaration_rolls, form_rolls, simple_rolls, block_rolls, procedure_rolls, statement_rolls}

module _ (named : Named) (numbers : Numbers) where
  abbrev SizedDecl : RawDecl → Type 0
  SizedDecl x = SizedDeclaration (procs.declaration_procs named numbers x) (switches.declaration_switches named numbers x) (tree.decl_tokens x)

  abbrev SizedForm : RawForm → Type 0
  SizedForm x = SizedStatement (made.form_of named numbers x) (procs.form_procs named numbers x) (switches.form_switches named numbers x) (tree.form_tokens x)

  abbrev SizedSimple : RawSimple → Type 0
  SizedSimple x = SizedStatement (made.simple_of named numbers x) (procs.simple_procs named numbers x) (switches.simple_switches named numbers x) (tree.simple_tokens x)

  abbrev pub SizedBlock : RawBlock → Type 0
  SizedBlock x = SizedBody (made.block_of named numbers x) (procs.block_procs named numbers x) (switches.block_switches named numbers x) (tree.block_tokens x)

  abbrev pub SizedStmt : RawStmt → Type 0
  SizedStmt x = SizedStatement (made.statement_of named numbers x) (procs.statement_procs named numbers x) (switches.statement_switches named numbers x) (tree.stmt_tokens x)

  -- of each tree of a statement
  abbrev pub IsStated : (z : Sort) → Value z → Type 0
  IsStated (a_list z) x = Each (Value z) (λ y. IsStated z y) x
  IsStated a_decl x = SizedDecl x
  IsStated a_form x = SizedForm x
  IsStated a_simple x = SizedSimple x
  IsStated a_block x = SizedBlock x
  IsStated a_stmt x = SizedStmt x
  IsStated a_felem x = element_tokens (felem_of named numbers x) ≤ tree.felem_tokens x
  IsStated _ x = Unit {0}

  -- ---- parts

  elements_fit : {es : List RawFelem} → Each RawFelem (λ e. element_tokens (felem_of named numbers e) ≤ tree.felem_tokens e) es → separated (each_element (map (felem_of named numbers) es)) ≤ separated (map tree.felem_tokens es)
  elements_fit no_item = omega arith
  elements_fit (an_item h k) = let a = elements_fit k in omega (arith, h, a)

  pub call_counted : (f : RawName) {xs : List RawExpr} → Each RawExpr (λ x. SizedExpression named numbers x) xs → least.arguments (each_argument (arguments named numbers f (map (expressions.expression_made named numbers) xs))) ≤ least.arguments (map tree.expr_tokens xs)
  call_counted f {xs = xs} h =
      let args = arguments named numbers f (map (expressions.expression_made named numbers) xs) in
      let a = ap least.arguments (each_given args) in
      let b = arguments_least (params_of (signature_of named f)) (sizes_of (expressions.expression_made named numbers) tree.expr_tokens h) in
      omega (arith, a, b)

  call_fits : (f : RawName) {xs : List RawExpr} → Each RawExpr (λ x. SizedExpression named numbers x) xs → SizedSimple (simple_tree.Call f xs)
  call_fits f {xs = xs} h =
      let args = arguments named numbers f (map (expressions.expression_made named numbers) xs) in
      subst SizedSimple (simple_tree.rolls-Call f xs) (simple_rolls named numbers (layer.Call f xs)
      (called_sized (line_of f.at) (target named numbers f) args (least.arguments (map tree.expr_tokens xs)) (call_counted f h)))

  nothing_declared : SizedDeclaration [] (λ q. []) 0
  nothing_declared = record { fits = λ q. omega arith }

  goals_counted : (ns : List RawName) → length (goals_of named numbers ns) ≡ length ns
  goals_counted [] = refl
  goals_counted (n ∷ ns) = ap suc (goals_counted ns)

  switch_declared : (ns : List RawName) → SizedDeclaration [] (λ q. record { proc = q; list = goals_of named numbers ns } ∷ []) (3 + 2 * length ns)
  switch_declared ns = record { fits = λ q. let a = goals_counted ns in omega (arith, a) }

  -- ---- so of each tree

  pub stated : {n : ℕ} {p : Bool} {z : Sort} {x : Value z} {a : List ℕ} → IsNormal n p z x a → IsStated z x
  stated normal.no_more = no_item
  stated (normal.one_more h k) = an_item (stated h) (stated k)
  stated normal.no_statement = subst SizedSimple simple_tree.rolls-Empty (simple_rolls named numbers layer.Empty empty_sized)
  stated (normal.assignment {r = r} {x = x} h k) =
      subst SizedSimple (simple_tree.rolls-Assign r x) (simple_rolls named numbers (layer.Assign r x)
      (put_sized (line_of (ref_position r)) (reference_of named numbers r) (expression_of named numbers x) (tree.ref_tokens r) (tree.expr_tokens x) (counted named numbers h).place ((counted named numbers k).made false)))
  stated (normal.bits_assignment {z = z} {r = r} {x = x} o h k) =
      subst SizedSimple (simple_tree.rolls-AssignBits z r x) (simple_rolls named numbers (layer.AssignBits z r x)
      (put_bits_sized (line_of z.at) (within 255 (place_amount z.size.first)) (within 255 (place_amount z.size.second)) (reference_of named numbers r) (expression_of named numbers x) (tree.ref_tokens r) (tree.expr_tokens x)
      (counted named numbers h).place ((counted named numbers k).made false)))
  stated (normal.jump_to at {f = f} h) = subst SizedSimple (simple_tree.rolls-Goto at f) (simple_rolls named numbers (layer.Goto at f) (jump_sized (line_of at) (number_of named numbers f)))
  stated (normal.jump_through at {f = f} {x = x} h k) =
      subst SizedSimple (simple_tree.rolls-GotoSwitch at f x) (simple_rolls named numbers (layer.GotoSwitch at f x)
      (switch_sized (line_of at) (number_of named numbers f) (expression_of named numbers x) (tree.expr_tokens x) ((counted named numbers k).made false)))
  stated (normal.called_alone {f = f} h) = call_fits f no_item
  stated (normal.called_with {f = f} h k) = call_fits f (counted named numbers k)
  stated (normal.is_answer at {x = x} h) =
      subst SizedSimple (simple_tree.rolls-Answer at x) (simple_rolls named numbers (layer.Answer at x) (answer_sized (line_of at) (expression_of named numbers x) (tree.expr_tokens x) ((counted named numbers h).made false)))
  stated (normal.inner_block {x = x} h) = subst SizedSimple (simple_tree.rolls-Block x) (simple_rolls named numbers (layer.Block x) (body_stated (stated h)))
  stated (normal.is_block at {ds = ds} {x = x} {xs = xs} h k) =
      block_rolls named numbers (record { at = at; decls = ds; stmts = x ∷ xs })
      (block_sized (procs.declaration_procs named numbers) (switches.declaration_switches named numbers) tree.decl_tokens (made.statement_of named numbers) (procs.statement_procs named numbers) (switches.statement_switches named numbers) tree.stmt_tokens (stated h) (stated k))
  stated (normal.is_stmt {ls = ls} {x = x} h k) = statement_rolls named numbers (record { labels = ls; form = x }) (marked_sized numbers ls (stated k))
  stated (normal.simple_form {x = x} h) = subst SizedForm (form_tree.rolls-Simple x) (form_rolls named numbers (layer.Simple x) (stated h))
  stated (normal.if_form at {t = t} {ls = ls} {x = x} h l k) =
      subst SizedForm (form_tree.rolls-If at t ls x None) (form_rolls named numbers (layer.If at t ls x None)
      (if_sized (line_of at) (condition_of named numbers t) (tree.cond_tokens t) (counted named numbers h) (marked_sized numbers ls (stated k)) empty_sized))
  stated (normal.else_form at {t = t} {ls = ls} {x = x} {y = y} h l k m) =
      subst SizedForm (form_tree.rolls-If at t ls x (Some y)) (form_rolls named numbers (layer.If at t ls x (Some y))
      (if_sized (line_of at) (condition_of named numbers t) (tree.cond_tokens t) (counted named numbers h) (marked_sized numbers ls (stated k)) (stated m)))
  stated (normal.for_form at {r = r} {x = x} {xs = xs} {y = y} h k l) =
      subst SizedForm (form_tree.rolls-For at r (x ∷ xs) y) (form_rolls named numbers (layer.For at r (x ∷ xs) y)
      (for_sized (line_of at) (item_here numbers at.token) (reference_of named numbers r) (map (felem_of named numbers) (x ∷ xs)) (tree.ref_tokens r) (separated (map tree.felem_tokens (x ∷ xs)))
      (counted named numbers h).place (elements_fit (stated k)) (stated l)))
  stated (normal.one_felem h) = (counted named numbers h).made false
  stated (normal.while_felem h k) =
      let a = (counted named numbers h).made false in
      let b = counted named numbers k in
      omega (arith, a, b)
  stated (normal.step_felem h k l) =
      let a = (counted named numbers h).made false in
      let b = (counted named numbers k).made false in
      let c = (counted named numbers l).made false in
      omega (arith, a, b, c)
  stated (normal.data_decl {x = x} h) = subst SizedDecl (decl_tree.rolls-Data x) (declaration_rolls named numbers (layer.Data x) nothing_declared)
  stated (normal.overlay_decl at {x = x} {y = y} h k) = subst SizedDecl (decl_tree.rolls-Overlay at x y) (declaration_rolls named numbers (layer.Overlay at x y) nothing_declared)
  stated (normal.switch_decl at {f = f} {x = x} {xs = xs} h k) = subst SizedDecl (decl_tree.rolls-Switch at f (x ∷ xs)) (declaration_rolls named numbers (layer.Switch at f (x ∷ xs)) (switch_declared (x ∷ xs)))
  stated (normal.proc_decl {o = o} {t = t} {f = f} {xs = xs} {x = x} ko kt kf kx h) =
      subst SizedDecl (decl_tree.rolls-Proc (proc_tree o t f xs x)) (declaration_rolls named numbers (layer.Proc (proc_tree o t f xs x))
      (procedure_rolls named numbers (record { answer = o; tag = t; name = f; params = xs; body = x }) (stated h)))
  stated _ = tt

  pub block_stated : {n : ℕ} {x : Raw} {a : List ℕ} → IsNormal n false a_raw x a → SizedBlock x.block
  block_stated (normal.is_raw f tokens h e k) = stated k

pub unit_least : (named : Named) {n : ℕ} {a : List ℕ} → IsNormal n false a_raw named.raw.now a → least_tokens (unit_of named) ≤ text_tokens named.raw.now
unit_least named h = let a = (block_stated named (numbers_of named) h).fits None in omega (arith, a)
