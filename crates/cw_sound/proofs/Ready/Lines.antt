-- The statements that a text's trees become have lines, where their parts have them.
use Rattle.std.proofs.Common.{◌≡◌, ℕ, ◌≤◌, min, ◌==◌, List, [], ◌∷◌, length, map, Bool, true, false, IsTrue, ◌&&◌, Some, None, refl, sym, subst, arith, if◌then◌else◌}
use Rattle.std.proofs.lemmas.Bool.{leb-true}
use Rattle.cw_tree.specs.declared.leaf.Position.{Position}
use Rattle.cw_tree.specs.declared.leaf.RawName.{RawName}
use Rattle.cw_tree.specs.declared.statement.RawDecl.TheOpen as layer
use Rattle.cw_tree.specs.declared.statement.RawBlock.{RawBlock}
use Rattle.cw_tree.specs.declared.statement.RawStmt.{RawStmt}
use Rattle.cw_scope.specs.declared.resolve.Named.{Named}
use Rattle.cw_amount.specs.Amounts.{place_amount}
use Rattle.cw_make_expr.specs.Parts.{Numbers, within, number_of, item_here}
use Rattle.cw_make_expr.specs.Made.{expression_of, condition_of, reference_of, call_of}
use Rattle.cw_make_stmt.specs.Made as made
use Rattle.cw_make_stmt.specs.Made.{line_of, ref_position, labels_of, mark, marked, row}
use Rattle.cw_unit.specs.declared.unit.Stmt.{Stmt, Stmt-F, roll-Stmt, map-Stmt, fold-roll-Stmt}
use Rattle.cw_unit.specs.declared.unit.Stmt.TheOpen as statement
use Rattle.cw_writable.proofs.Coded.Fine.{both, parts}
use Rattle.cw_writable.proofs.Coded.Numbers.{le_true}
use Rattle.cw_writable.specs.Back.Ready.{all, is_line, lines_step, has_lines}
use Rattle.cw_sound.specs.Ready.Lined as lined
use Rattle.cw_sound.specs.Ready.Lined.{is_numbered}
use Rattle.cw_tree.proofs.Statements.{of_simple}
use Rattle.cw_sound.proofs.Statements.Folds.{lined_pass, made_pass}
use Rattle.cw_sound.proofs.Statements.Passes.{whole, layered, rolls, LayersKnown, Rolled, related, related_layers, related_rolls, rules_of}
use Rattle.cw_sound.proofs.Statements.Layers.{Known, WithStmt, DeclParts, FormParts, SimpleParts, BlockParts, ProcParts, StmtParts, decl_layer, form_layer, simple_layer, block_layer, proc_layer, stmt_layer, Rules, each_block, each_stmt}

-- ---- statements of a unit

lined_from : (x : Stmt-F Stmt) → IsTrue (lines_step (map-Stmt Stmt Bool has_lines x)) → IsTrue (has_lines (roll-Stmt x))
lined_from x h = subst IsTrue (sym (fold-roll-Stmt Bool lines_step x)) h

numbered : (at : Position) → IsTrue (is_numbered at) → IsTrue (is_line (line_of at))
numbered at h =
    let le : 1 ≤ at.line = leb-true 1 at.line h in
    le_true 1 (min at.line 65535) (let z : 1 ≤ min at.line 65535 = omega (arith, le) in z)

if_marked : (b : Bool) (ls : List ℕ) (s : Stmt) → IsTrue (has_lines s) → IsTrue (has_lines (if b then s else mark ls s))
if_marked true ls s h = h
if_marked false ls s h = lined_from (statement.Mark ls s) h

marked_lined : (numbers : Numbers) (ns : List RawName) (s : Stmt) → IsTrue (has_lines s) → IsTrue (has_lines (marked numbers ns s))
marked_lined numbers ns s h = if_marked (length ns == 0) (labels_of numbers ns) s h

empty_lined : IsTrue (has_lines (row []))
empty_lined = lined_from (statement.Seq []) refl

-- ---- trees

module _ (named : Named) (numbers : Numbers) where
  abbrev Lined : Bool → Stmt → Type 0
  Lined b s = IsTrue b → IsTrue (has_lines s)

  abbrev LinedAs : Bool → Stmt → Bool → Type 0
  LinedAs b s again = Lined b s

  abbrev known : Known
  known = related LinedAs LinedAs (whole lined_pass) (whole (made_pass named numbers)) (whole lined_pass)

  abbrev layers_lined : LayersKnown
  layers_lined = related_layers LinedAs LinedAs (layered lined_pass) (layered (made_pass named numbers)) (layered lined_pass)

  rolled : Rolled known layers_lined
  rolled = related_rolls LinedAs LinedAs (rolls lined_pass) (rolls (made_pass named numbers)) (rolls lined_pass)

  all_lined : (ts : List (WithStmt known)) → IsTrue (all (map lined.is_lined_statement (map (λ y. y.0) ts))) → IsTrue (all (map has_lines (map (made.statement_of named numbers) (map (λ y. y.0) ts))))
  all_lined [] h = refl
  all_lined (t ∷ ts) h =
      let p = parts (lined.is_lined_statement t.0) (all (map lined.is_lined_statement (map (λ y. y.0) ts))) h in
      both (has_lines (made.statement_of named numbers t.0)) (all (map has_lines (map (made.statement_of named numbers) (map (λ y. y.0) ts)))) (t.1 p.0) (all_lined ts p.1)

  declaration_rule : (y : DeclParts known) → layers_lined.Decl (decl_layer known y)
  declaration_rule y h = empty_lined

  form_rule : (y : FormParts known) → layers_lined.Form (form_layer known y)
  form_rule (layer.Simple s) h = s.1 h
  form_rule (layer.If at test labels first None) h =
      let p = parts (is_numbered at) (of_simple lined_pass first.0 && true) h in
      let q = parts (of_simple lined_pass first.0) true p.1 in
      let a = marked numbers labels (made.simple_of named numbers first.0) in
      lined_from (statement.If (line_of at) (condition_of named numbers test) a (row []))
      (both (is_line (line_of at)) (has_lines a && has_lines (row [])) (numbered at p.0) (both (has_lines a) (has_lines (row [])) (marked_lined numbers labels (made.simple_of named numbers first.0) (first.1 q.0)) empty_lined))
  form_rule (layer.If at test labels first (Some second)) h =
      let p = parts (is_numbered at) (of_simple lined_pass first.0 && lined.is_lined_statement second.0) h in
      let q = parts (of_simple lined_pass first.0) (lined.is_lined_statement second.0) p.1 in
      let a = marked numbers labels (made.simple_of named numbers first.0) in
      let b = made.statement_of named numbers second.0 in
      lined_from (statement.If (line_of at) (condition_of named numbers test) a b)
      (both (is_line (line_of at)) (has_lines a && has_lines b) (numbered at p.0) (both (has_lines a) (has_lines b) (marked_lined numbers labels (made.simple_of named numbers first.0) (first.1 q.0)) (second.1 q.1)))
  form_rule (layer.For at variable elems body) h =
      let p = parts (is_numbered at) (lined.is_lined_statement body.0) h in
      let b = made.statement_of named numbers body.0 in
      lined_from (statement.For (line_of at) (item_here numbers at.token) (reference_of named numbers variable) (map (made.felem_of named numbers) elems) b)
      (both (is_line (line_of at)) (has_lines b) (numbered at p.0) (body.1 p.1))

  simple_rule : (y : SimpleParts known) → layers_lined.Simple (simple_layer known y)
  simple_rule layer.Empty h = empty_lined
  simple_rule (layer.Assign r e) h = lined_from (statement.Put (line_of (ref_position r)) (reference_of named numbers r) (expression_of named numbers e)) (numbered (ref_position r) h)
  simple_rule (layer.AssignBits bits r e) h =
      lined_from (statement.PutBits (line_of bits.at) (within 255 (place_amount bits.size.first)) (within 255 (place_amount bits.size.second)) (reference_of named numbers r) (expression_of named numbers e)) (numbered bits.at h)
  simple_rule (layer.Goto at n) h = lined_from (statement.Go (line_of at) (made.goal_of (number_of named numbers n))) (numbered at h)
  simple_rule (layer.GotoSwitch at n e) h = lined_from (statement.Go (line_of at) (made.switch_of (number_of named numbers n) (expression_of named numbers e))) (numbered at h)
  simple_rule (layer.Call n es) h = let c = call_of named numbers n es in lined_from (statement.Call (line_of n.at) c.0 c.1) (numbered n.at h)
  simple_rule (layer.Answer at e) h = lined_from (statement.Answer (line_of at) (expression_of named numbers e)) (numbered at h)
  simple_rule (layer.Block b) h = b.1 h

  block_rule : (y : BlockParts known) → layers_lined.Block (block_layer known y)
  block_rule y h = lined_from (statement.Seq (map (made.statement_of named numbers) (map (λ z. z.0) y.stmts))) (all_lined y.stmts h)

  procedure_rule : (y : ProcParts known) → layers_lined.Proc (proc_layer known y)
  procedure_rule y h = y.body.1 h

  statement_rule : (y : StmtParts known) → layers_lined.Stmt (stmt_layer known y)
  statement_rule y h = marked_lined numbers y.labels (made.form_of named numbers y.form.0) (y.form.1 h)

  rules : Rules known
  rules = rules_of rolled (record { decl = declaration_rule; form = form_rule; simple = simple_rule; block = block_rule; proc = procedure_rule; stmt = statement_rule })

  pub block_lines : (x : RawBlock) → known.Block x
  block_lines = each_block known rules

  pub statement_lines : (x : RawStmt) → known.Stmt x
  statement_lines = each_stmt known rules
