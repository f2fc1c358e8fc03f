-- The labels of a text's tree are those that its statements set, body by body.
use Rattle.std.proofs.Common.{◌≡◌, ℕ, ◌+◌, ◌≤◌, List, [], ◌∷◌, map, length, Bool, true, false, not, ◌||◌, ◌==◌, Some, None, refl, sym, ap, subst, ◌∙◌, arith}
use Rattle.cw_tree.specs.declared.leaf.RawName.{RawName}
use Rattle.cw_tree.specs.declared.expression.RawExpr.{RawExpr}
use Rattle.cw_tree.specs.declared.statement.RawDecl.{RawDecl, roll-RawDecl}
use Rattle.cw_tree.specs.declared.statement.RawForm.{RawForm, roll-RawForm}
use Rattle.cw_tree.specs.declared.statement.RawSimple.{RawSimple, roll-RawSimple}
use Rattle.cw_tree.specs.declared.statement.RawBlock.{RawBlock, roll-RawBlock}
use Rattle.cw_tree.specs.declared.statement.RawProc.{RawProc, roll-RawProc, out-RawProc}
use Rattle.cw_tree.specs.declared.statement.RawStmt.{RawStmt, roll-RawStmt}
use Rattle.cw_tree.specs.declared.statement.RawDecl.TheOpen as layer
use Rattle.cw_tree.specs.declared.statement.RawDecl.TheViews.{roll-out-RawProc, out-roll-RawProc}
use Rattle.cw_facts.specs.declared.fact.Fact.{Fact}
use Rattle.cw_facts.specs.declared.fact.Form.TheVariants as use_form
use Rattle.cw_facts.specs.declared.fact.Reading.TheVariants as reading
use Rattle.cw_facts.specs.Uses.{expression_uses, reference_uses, argument_uses}
use Rattle.cw_facts.specs.Facts as said
use Rattle.cw_facts.specs.Facts.{base_name, enclosed, answer_name, declaration_facts, form_facts, simple_facts, block_facts, procedure_facts, statement_facts}
use Rattle.cw_scope.specs.declared.resolve.Named.{Named}
use Rattle.cw_amount.specs.Amounts.{place_amount}
use Rattle.cw_number.specs.Numbers.{numbers_of}
use Rattle.cw_make_items.specs.Lookup.{Numbers}
use Rattle.cw_make_expr.specs.Parts.{within, number_of, item_here}
use Rattle.cw_make_expr.specs.Made.{expression_of, condition_of, reference_of, call_of}
use Rattle.cw_make_stmt.specs.Made as tree
use Rattle.cw_make_stmt.specs.Made.{marked, row, form_of, simple_of, block_of, statement_of}
use Rattle.cw_make.specs.Procedures as made
use Rattle.cw_make.specs.Procedures.{proc_of, declaration_procs, form_procs, simple_procs, block_procs, procedure_procs, statement_procs}
use Rattle.cw_make.specs.Made.{unit_of}
use Rattle.cw_unit.specs.declared.unit.Proc.{Proc}
use Rattle.cw_unit.specs.declared.unit.Cond.{Cond}
use Rattle.cw_unit.specs.declared.unit.Stmt.{Stmt}
use Rattle.cw_unit.specs.declared.unit.Stmt.TheFolds.{fold-roll-Stmt}
use Rattle.cw_unit.specs.declared.unit.Stmt.TheOpen as statement
use Rattle.cw_tokens.specs.SetLabels.{together, set_step, set_labels, set_in_procedures, LabelsStand}
use Rattle.cw_sound.proofs.Names.PlainFacts.{plain_nothing, plain_both, plain_use, plain_loop}
use Rattle.cw_sound.proofs.Names.ExpressionUses.{expression_plain, condition_plain, reference_plain, arguments_plain}
use Rattle.cw_sound.proofs.Names.TreeParts.{felems_plain}
use Rattle.cw_sound.proofs.Labels.Counting.{set_marked, Counted, empty, plain, items, both, labels, switch, block, procedure, like, labels_counted}
use Rattle.cw_sound.proofs.Statements.Layers.{Known, WithDecl, WithStmt, DeclParts, FormParts, SimpleParts, BlockParts, ProcParts, StmtParts, decl_layer, form_layer, simple_layer, block_layer, proc_layer, stmt_layer, each_block}
use Rattle.cw_sound.proofs.Statements.Passes.{rolls}
use Rattle.cw_sound.proofs.Statements.Folds.{facts_pass, made_pass}
use Rattle.cw_sound.proofs.Statements.Procedures.{procedures_roll}

module _ (named : Named) (numbers : Numbers) where
  -- ---- what is made of each tree

  abbrev C : List Fact → ℕ → List Proc → Type 0
  C = Counted named numbers

  abbrev DeclCounted : RawDecl → Type 0
  DeclCounted d = C (declaration_facts d) 0 (declaration_procs named numbers d)

  abbrev FormCounted : RawForm → Type 0
  FormCounted f = C (form_facts f) (set_labels (form_of named numbers f)) (form_procs named numbers f)

  abbrev SimpleCounted : RawSimple → Type 0
  SimpleCounted s = C (simple_facts s) (set_labels (simple_of named numbers s)) (simple_procs named numbers s)

  abbrev BlockCounted : RawBlock → Type 0
  BlockCounted b = (outermost : Bool) → C (block_facts b outermost) (set_labels (block_of named numbers b)) (block_procs named numbers b)

  abbrev ProcCounted : RawProc → Type 0
  ProcCounted p = C (procedure_facts p) 0 (proc_of named numbers p ∷ procedure_procs named numbers p)

  abbrev StmtCounted : RawStmt → Type 0
  StmtCounted s = C (statement_facts s) (set_labels (statement_of named numbers s)) (statement_procs named numbers s)

  -- ---- trees with what is made of them

  abbrev known : Known
  known = record { Decl = DeclCounted; Form = FormCounted; Simple = SimpleCounted; Block = BlockCounted; Proc = ProcCounted; Stmt = StmtCounted }

  -- ---- rules of the grammar

  decl_counted : (y : DeclParts known) → DeclCounted (roll-RawDecl (decl_layer known y))
  decl_counted (layer.Data d) = like named numbers ((rolls facts_pass).decl (layer.Data d)) refl ((procedures_roll named numbers).decl (layer.Data d)) (items named numbers d)
  decl_counted (layer.Overlay at b d) =
      like named numbers ((rolls facts_pass).decl (layer.Overlay at b d)) refl ((procedures_roll named numbers).decl (layer.Overlay at b d))
      (both named numbers (plain named numbers (plain_use numbers (record { name = base_name b; form = use_form.Base }) [] (plain_nothing numbers))) (items named numbers d))
  decl_counted (layer.Switch at n ls) = like named numbers ((rolls facts_pass).decl (layer.Switch at n ls)) refl ((procedures_roll named numbers).decl (layer.Switch at n ls)) (switch named numbers n ls)
  decl_counted (layer.Proc p) = like named numbers ((rolls facts_pass).decl (layer.Proc p.0)) refl ((procedures_roll named numbers).decl (layer.Proc p.0)) p.1

  -- a conditional, with the labels behind THEN
  set_if : (line : ℕ) (test : Cond) (ns : List RawName) (a b : Stmt) → set_labels (tree.conditional line test (marked numbers ns a) b) ≡ 0 + (length ns + (set_labels a + set_labels b))
  set_if line test ns a b =
      let rolled : set_labels (tree.conditional line test (marked numbers ns a) b) ≡ set_labels (marked numbers ns a) + set_labels b = fold-roll-Stmt ℕ set_step (statement.If line test (marked numbers ns a) b) in
      let first = set_marked numbers ns a in
      let z : set_labels (tree.conditional line test (marked numbers ns a) b) ≡ 0 + (length ns + (set_labels a + set_labels b)) = omega (arith, rolled, first) in
      z

  set_none : set_labels (row []) ≡ 0
  set_none = fold-roll-Stmt ℕ set_step (statement.Seq [])

  form_counted : (y : FormParts known) → FormCounted (roll-RawForm (form_layer known y))
  form_counted (layer.Simple s) =
      like named numbers ((rolls facts_pass).form (layer.Simple s.0)) (ap set_labels ((rolls (made_pass named numbers)).form (layer.Simple s.0))) ((procedures_roll named numbers).form (layer.Simple s.0)) s.1
  form_counted (layer.If at test ns first None) =
      like named numbers ((rolls facts_pass).form (layer.If at test ns first.0 None))
      (ap set_labels ((rolls (made_pass named numbers)).form (layer.If at test ns first.0 None)) ∙ set_if (tree.line_of at) (condition_of named numbers test) ns (simple_of named numbers first.0) (row [])
      ∙ ap (λ (k : ℕ). 0 + (length ns + (set_labels (simple_of named numbers first.0) + k))) set_none)
      ((procedures_roll named numbers).form (layer.If at test ns first.0 None))
      (both named numbers (plain named numbers (condition_plain numbers test reading.Value)) (both named numbers (labels named numbers ns) (both named numbers first.1 (empty named numbers))))
  form_counted (layer.If at test ns first (Some second)) =
      like named numbers ((rolls facts_pass).form (layer.If at test ns first.0 (Some second.0)))
      (ap set_labels ((rolls (made_pass named numbers)).form (layer.If at test ns first.0 (Some second.0)))
      ∙ set_if (tree.line_of at) (condition_of named numbers test) ns (simple_of named numbers first.0) (statement_of named numbers second.0))
      ((procedures_roll named numbers).form (layer.If at test ns first.0 (Some second.0)))
      (both named numbers (plain named numbers (condition_plain numbers test reading.Value)) (both named numbers (labels named numbers ns) (both named numbers first.1 second.1)))
  form_counted (layer.For at variable elems body) =
      let s : Stmt = statement_of named numbers body.0 in
      let rolled : set_labels (tree.repetition (tree.line_of at) (item_here numbers at.token) (reference_of named numbers variable) (map (tree.felem_of named numbers) elems) s) ≡ set_labels s =
      fold-roll-Stmt ℕ set_step (statement.For (tree.line_of at) (item_here numbers at.token) (reference_of named numbers variable) (map (tree.felem_of named numbers) elems) s) in
      like named numbers ((rolls facts_pass).form (layer.For at variable elems body.0))
      (ap set_labels ((rolls (made_pass named numbers)).form (layer.For at variable elems body.0)) ∙ rolled ∙ (let z : set_labels s ≡ 0 + (0 + set_labels s) = omega arith in z))
      ((procedures_roll named numbers).form (layer.For at variable elems body.0))
      (both named numbers (plain named numbers (plain_loop numbers at (reference_uses variable reading.Whole) (reference_plain numbers variable reading.Whole)))
      (both named numbers (plain named numbers (felems_plain named numbers elems)) body.1))

  -- a statement that holds no other
  abbrev SetsNone : Stmt → Type 0
  SetsNone s = set_labels s ≡ 0

  call_sets : (n : RawName) (es : List RawExpr) → SetsNone (tree.call_statement named numbers n es)
  call_sets n es = let c = call_of named numbers n es in fold-roll-Stmt ℕ set_step (statement.Call (tree.line_of n.at) c.0 c.1)

  simple_counted : (y : SimpleParts known) → SimpleCounted (roll-RawSimple (simple_layer known y))
  simple_counted layer.Empty = like named numbers ((rolls facts_pass).simple layer.Empty) (ap set_labels ((rolls (made_pass named numbers)).simple layer.Empty) ∙ set_none) ((procedures_roll named numbers).simple layer.Empty) (empty named numbers)
  simple_counted (layer.Assign r e) =
      like named numbers ((rolls facts_pass).simple (layer.Assign r e))
      (ap set_labels ((rolls (made_pass named numbers)).simple (layer.Assign r e))
      ∙ fold-roll-Stmt ℕ set_step (statement.Put (tree.line_of (tree.ref_position r)) (reference_of named numbers r) (expression_of named numbers e)))
      ((procedures_roll named numbers).simple (layer.Assign r e))
      (plain named numbers (plain_both numbers (reference_uses r reading.Target) (expression_uses e reading.Value) (reference_plain numbers r reading.Target) (expression_plain numbers e reading.Value)))
  simple_counted (layer.AssignBits bits r e) =
      like named numbers ((rolls facts_pass).simple (layer.AssignBits bits r e))
      (ap set_labels ((rolls (made_pass named numbers)).simple (layer.AssignBits bits r e))
      ∙ fold-roll-Stmt ℕ set_step
      (statement.PutBits (tree.line_of bits.at) (within 255 (place_amount bits.size.first)) (within 255 (place_amount bits.size.second)) (reference_of named numbers r) (expression_of named numbers e)))
      ((procedures_roll named numbers).simple (layer.AssignBits bits r e))
      (plain named numbers (plain_both numbers (reference_uses r reading.Whole) (expression_uses e reading.Value) (reference_plain numbers r reading.Whole) (expression_plain numbers e reading.Value)))
  simple_counted (layer.Goto at n) =
      like named numbers ((rolls facts_pass).simple (layer.Goto at n))
      (ap set_labels ((rolls (made_pass named numbers)).simple (layer.Goto at n)) ∙ fold-roll-Stmt ℕ set_step (statement.Go (tree.line_of at) (tree.goal_of (number_of named numbers n))))
      ((procedures_roll named numbers).simple (layer.Goto at n))
      (plain named numbers (plain_use numbers (record { name = n; form = use_form.Goto }) [] (plain_nothing numbers)))
  simple_counted (layer.GotoSwitch at n e) =
      like named numbers ((rolls facts_pass).simple (layer.GotoSwitch at n e))
      (ap set_labels ((rolls (made_pass named numbers)).simple (layer.GotoSwitch at n e)) ∙ fold-roll-Stmt ℕ set_step (statement.Go (tree.line_of at) (tree.switch_of (number_of named numbers n) (expression_of named numbers e))))
      ((procedures_roll named numbers).simple (layer.GotoSwitch at n e))
      (plain named numbers (plain_use numbers (record { name = n; form = use_form.GotoSwitch }) (expression_uses e reading.Value) (expression_plain numbers e reading.Value)))
  simple_counted (layer.Call n es) =
      like named numbers ((rolls facts_pass).simple (layer.Call n es)) (ap set_labels ((rolls (made_pass named numbers)).simple (layer.Call n es)) ∙ call_sets n es) ((procedures_roll named numbers).simple (layer.Call n es))
      (plain named numbers (plain_use numbers (record { name = n; form = use_form.Call }) (argument_uses es) (arguments_plain numbers es)))
  simple_counted (layer.Answer at e) =
      like named numbers ((rolls facts_pass).simple (layer.Answer at e))
      (ap set_labels ((rolls (made_pass named numbers)).simple (layer.Answer at e)) ∙ fold-roll-Stmt ℕ set_step (statement.Answer (tree.line_of at) (expression_of named numbers e)))
      ((procedures_roll named numbers).simple (layer.Answer at e))
      (plain named numbers (plain_use numbers (record { name = answer_name at; form = use_form.Answer }) (expression_uses e reading.Value) (expression_plain numbers e reading.Value)))
  simple_counted (layer.Block b) = like named numbers ((rolls facts_pass).simple (layer.Block b.0)) (ap set_labels ((rolls (made_pass named numbers)).simple (layer.Block b.0))) ((procedures_roll named numbers).simple (layer.Block b.0)) (b.1 false)

  decls_counted : (ds : List (WithDecl known)) → C (said.joined (map declaration_facts (map (λ e. e.0) ds))) 0 (made.joined (map (λ d. (d, declaration_procs named numbers d)) (map (λ e. e.0) ds)))
  decls_counted [] = empty named numbers
  decls_counted (d ∷ ds) = both named numbers d.1 (decls_counted ds)

  stmts_counted : (ss : List (WithStmt known)) → C (said.joined (map statement_facts (map (λ e. e.0) ss))) (together (map set_labels (map (statement_of named numbers) (map (λ e. e.0) ss)))) (made.joined (map (λ s. (s, statement_procs named numbers s)) (map (λ e. e.0) ss)))
  stmts_counted [] = empty named numbers
  stmts_counted (s ∷ ss) = both named numbers s.1 (stmts_counted ss)

  enclosed_counted : (b : Bool) {fs : List Fact} {n : ℕ} {ps : List Proc} → C fs n ps → C (enclosed b fs) n ps
  enclosed_counted true a = block named numbers a
  enclosed_counted false a = a

  block_counted : (y : BlockParts known) → BlockCounted (roll-RawBlock (block_layer known y))
  block_counted y outermost =
      let ss : List Stmt = map (statement_of named numbers) (map (λ e. e.0) y.stmts) in
      let rolled : set_labels (row ss) ≡ together (map set_labels ss) = fold-roll-Stmt ℕ set_step (statement.Seq ss) in
      like named numbers (ap (λ f. f outermost) ((rolls facts_pass).block (block_layer known y)))
      (ap set_labels ((rolls (made_pass named numbers)).block (block_layer known y)) ∙ rolled ∙ (let z : together (map set_labels ss) ≡ 0 + together (map set_labels ss) = omega arith in z)) ((procedures_roll named numbers).block (block_layer known y))
      (enclosed_counted (outermost || not (length (map declaration_facts (map (λ e. e.0) y.decls)) == 0)) (both named numbers (decls_counted y.decls) (stmts_counted y.stmts)))

  proc_counted : (y : ProcParts known) → ProcCounted (roll-RawProc (proc_layer known y))
  proc_counted y =
      let p : RawProc = roll-RawProc (proc_layer known y) in
      like named numbers (ap procedure_facts (sym (roll-out-RawProc p)) ∙ (rolls facts_pass).proc (out-RawProc p)) refl
      (ap (λ ps. proc_of named numbers p ∷ ps) (ap (procedure_procs named numbers) (sym (roll-out-RawProc p)) ∙ (procedures_roll named numbers).proc (out-RawProc p)))
      (procedure named numbers p (subst (λ z. StmtCounted z.body) (sym (out-roll-RawProc (proc_layer known y))) y.body.1))

  stmt_counted : (y : StmtParts known) → StmtCounted (roll-RawStmt (stmt_layer known y))
  stmt_counted y =
      like named numbers ((rolls facts_pass).stmt (stmt_layer known y)) (ap set_labels ((rolls (made_pass named numbers)).stmt (stmt_layer known y)) ∙ set_marked numbers y.labels (form_of named numbers y.form.0)) ((procedures_roll named numbers).stmt (stmt_layer known y))
      (both named numbers (labels named numbers y.labels) y.form.1)

  pub blocks_counted : (b : RawBlock) → BlockCounted b
  blocks_counted = each_block known (record { decl = decl_counted; form = form_counted; simple = simple_counted; block = block_counted; proc = proc_counted; stmt = stmt_counted })

pub labels_stand : (named : Named) → LabelsStand (unit_of named)
labels_stand named =
    let numbers = numbers_of named in
    let b = named.raw.now.block in
    let counted = labels_counted named numbers (blocks_counted named numbers b true) None in
    let u = unit_of named in
    record { few = (let z : length u.labels ≤ set_labels u.body + set_in_procedures u.procs = omega (arith, counted) in z) }
