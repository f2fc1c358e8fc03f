-- Each tree of a block is made of parts that matter to names.
use Rattle.std.proofs.Common.{◌≡◌, ℕ, suc, arith, List, [], ◌∷◌, ◌++◌, map, length, Bool, true, false, not, IsTrue}
use Rattle.std.proofs.Common.{◌||◌, ◌==◌, nat_eq, Some, None, refl, sym, ap, subst, ◌∙◌, if◌then◌else◌}
use Rattle.std.proofs.lemmas.Bool.Decides.{nat_tests}
use Rattle.cw_table.specs.Rows.{item_at}
use Rattle.cw_tree.specs.declared.leaf.RawName.{RawName}
use Rattle.cw_tree.specs.declared.statement.RawFelem.{RawFelem}
use Rattle.cw_tree.specs.declared.statement.RawFelem.TheVariants as felem
use Rattle.cw_tree.specs.declared.statement.RawDecl.{RawDecl, roll-RawDecl}
use Rattle.cw_tree.specs.declared.statement.RawForm.{RawForm, roll-RawForm}
use Rattle.cw_tree.specs.declared.statement.RawSimple.{RawSimple, roll-RawSimple}
use Rattle.cw_tree.specs.declared.statement.RawBlock.{RawBlock, roll-RawBlock}
use Rattle.cw_tree.specs.declared.statement.RawProc.{RawProc, roll-RawProc, out-RawProc}
use Rattle.cw_tree.specs.declared.statement.RawStmt.{RawStmt, roll-RawStmt}
use Rattle.cw_tree.specs.declared.statement.RawDecl.TheOpen as layer
use Rattle.cw_tree.specs.declared.statement.RawDecl.TheViews.{roll-out-RawProc, out-roll-RawProc}
use Rattle.cw_facts.specs.declared.fact.Fact.{Fact}
use Rattle.cw_facts.specs.declared.fact.Form.TheVariants as use_form
use Rattle.cw_facts.specs.declared.fact.Kind.TheVariants as kind
use Rattle.cw_facts.specs.declared.fact.Reading.TheVariants as reading
use Rattle.cw_facts.specs.Uses.{expression_uses, condition_uses, reference_uses, argument_uses}
use Rattle.cw_facts.specs.Facts as said
use Rattle.cw_facts.specs.Facts.{each_declares, base_name, felem_facts, felems_facts, enclosed, answer_name, declaration_facts}
use Rattle.cw_facts.specs.Facts.{form_facts, simple_facts, block_facts, procedure_facts, statement_facts}
use Rattle.cw_scope.specs.declared.resolve.Named.{Named}
use Rattle.cw_make_items.specs.Lookup.{Numbers}
use Rattle.cw_make_expr.specs.Parts.{label_in, item_here}
use Rattle.cw_make_expr.specs.Made.{condition_of, reference_of}
use Rattle.cw_make_stmt.specs.Made as tree
use Rattle.cw_make_stmt.specs.Made.{labels_of, marked, row, form_of, simple_of, block_of, statement_of}
use Rattle.cw_make.specs.Switches as switched
use Rattle.cw_make.specs.Switches.{declaration_switches, form_switches, simple_switches, block_switches, procedure_switches, statement_switches}
use Rattle.cw_make.specs.Procedures as made
use Rattle.cw_make.specs.Procedures.{proc_of, declaration_procs, form_procs, simple_procs, block_procs, procedure_procs, statement_procs}
use Rattle.cw_unit.specs.declared.unit.Proc.{Proc}
use Rattle.cw_unit.specs.declared.unit.Cond.{Cond}
use Rattle.cw_unit.specs.declared.unit.Ref.{Ref}
use Rattle.cw_unit.specs.declared.unit.Felem.{Felem}
use Rattle.cw_unit.specs.declared.unit.Stmt.{Stmt}
use Rattle.cw_unit.specs.declared.unit.Stmt.TheFolds.{fold-roll-Stmt}
use Rattle.cw_unit.specs.declared.unit.Stmt.TheOpen as statement
use Rattle.cw_unit.specs.LabelContinuation.{has_label}
use Rattle.cw_safety.specs.WellFormed.{any, sets, sets_step}
use Rattle.cw_sound.proofs.Expressions.Truth.{either, or_left, or_right}
use Rattle.cw_sound.proofs.Names.Parts.{Switches, no_switches, never, Plain, Part, empty, both, plain, items, label, switch, block, procedure, more}
use Rattle.cw_sound.proofs.Names.PlainFacts.{plain_nothing, plain_both, plain_use, plain_loop}
use Rattle.cw_sound.proofs.Names.ExpressionUses.{expression_plain, condition_plain, reference_plain, arguments_plain}
use Rattle.cw_sound.proofs.Statements.Layers.{Known, WithDecl, WithStmt, DeclParts, FormParts, SimpleParts, BlockParts, ProcParts, StmtParts}
use Rattle.cw_sound.proofs.Statements.Layers.{decl_layer, form_layer, simple_layer, block_layer, proc_layer, stmt_layer, each_block}
use Rattle.cw_sound.proofs.Statements.Passes.{rolls}
use Rattle.cw_sound.proofs.Statements.Folds.{facts_pass, made_pass, switches_pass}
use Rattle.cw_sound.proofs.Statements.Procedures.{procedures_roll}

-- ---- labels that statements set

-- an equality of numbers before others
label_first : (b c : Bool) → IsTrue (b || c) → IsTrue (if b then true else c)
label_first true c h = refl
label_first false c h = h

not_empty : (k : ℕ) → (suc k == 0) ≡ false
not_empty k = grind (arith, nat_tests)

module _ (numbers : Numbers) where
  set_behind : (ns : List RawName) (s : Stmt) (l : ℕ) → IsTrue (has_label l (labels_of numbers ns) || sets l s) → IsTrue (sets l (marked numbers ns s))
  set_behind [] s l h = h
  set_behind (n ∷ ns) s l h =
      subst (λ b. IsTrue (sets l (if b then s else tree.mark (labels_of numbers (n ∷ ns)) s))) (sym (not_empty (length ns)))
      (subst IsTrue (sym (fold-roll-Stmt Bool (sets_step l) (statement.Mark (labels_of numbers (n ∷ ns)) s))) h)

module _ (named : Named) (numbers : Numbers) where
  abbrev P : List Fact → Switches → List Proc → (ℕ → Bool) → Type 0
  P = Part named numbers

  like : {fs gs : List Fact} {ws xs : Switches} {ps qs : List Proc} {s t : ℕ → Bool} → gs ≡ fs → xs ≡ ws → qs ≡ ps → ((l : ℕ) → IsTrue (s l) → IsTrue (t l)) → P fs ws ps s → P gs xs qs t
  like {fs} {gs} {ws} {xs} {ps} {qs} {s} {t} ef ew ep h a = more h (subst (λ f. P f xs qs s) (sym ef) (subst (λ w. P fs w qs s) (sym ew) (subst (λ p. P fs ws p s) (sym ep) a)))

  labels_part : (ns : List RawName) → P (each_declares kind.Label ns) no_switches [] (λ l. has_label l (labels_of numbers ns))
  labels_part [] = empty
  labels_part (n ∷ ns) = more (λ l h. label_first (nat_eq l (label_in (item_at numbers n.at.token))) (has_label l (labels_of numbers ns)) h) (both (label n) (labels_part ns))

  -- ---- what is made of each tree

  abbrev DeclPart : RawDecl → Type 0
  DeclPart d = P (declaration_facts d) (declaration_switches named numbers d) (declaration_procs named numbers d) never

  abbrev FormPart : RawForm → Type 0
  FormPart f = P (form_facts f) (form_switches named numbers f) (form_procs named numbers f) (λ l. sets l (form_of named numbers f))

  abbrev SimplePart : RawSimple → Type 0
  SimplePart s = P (simple_facts s) (simple_switches named numbers s) (simple_procs named numbers s) (λ l. sets l (simple_of named numbers s))

  abbrev pub BlockPart : RawBlock → Type 0
  BlockPart b = (outermost : Bool) → P (block_facts b outermost) (block_switches named numbers b) (block_procs named numbers b) (λ l. sets l (block_of named numbers b))

  abbrev ProcPart : RawProc → Type 0
  ProcPart p = P (procedure_facts p) (procedure_switches named numbers p) (proc_of named numbers p ∷ procedure_procs named numbers p) never

  abbrev StmtPart : RawStmt → Type 0
  StmtPart s = P (statement_facts s) (statement_switches named numbers s) (statement_procs named numbers s) (λ l. sets l (statement_of named numbers s))

  -- ---- trees with what is made of them

  abbrev known : Known
  known = record { Decl = DeclPart; Form = FormPart; Simple = SimplePart; Block = BlockPart; Proc = ProcPart; Stmt = StmtPart }

  -- ---- rules of the grammar

  decl_part : (y : DeclParts known) → DeclPart (roll-RawDecl (decl_layer known y))
  decl_part (layer.Data d) = like ((rolls facts_pass).decl (layer.Data d)) ((rolls (switches_pass named numbers)).decl (layer.Data d)) ((procedures_roll named numbers).decl (layer.Data d)) (λ l h. h) (items d)
  decl_part (layer.Overlay at b d) =
      like ((rolls facts_pass).decl (layer.Overlay at b d)) ((rolls (switches_pass named numbers)).decl (layer.Overlay at b d)) ((procedures_roll named numbers).decl (layer.Overlay at b d)) (λ l h. h)
      (both (plain (plain_use numbers (record { name = base_name b; form = use_form.Base }) [] (plain_nothing numbers))) (items d))
  decl_part (layer.Switch at n labels) =
      like ((rolls facts_pass).decl (layer.Switch at n labels)) ((rolls (switches_pass named numbers)).decl (layer.Switch at n labels)) ((procedures_roll named numbers).decl (layer.Switch at n labels)) (λ l h. h) (switch n labels)
  decl_part (layer.Proc p) = like ((rolls facts_pass).decl (layer.Proc p.0)) ((rolls (switches_pass named numbers)).decl (layer.Proc p.0)) ((procedures_roll named numbers).decl (layer.Proc p.0)) (λ l h. h) p.1

  set_if : (line : ℕ) (c : Cond) (a b : Stmt) (l : ℕ) → IsTrue (sets l a || sets l b) → IsTrue (sets l (tree.conditional line c a b))
  set_if line c a b l h = subst IsTrue (sym (fold-roll-Stmt Bool (sets_step l) (statement.If line c a b))) h

  set_for : (line item : ℕ) (r : Ref) (es : List Felem) (s : Stmt) (l : ℕ) → IsTrue (sets l s) → IsTrue (sets l (tree.repetition line item r es s))
  set_for line item r es s l h = subst IsTrue (sym (fold-roll-Stmt Bool (sets_step l) (statement.For line item r es s))) h

  set_row : (ss : List Stmt) (l : ℕ) → IsTrue (any (map (sets l) ss)) → IsTrue (sets l (row ss))
  set_row ss l h = subst IsTrue (sym (fold-roll-Stmt Bool (sets_step l) (statement.Seq ss))) h

  felem_plain : (e : RawFelem) → Plain numbers (felem_facts e)
  felem_plain (felem.One e) = expression_plain numbers e reading.Value
  felem_plain (felem.While e c) = plain_both numbers (expression_uses e reading.Value) (condition_uses c reading.Value) (expression_plain numbers e reading.Value) (condition_plain numbers c reading.Value)
  felem_plain (felem.Step a b c) =
      plain_both numbers (expression_uses a reading.Value) (expression_uses b reading.Value ++ expression_uses c reading.Value) (expression_plain numbers a reading.Value)
      (plain_both numbers (expression_uses b reading.Value) (expression_uses c reading.Value) (expression_plain numbers b reading.Value) (expression_plain numbers c reading.Value))

  pub felems_plain : (es : List RawFelem) → Plain numbers (felems_facts es)
  felems_plain [] = plain_nothing numbers
  felems_plain (e ∷ es) = plain_both numbers (felem_facts e) (felems_facts es) (felem_plain e) (felems_plain es)

  either_set : (ns : List RawName) (a b : Stmt) (l : ℕ) → IsTrue (has_label l (labels_of numbers ns) || (sets l a || sets l b)) → IsTrue (sets l (marked numbers ns a) || sets l b)
  either_set ns a b l h =
      either (has_label l (labels_of numbers ns)) (sets l a || sets l b) h
      (λ k. or_left (sets l (marked numbers ns a)) (sets l b) (set_behind numbers ns a l (or_left (has_label l (labels_of numbers ns)) (sets l a) k)))
      (λ k. either (sets l a) (sets l b) k
      (λ j. or_left (sets l (marked numbers ns a)) (sets l b) (set_behind numbers ns a l (or_right (has_label l (labels_of numbers ns)) (sets l a) j)))
      (λ j. or_right (sets l (marked numbers ns a)) (sets l b) j))

  form_part : (y : FormParts known) → FormPart (roll-RawForm (form_layer known y))
  form_part (layer.Simple s) =
      like ((rolls facts_pass).form (layer.Simple s.0)) ((rolls (switches_pass named numbers)).form (layer.Simple s.0)) ((procedures_roll named numbers).form (layer.Simple s.0)) (λ l h. subst (λ z. IsTrue (sets l z)) (sym ((rolls (made_pass named numbers)).form (layer.Simple s.0))) h) s.1
  form_part (layer.If at test labels first None) =
      like ((rolls facts_pass).form (layer.If at test labels first.0 None)) ((rolls (switches_pass named numbers)).form (layer.If at test labels first.0 None)) ((procedures_roll named numbers).form (layer.If at test labels first.0 None))
      (λ l h. subst (λ z. IsTrue (sets l z)) (sym ((rolls (made_pass named numbers)).form (layer.If at test labels first.0 None)))
      (set_if (tree.line_of at) (condition_of named numbers test) (marked numbers labels (simple_of named numbers first.0)) (row []) l
      (either_set labels (simple_of named numbers first.0) (row []) l (missing l (has_label l (labels_of numbers labels)) (sets l (simple_of named numbers first.0)) h))))
      (both (plain (condition_plain numbers test reading.Value)) (both (labels_part labels) (both first.1 empty)))
    where
      missing : (l : ℕ) (a b : Bool) → IsTrue (a || (b || false)) → IsTrue (a || (b || sets l (row [])))
      missing l true b h = refl
      missing l false true h = refl
      missing l false false h = absurd (cc)
  form_part (layer.If at test labels first (Some second)) =
      like ((rolls facts_pass).form (layer.If at test labels first.0 (Some second.0))) ((rolls (switches_pass named numbers)).form (layer.If at test labels first.0 (Some second.0))) ((procedures_roll named numbers).form (layer.If at test labels first.0 (Some second.0)))
      (λ l h. subst (λ z. IsTrue (sets l z)) (sym ((rolls (made_pass named numbers)).form (layer.If at test labels first.0 (Some second.0))))
      (set_if (tree.line_of at) (condition_of named numbers test) (marked numbers labels (simple_of named numbers first.0)) (statement_of named numbers second.0) l
      (either_set labels (simple_of named numbers first.0) (statement_of named numbers second.0) l h)))
      (both (plain (condition_plain numbers test reading.Value)) (both (labels_part labels) (both first.1 second.1)))
  form_part (layer.For at variable elems body) =
      like ((rolls facts_pass).form (layer.For at variable elems body.0)) ((rolls (switches_pass named numbers)).form (layer.For at variable elems body.0)) ((procedures_roll named numbers).form (layer.For at variable elems body.0))
      (λ l h. subst (λ z. IsTrue (sets l z)) (sym ((rolls (made_pass named numbers)).form (layer.For at variable elems body.0)))
      (set_for (tree.line_of at) (item_here numbers at.token) (reference_of named numbers variable) (map (tree.felem_of named numbers) elems) (statement_of named numbers body.0) l h))
      (both (plain (plain_loop numbers at (reference_uses variable reading.Whole) (reference_plain numbers variable reading.Whole))) (both (plain (felems_plain elems)) body.1))

  simple_part : (y : SimpleParts known) → SimplePart (roll-RawSimple (simple_layer known y))
  simple_part layer.Empty = like ((rolls facts_pass).simple layer.Empty) ((rolls (switches_pass named numbers)).simple layer.Empty) ((procedures_roll named numbers).simple layer.Empty) (λ l h. absurd (cc)) empty
  simple_part (layer.Assign r e) =
      like ((rolls facts_pass).simple (layer.Assign r e)) ((rolls (switches_pass named numbers)).simple (layer.Assign r e)) ((procedures_roll named numbers).simple (layer.Assign r e)) (λ l h. absurd (cc))
      (plain (plain_both numbers (reference_uses r reading.Target) (expression_uses e reading.Value) (reference_plain numbers r reading.Target) (expression_plain numbers e reading.Value)))
  simple_part (layer.AssignBits bits r e) =
      like ((rolls facts_pass).simple (layer.AssignBits bits r e)) ((rolls (switches_pass named numbers)).simple (layer.AssignBits bits r e)) ((procedures_roll named numbers).simple (layer.AssignBits bits r e)) (λ l h. absurd (cc))
      (plain (plain_both numbers (reference_uses r reading.Whole) (expression_uses e reading.Value) (reference_plain numbers r reading.Whole) (expression_plain numbers e reading.Value)))
  simple_part (layer.Goto at n) =
      like ((rolls facts_pass).simple (layer.Goto at n)) ((rolls (switches_pass named numbers)).simple (layer.Goto at n)) ((procedures_roll named numbers).simple (layer.Goto at n)) (λ l h. absurd (cc))
      (plain (plain_use numbers (record { name = n; form = use_form.Goto }) [] (plain_nothing numbers)))
  simple_part (layer.GotoSwitch at n e) =
      like ((rolls facts_pass).simple (layer.GotoSwitch at n e)) ((rolls (switches_pass named numbers)).simple (layer.GotoSwitch at n e)) ((procedures_roll named numbers).simple (layer.GotoSwitch at n e)) (λ l h. absurd (cc))
      (plain (plain_use numbers (record { name = n; form = use_form.GotoSwitch }) (expression_uses e reading.Value) (expression_plain numbers e reading.Value)))
  simple_part (layer.Call n es) =
      like ((rolls facts_pass).simple (layer.Call n es)) ((rolls (switches_pass named numbers)).simple (layer.Call n es)) ((procedures_roll named numbers).simple (layer.Call n es)) (λ l h. absurd (cc))
      (plain (plain_use numbers (record { name = n; form = use_form.Call }) (argument_uses es) (arguments_plain numbers es)))
  simple_part (layer.Answer at e) =
      like ((rolls facts_pass).simple (layer.Answer at e)) ((rolls (switches_pass named numbers)).simple (layer.Answer at e)) ((procedures_roll named numbers).simple (layer.Answer at e)) (λ l h. absurd (cc))
      (plain (plain_use numbers (record { name = answer_name at; form = use_form.Answer }) (expression_uses e reading.Value) (expression_plain numbers e reading.Value)))
  simple_part (layer.Block b) =
      like ((rolls facts_pass).simple (layer.Block b.0)) ((rolls (switches_pass named numbers)).simple (layer.Block b.0)) ((procedures_roll named numbers).simple (layer.Block b.0)) (λ l h. subst (λ z. IsTrue (sets l z)) (sym ((rolls (made_pass named numbers)).simple (layer.Block b.0))) h) (b.1 false)

  decls_part : (ds : List (WithDecl known)) → P (said.joined (map declaration_facts (map (λ e. e.0) ds))) (switched.joined (map (declaration_switches named numbers) (map (λ e. e.0) ds))) (made.joined (map (λ d. (d, declaration_procs named numbers d)) (map (λ e. e.0) ds))) never
  decls_part [] = empty
  decls_part (d ∷ ds) = both d.1 (decls_part ds)

  stmts_part : (ss : List (WithStmt known)) → P (said.joined (map statement_facts (map (λ e. e.0) ss))) (switched.joined (map (statement_switches named numbers) (map (λ e. e.0) ss))) (made.joined (map (λ s. (s, statement_procs named numbers s)) (map (λ e. e.0) ss))) (λ l. any (map (sets l) (map (statement_of named numbers) (map (λ e. e.0) ss))))
  stmts_part [] = empty
  stmts_part (s ∷ ss) = both s.1 (stmts_part ss)

  enclosed_part : (b : Bool) {fs : List Fact} {ws : Switches} {ps : List Proc} {s : ℕ → Bool} → P fs ws ps s → P (enclosed b fs) ws ps s
  enclosed_part true a = block a
  enclosed_part false a = a

  block_part : (y : BlockParts known) → BlockPart (roll-RawBlock (block_layer known y))
  block_part y outermost =
      like (ap (λ f. f outermost) ((rolls facts_pass).block (block_layer known y))) ((rolls (switches_pass named numbers)).block (block_layer known y)) ((procedures_roll named numbers).block (block_layer known y))
      (λ l h. subst (λ z. IsTrue (sets l z)) (sym ((rolls (made_pass named numbers)).block (block_layer known y))) (set_row (map (statement_of named numbers) (map (λ e. e.0) y.stmts)) l h))
      (enclosed_part (outermost || not (length (map declaration_facts (map (λ e. e.0) y.decls)) == 0)) (both (decls_part y.decls) (stmts_part y.stmts)))

  proc_part : (y : ProcParts known) → ProcPart (roll-RawProc (proc_layer known y))
  proc_part y =
      let p : RawProc = roll-RawProc (proc_layer known y) in
      like (ap procedure_facts (sym (roll-out-RawProc p)) ∙ (rolls facts_pass).proc (out-RawProc p)) (ap (procedure_switches named numbers) (sym (roll-out-RawProc p)) ∙ (rolls (switches_pass named numbers)).proc (out-RawProc p))
      (ap (λ ps. proc_of named numbers p ∷ ps) (ap (procedure_procs named numbers) (sym (roll-out-RawProc p)) ∙ (procedures_roll named numbers).proc (out-RawProc p))) (λ l h. h)
      (procedure p (subst (λ z. StmtPart z.body) (sym (out-roll-RawProc (proc_layer known y))) y.body.1))

  stmt_part : (y : StmtParts known) → StmtPart (roll-RawStmt (stmt_layer known y))
  stmt_part y =
      like ((rolls facts_pass).stmt (stmt_layer known y)) ((rolls (switches_pass named numbers)).stmt (stmt_layer known y)) ((procedures_roll named numbers).stmt (stmt_layer known y))
      (λ l h. subst (λ z. IsTrue (sets l z)) (sym ((rolls (made_pass named numbers)).stmt (stmt_layer known y))) (set_behind numbers y.labels (form_of named numbers y.form.0) l h))
      (both (labels_part y.labels) y.form.1)

  pub block_parts : (b : RawBlock) → BlockPart b
  block_parts = each_block known (record { decl = decl_part; form = form_part; simple = simple_part; block = block_part; proc = proc_part; stmt = stmt_part })
