-- The owners of what the statements of a text store.
use Rattle.std.proofs.Common.{ℕ, List, [], ◌∷◌, ◌++◌, length, map, Bool, true, false, ◌||◌, not, ◌==◌, Option, Some, None, refl, ap}
use Rattle.cw_tree.specs.declared.statement.RawFelem.{RawFelem}
use Rattle.cw_tree.specs.declared.statement.RawFelem.TheVariants as felem
use Rattle.cw_tree.specs.declared.statement.RawDecl.{RawDecl}
use Rattle.cw_tree.specs.declared.statement.RawForm.{RawForm}
use Rattle.cw_tree.specs.declared.statement.RawSimple.{RawSimple}
use Rattle.cw_tree.specs.declared.statement.RawBlock.{RawBlock}
use Rattle.cw_tree.specs.declared.statement.RawProc.{RawProc}
use Rattle.cw_tree.specs.declared.statement.RawStmt.{RawStmt}
use Rattle.cw_tree.specs.declared.statement.RawDecl.TheOpen as layer
use Rattle.cw_facts.specs.declared.fact.Fact.{Fact}
use Rattle.cw_facts.specs.declared.fact.Fact.TheVariants as fact
use Rattle.cw_facts.specs.declared.fact.Form.TheVariants as form
use Rattle.cw_facts.specs.declared.fact.Kind.TheVariants as kind
use Rattle.cw_facts.specs.declared.fact.Reading.TheVariants as reading
use Rattle.cw_facts.specs.Signatures.{flattened}
use Rattle.cw_facts.specs.Uses.{uses_of, expression_uses, condition_uses, reference_uses, argument_uses}
use Rattle.cw_facts.specs.Facts.{joined, declares, each_declares, each_uses, parameters_facts, answer_facts, answer_name, felem_facts, felems_facts, enclosed, declaration_facts, form_facts, simple_facts, block_facts, procedure_facts, statement_facts}
use Rattle.cw_scope.specs.declared.resolve.Named.{Named}
use Rattle.cw_items.specs.declared.thing.Owner.{Owner}
use Rattle.cw_items.specs.declared.thing.Sort.TheVariants as sort
use Rattle.cw_items.specs.Things.{Things, joined as joined_things, thing, texts, base_at, parameters_things, felem_things, felems_things, is_recursive, declaration_things, form_things, simple_things, block_things, procedure_things, statement_things}
use Rattle.cw_make_items.specs.Lookup.{Numbers}
use Rattle.cw_sound.proofs.Storage.Owners.{Owns, owns_both, owns_none, owns_other, owns_others, owns_use, owns_uses, owns_loop, owns_block, owns_procedure, owns_data, owns_overlay, owns_parameters, owns_answer, owns_texts}
use Rattle.cw_sound.proofs.Statements.Layers.{Known, WithDecl, WithStmt, DeclParts, FormParts, SimpleParts, BlockParts, ProcParts, StmtParts, decl_layer, form_layer, simple_layer, block_layer, proc_layer, stmt_layer, Rules, each_block}
use Rattle.cw_sound.proofs.Statements.Passes.{layered, rolls}
use Rattle.cw_sound.proofs.Statements.Folds.{facts_pass, things_pass}
use Rattle.cw_sound.proofs.Items.Lists.{moved_two}

module _ (K : ℕ → Type 0) (numbers : Numbers) (named : Named) where
  abbrev pub Parts : List Fact → Things → Type 0
  Parts facts ts = (o : Option Owner) → Owns K numbers o facts (ts o)

  abbrev RawDeclOwns : RawDecl → Type 0
  RawDeclOwns x = Parts (declaration_facts x) (declaration_things named x)

  abbrev RawFormOwns : RawForm → Type 0
  RawFormOwns x = Parts (form_facts x) (form_things named x)

  abbrev RawSimpleOwns : RawSimple → Type 0
  RawSimpleOwns x = Parts (simple_facts x) (simple_things named x)

  abbrev pub RawBlockOwns : RawBlock → Type 0
  RawBlockOwns x = (outermost : Bool) → Parts (block_facts x outermost) (block_things named x)

  abbrev RawProcOwns : RawProc → Type 0
  RawProcOwns x = Parts (procedure_facts x) (procedure_things named x)

  abbrev RawStmtOwns : RawStmt → Type 0
  RawStmtOwns x = Parts (statement_facts x) (statement_things named x)

  abbrev known : Known
  known = record { Decl = RawDeclOwns; Form = RawFormOwns; Simple = RawSimpleOwns; Block = RawBlockOwns; Proc = RawProcOwns; Stmt = RawStmtOwns }

  declarations_own : (xs : List (WithDecl known)) → Parts (joined (map declaration_facts (map (λ e. e.0) xs))) (joined_things (map (declaration_things named) (map (λ e. e.0) xs)))
  declarations_own [] o = owns_none K numbers o
  declarations_own (x ∷ xs) o =
      owns_both K numbers o (declaration_facts x.0) (joined (map declaration_facts (map (λ e. e.0) xs))) (declaration_things named x.0 o) (joined_things (map (declaration_things named) (map (λ e. e.0) xs)) o) (x.1 o) (declarations_own xs o)

  statements_own : (xs : List (WithStmt known)) → Parts (joined (map statement_facts (map (λ e. e.0) xs))) (joined_things (map (statement_things named) (map (λ e. e.0) xs)))
  statements_own [] o = owns_none K numbers o
  statements_own (x ∷ xs) o =
      owns_both K numbers o (statement_facts x.0) (joined (map statement_facts (map (λ e. e.0) xs))) (statement_things named x.0 o) (joined_things (map (statement_things named) (map (λ e. e.0) xs)) o) (x.1 o) (statements_own xs o)

  two_texts : (a b : List Fact) → Parts (a ++ b) (λ o. texts o (a ++ b))
  two_texts a b o = owns_texts K numbers o (a ++ b)

  felem_owns : (e : RawFelem) → Parts (felem_facts e) (felem_things e)
  felem_owns (felem.One e) o = owns_texts K numbers o (expression_uses e reading.Value)
  felem_owns (felem.While e c) o = two_texts (expression_uses e reading.Value) (condition_uses c reading.Value) o
  felem_owns (felem.Step a b c) o =
      two_texts (expression_uses a reading.Value) (expression_uses b reading.Value ++ expression_uses c reading.Value) o

  felems_own : (es : List RawFelem) → Parts (felems_facts es) (felems_things es)
  felems_own [] o = owns_none K numbers o
  felems_own (e ∷ es) o = owns_both K numbers o (felem_facts e) (felems_facts es) (felem_things e o) (felems_things es o) (felem_owns e o) (felems_own es o)

  enclosed_own : (b : Bool) (facts : List Fact) (ts : Things) → Parts facts ts → Parts (enclosed b facts) ts
  enclosed_own true facts ts h o = owns_block K numbers o facts (ts o) (h o)
  enclosed_own false facts ts h o = h o

  declaration_step_owns : (y : DeclParts known) → Parts ((layered facts_pass).decl (decl_layer known y)) ((layered (things_pass named)).decl (decl_layer known y))
  declaration_step_owns (layer.Data d) o = owns_data K numbers o None d
  declaration_step_owns (layer.Overlay at b d) o = owns_overlay K numbers o b (Some (base_at named b)) d
  declaration_step_owns (layer.Switch at n labels) o = owns_both K numbers o (declares n kind.Switch ∷ []) (each_uses labels) [] [] (owns_other K numbers o kind.Switch n) (owns_uses K numbers o labels)
  declaration_step_owns (layer.Proc p) o = p.1 o

  form_step_owns : (y : FormParts known) → Parts ((layered facts_pass).form (form_layer known y)) ((layered (things_pass named)).form (form_layer known y))
  form_step_owns (layer.Simple s) o = s.1 o
  form_step_owns (layer.If at test labels first None) o =
      owns_both K numbers o (condition_uses test reading.Value) (each_declares kind.Label labels ++ (simple_facts first.0 ++ [])) (texts o (condition_uses test reading.Value)) (simple_things named first.0 o ++ [])
      (owns_texts K numbers o (condition_uses test reading.Value))
      (owns_both K numbers o (each_declares kind.Label labels) (simple_facts first.0 ++ []) [] (simple_things named first.0 o ++ []) (owns_others K numbers o kind.Label labels)
      (owns_both K numbers o (simple_facts first.0) [] (simple_things named first.0 o) [] (first.1 o) (owns_none K numbers o)))
  form_step_owns (layer.If at test labels first (Some s)) o =
      owns_both K numbers o (condition_uses test reading.Value) (each_declares kind.Label labels ++ (simple_facts first.0 ++ statement_facts s.0)) (texts o (condition_uses test reading.Value)) (simple_things named first.0 o ++ statement_things named s.0 o)
      (owns_texts K numbers o (condition_uses test reading.Value))
      (owns_both K numbers o (each_declares kind.Label labels) (simple_facts first.0 ++ statement_facts s.0) [] (simple_things named first.0 o ++ statement_things named s.0 o) (owns_others K numbers o kind.Label labels)
      (owns_both K numbers o (simple_facts first.0) (statement_facts s.0) (simple_things named first.0 o) (statement_things named s.0 o) (first.1 o) (s.1 o)))
  form_step_owns (layer.For at variable elems body) o =
      owns_both K numbers o (fact.Loop at ∷ []) (reference_uses variable reading.Whole ++ (felems_facts elems ++ statement_facts body.0)) (thing sort.Loop at o None 4 ∷ []) (texts o (reference_uses variable reading.Whole) ++ (felems_things elems o ++ statement_things named body.0 o))
      (owns_loop K numbers o at)
      (owns_both K numbers o (reference_uses variable reading.Whole) (felems_facts elems ++ statement_facts body.0) (texts o (reference_uses variable reading.Whole)) (felems_things elems o ++ statement_things named body.0 o)
      (owns_texts K numbers o (reference_uses variable reading.Whole))
      (owns_both K numbers o (felems_facts elems) (statement_facts body.0) (felems_things elems o) (statement_things named body.0 o) (felems_own elems o) (body.1 o)))

  simple_step_owns : (y : SimpleParts known) → Parts ((layered facts_pass).simple (simple_layer known y)) ((layered (things_pass named)).simple (simple_layer known y))
  simple_step_owns layer.Empty o = owns_none K numbers o
  simple_step_owns (layer.Assign r e) o = two_texts (reference_uses r reading.Target) (expression_uses e reading.Value) o
  simple_step_owns (layer.AssignBits bits r e) o = two_texts (reference_uses r reading.Whole) (expression_uses e reading.Value) o
  simple_step_owns (layer.Goto at n) o = owns_use K numbers o n form.Goto
  simple_step_owns (layer.GotoSwitch at n e) o =
      owns_both K numbers o (uses_of n form.GotoSwitch) (expression_uses e reading.Value) [] (texts o (expression_uses e reading.Value)) (owns_use K numbers o n form.GotoSwitch) (owns_texts K numbers o (expression_uses e reading.Value))
  simple_step_owns (layer.Call n es) o = owns_both K numbers o (uses_of n form.Call) (argument_uses es) [] (texts o (argument_uses es)) (owns_use K numbers o n form.Call) (owns_texts K numbers o (argument_uses es))
  simple_step_owns (layer.Answer at e) o =
      owns_both K numbers o (uses_of (answer_name at) form.Answer) (expression_uses e reading.Value) [] (texts o (expression_uses e reading.Value)) (owns_use K numbers o (answer_name at) form.Answer)
      (owns_texts K numbers o (expression_uses e reading.Value))
  simple_step_owns (layer.Block b) o = b.1 false o

  block_step_owns : (y : BlockParts known) (outermost : Bool) → Parts ((layered facts_pass).block (block_layer known y) outermost) ((layered (things_pass named)).block (block_layer known y))
  block_step_owns b outermost =
      let ds = map (λ e. e.0) b.decls in
      let ss = map (λ e. e.0) b.stmts in
      enclosed_own (outermost || not (length (map declaration_facts ds) == 0)) (joined (map declaration_facts ds) ++ joined (map statement_facts ss))
      (λ o. joined_things (map (declaration_things named) ds) o ++ joined_things (map (statement_things named) ss) o)
      (λ o.
      owns_both K numbers o (joined (map declaration_facts ds)) (joined (map statement_facts ss)) (joined_things (map (declaration_things named) ds) o) (joined_things (map (statement_things named) ss) o) (declarations_own b.decls o) (statements_own b.stmts o))

  procedure_step_owns : (y : ProcParts known) → Parts ((layered facts_pass).proc (proc_layer known y)) ((layered (things_pass named)).proc (proc_layer known y))
  procedure_step_owns p o =
      let w : Owner = record { token = p.name.at.token; recursive = is_recursive p.tag } in
      owns_procedure K numbers o w p.name p.answer (flattened p.params) refl (answer_facts p.answer ++ (parameters_facts p.params ++ statement_facts p.body.0)) (parameters_things (Some w) p.params ++ statement_things named p.body.0 (Some w))
      (owns_both K numbers (Some w) (answer_facts p.answer) (parameters_facts p.params ++ statement_facts p.body.0) [] (parameters_things (Some w) p.params ++ statement_things named p.body.0 (Some w)) (owns_answer K numbers (Some w) p.answer)
      (owns_both K numbers (Some w) (parameters_facts p.params) (statement_facts p.body.0) (parameters_things (Some w) p.params) (statement_things named p.body.0 (Some w)) (owns_parameters K numbers (Some w) p.params) (p.body.1 (Some w))))

  statement_step_owns : (y : StmtParts known) → Parts ((layered facts_pass).stmt (stmt_layer known y)) ((layered (things_pass named)).stmt (stmt_layer known y))
  statement_step_owns s o =
      owns_both K numbers o (each_declares kind.Label s.labels) (form_facts s.form.0) [] (form_things named s.form.0 o) (owns_others K numbers o kind.Label s.labels) (s.form.1 o)

  rules : Rules known
  rules = record {
    decl = λ y. moved_two Parts ((rolls facts_pass).decl (decl_layer known y)) ((rolls (things_pass named)).decl (decl_layer known y)) (declaration_step_owns y);
    form = λ y. moved_two Parts ((rolls facts_pass).form (form_layer known y)) ((rolls (things_pass named)).form (form_layer known y)) (form_step_owns y);
    simple = λ y. moved_two Parts ((rolls facts_pass).simple (simple_layer known y)) ((rolls (things_pass named)).simple (simple_layer known y)) (simple_step_owns y);
    block = λ y outermost. moved_two Parts (ap (λ f. f outermost) ((rolls facts_pass).block (block_layer known y))) ((rolls (things_pass named)).block (block_layer known y)) (block_step_owns y outermost);
    proc = λ y. moved_two Parts ((rolls facts_pass).proc (proc_layer known y)) ((rolls (things_pass named)).proc (proc_layer known y)) (procedure_step_owns y);
    stmt = λ y. moved_two Parts ((rolls facts_pass).stmt (stmt_layer known y)) ((rolls (things_pass named)).stmt (stmt_layer known y)) (statement_step_owns y);
  }

  pub block_owns : (x : RawBlock) → RawBlockOwns x
  block_owns = each_block known rules
