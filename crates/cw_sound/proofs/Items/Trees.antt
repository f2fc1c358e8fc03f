-- What the statements of a text store.
use Rattle.std.proofs.Common.{List, [], ◌∷◌, ◌++◌, length, map, Bool, true, false, ◌||◌, not, ◌==◌, Option, Some, None, refl, ap}
use Rattle.cw_tree.specs.declared.statement.RawFelem.{RawFelem}
use Rattle.cw_tree.specs.declared.statement.RawFelem.TheVariants as felem
use Rattle.cw_tree.specs.declared.statement.RawDecl.{RawDecl}
use Rattle.cw_tree.specs.declared.statement.RawForm.{RawForm}
use Rattle.cw_tree.specs.declared.statement.RawSimple.{RawSimple}
use Rattle.cw_tree.specs.declared.statement.RawBlock.{RawBlock}
use Rattle.cw_tree.specs.declared.statement.RawProc.{RawProc}
use Rattle.cw_tree.specs.declared.statement.RawStmt.{RawStmt}
use Rattle.cw_tree.specs.declared.statement.RawDecl.TheOpen as layer
use Rattle.cw_facts.specs.declared.fact.Fact.{Fact}
use Rattle.cw_facts.specs.declared.fact.Fact.TheVariants as fact
use Rattle.cw_facts.specs.declared.fact.Form.TheVariants as form
use Rattle.cw_facts.specs.declared.fact.Kind.TheVariants as kind
use Rattle.cw_facts.specs.declared.fact.Reading.TheVariants as reading
use Rattle.cw_facts.specs.Signatures.{flattened}
use Rattle.cw_facts.specs.Uses.{uses_of, expression_uses, condition_uses, reference_uses, argument_uses}
use Rattle.cw_facts.specs.Facts.{joined, declares, specifies, each_declares, each_uses, parameters_facts, answer_facts, answer_name, felem_facts, felems_facts, enclosed, declaration_facts, form_facts, simple_facts, block_facts, procedure_facts, statement_facts}
use Rattle.cw_scope.specs.declared.resolve.Named.{Named}
use Rattle.cw_items.specs.declared.thing.Owner.{Owner}
use Rattle.cw_items.specs.declared.thing.Sort.TheVariants as sort
use Rattle.cw_items.specs.Things.{Things, joined as joined_things, thing, texts, base_at, parameters_things, felem_things, felems_things, is_recursive, declaration_things, form_things, simple_things, block_things, procedure_things, statement_things}
use Rattle.cw_make_items.specs.Lookup.{Numbers}
use Rattle.cw_sound.specs.Items.Bodies.{Stored}
use Rattle.cw_sound.proofs.Items.Lists.{each-append, moved_two}
use Rattle.cw_sound.proofs.Items.Leaf.{IsLeaf}
use Rattle.cw_sound.proofs.Expressions.Facts.{expression_facts, condition_facts, reference_facts, argument_facts}
use Rattle.cw_sound.proofs.Items.Leaves.{Leaves, leaves}
use Rattle.cw_sound.proofs.Items.Stores.{Stores, stores-both, stores-none, stores-other, stores-others, stores-use, stores-uses, stores-specification, stores-loop, stores-block, stores-procedure, stores-data, stores-overlay, stores-parameters, stores-answer, stores-texts}
use Rattle.cw_macro.specs.Premises.{Each}
use Rattle.cw_sound.proofs.Statements.Layers.{Known, WithDecl, WithStmt, DeclParts, FormParts, SimpleParts, BlockParts, ProcParts, StmtParts, decl_layer, form_layer, simple_layer, block_layer, proc_layer, stmt_layer, Rules, each_decl, each_block, each_stmt}
use Rattle.cw_sound.proofs.Statements.Passes.{layered, rolls}
use Rattle.cw_sound.proofs.Statements.Folds.{facts_pass, things_pass}

module _ (H : Stored → Type 0) (numbers : Numbers) (named : Named) where
  abbrev pub Parts : List Fact → Things → Type 0
  Parts facts ts = (o : Option Owner) → Stores H numbers o facts (ts o)

  abbrev pub RawDeclStores : RawDecl → Type 0
  RawDeclStores x = Parts (declaration_facts x) (declaration_things named x)

  abbrev pub RawFormStores : RawForm → Type 0
  RawFormStores x = Parts (form_facts x) (form_things named x)

  abbrev pub RawSimpleStores : RawSimple → Type 0
  RawSimpleStores x = Parts (simple_facts x) (simple_things named x)

  abbrev pub RawBlockStores : RawBlock → Type 0
  RawBlockStores x = (outermost : Bool) → Parts (block_facts x outermost) (block_things named x)

  abbrev pub RawProcStores : RawProc → Type 0
  RawProcStores x = Parts (procedure_facts x) (procedure_things named x)

  abbrev pub RawStmtStores : RawStmt → Type 0
  RawStmtStores x = Parts (statement_facts x) (statement_things named x)

  abbrev known : Known
  known = record { Decl = RawDeclStores; Form = RawFormStores; Simple = RawSimpleStores; Block = RawBlockStores; Proc = RawProcStores; Stmt = RawStmtStores }

  declarations-store : (xs : List (WithDecl known)) → Parts (joined (map declaration_facts (map (λ e. e.0) xs))) (joined_things (map (declaration_things named) (map (λ e. e.0) xs)))
  declarations-store [] o = stores-none H numbers o
  declarations-store (x ∷ xs) o =
      stores-both H numbers o (declaration_facts x.0) (joined (map declaration_facts (map (λ e. e.0) xs))) (declaration_things named x.0 o) (joined_things (map (declaration_things named) (map (λ e. e.0) xs)) o) (x.1 o) (declarations-store xs o)

  statements-store : (xs : List (WithStmt known)) → Parts (joined (map statement_facts (map (λ e. e.0) xs))) (joined_things (map (statement_things named) (map (λ e. e.0) xs)))
  statements-store [] o = stores-none H numbers o
  statements-store (x ∷ xs) o =
      stores-both H numbers o (statement_facts x.0) (joined (map statement_facts (map (λ e. e.0) xs))) (statement_things named x.0 o) (joined_things (map (statement_things named) (map (λ e. e.0) xs)) o) (x.1 o) (statements-store xs o)

  two-texts : (a b : List Fact) → Each IsLeaf a → Each IsLeaf b → Parts (a ++ b) (λ o. texts o (a ++ b))
  two-texts a b h k o = stores-texts H numbers o (a ++ b) (each-append IsLeaf a b h k)

  felem-stores : (e : RawFelem) → Parts (felem_facts e) (felem_things e)
  felem-stores (felem.One e) o = stores-texts H numbers o (expression_uses e reading.Value) (expression_facts Leaves leaves e reading.Value)
  felem-stores (felem.While e c) o = two-texts (expression_uses e reading.Value) (condition_uses c reading.Value) (expression_facts Leaves leaves e reading.Value) (condition_facts Leaves leaves c reading.Value) o
  felem-stores (felem.Step a b c) o =
      two-texts (expression_uses a reading.Value) (expression_uses b reading.Value ++ expression_uses c reading.Value) (expression_facts Leaves leaves a reading.Value)
      (each-append IsLeaf (expression_uses b reading.Value) (expression_uses c reading.Value) (expression_facts Leaves leaves b reading.Value) (expression_facts Leaves leaves c reading.Value)) o

  felems-store : (es : List RawFelem) → Parts (felems_facts es) (felems_things es)
  felems-store [] o = stores-none H numbers o
  felems-store (e ∷ es) o = stores-both H numbers o (felem_facts e) (felems_facts es) (felem_things e o) (felems_things es o) (felem-stores e o) (felems-store es o)

  enclosed-store : (b : Bool) (facts : List Fact) (ts : Things) → Parts facts ts → Parts (enclosed b facts) ts
  enclosed-store true facts ts h o = stores-block H numbers o facts (ts o) (h o)
  enclosed-store false facts ts h o = h o

  declaration-stores : (y : DeclParts known) → Parts ((layered facts_pass).decl (decl_layer known y)) ((layered (things_pass named)).decl (decl_layer known y))
  declaration-stores (layer.Data d) o = stores-data H numbers o None d
  declaration-stores (layer.Overlay at b d) o = stores-overlay H numbers o b (Some (base_at named b)) d
  declaration-stores (layer.Switch at n labels) o = stores-both H numbers o (declares n kind.Switch ∷ []) (each_uses labels) [] [] (stores-other H numbers o kind.Switch n ((λ who token. tt), refl)) (stores-uses H numbers o labels)
  declaration-stores (layer.Proc p) o = p.1 o

  form-stores : (y : FormParts known) → Parts ((layered facts_pass).form (form_layer known y)) ((layered (things_pass named)).form (form_layer known y))
  form-stores (layer.Simple s) o = s.1 o
  form-stores (layer.If at test labels first None) o =
      stores-both H numbers o (condition_uses test reading.Value) (each_declares kind.Label labels ++ (simple_facts first.0 ++ [])) (texts o (condition_uses test reading.Value)) (simple_things named first.0 o ++ [])
      (stores-texts H numbers o (condition_uses test reading.Value) (condition_facts Leaves leaves test reading.Value))
      (stores-both H numbers o (each_declares kind.Label labels) (simple_facts first.0 ++ []) [] (simple_things named first.0 o ++ []) (stores-others H numbers o kind.Label labels ((λ who token. tt), refl))
      (stores-both H numbers o (simple_facts first.0) [] (simple_things named first.0 o) [] (first.1 o) (stores-none H numbers o)))
  form-stores (layer.If at test labels first (Some s)) o =
      stores-both H numbers o (condition_uses test reading.Value) (each_declares kind.Label labels ++ (simple_facts first.0 ++ statement_facts s.0)) (texts o (condition_uses test reading.Value)) (simple_things named first.0 o ++ statement_things named s.0 o)
      (stores-texts H numbers o (condition_uses test reading.Value) (condition_facts Leaves leaves test reading.Value))
      (stores-both H numbers o (each_declares kind.Label labels) (simple_facts first.0 ++ statement_facts s.0) [] (simple_things named first.0 o ++ statement_things named s.0 o) (stores-others H numbers o kind.Label labels ((λ who token. tt), refl))
      (stores-both H numbers o (simple_facts first.0) (statement_facts s.0) (simple_things named first.0 o) (statement_things named s.0 o) (first.1 o) (s.1 o)))
  form-stores (layer.For at variable elems body) o =
      stores-both H numbers o (fact.Loop at ∷ []) (reference_uses variable reading.Whole ++ (felems_facts elems ++ statement_facts body.0)) (thing sort.Loop at o None 4 ∷ []) (texts o (reference_uses variable reading.Whole) ++ (felems_things elems o ++ statement_things named body.0 o))
      (stores-loop H numbers o at)
      (stores-both H numbers o (reference_uses variable reading.Whole) (felems_facts elems ++ statement_facts body.0) (texts o (reference_uses variable reading.Whole)) (felems_things elems o ++ statement_things named body.0 o)
      (stores-texts H numbers o (reference_uses variable reading.Whole) (reference_facts Leaves leaves variable reading.Whole))
      (stores-both H numbers o (felems_facts elems) (statement_facts body.0) (felems_things elems o) (statement_things named body.0 o) (felems-store elems o) (body.1 o)))

  simple-stores : (y : SimpleParts known) → Parts ((layered facts_pass).simple (simple_layer known y)) ((layered (things_pass named)).simple (simple_layer known y))
  simple-stores layer.Empty o = stores-none H numbers o
  simple-stores (layer.Assign r e) o = two-texts (reference_uses r reading.Target) (expression_uses e reading.Value) (reference_facts Leaves leaves r reading.Target) (expression_facts Leaves leaves e reading.Value) o
  simple-stores (layer.AssignBits bits r e) o = two-texts (reference_uses r reading.Whole) (expression_uses e reading.Value) (reference_facts Leaves leaves r reading.Whole) (expression_facts Leaves leaves e reading.Value) o
  simple-stores (layer.Goto at n) o = stores-use H numbers o n form.Goto
  simple-stores (layer.GotoSwitch at n e) o =
      stores-both H numbers o (uses_of n form.GotoSwitch) (expression_uses e reading.Value) [] (texts o (expression_uses e reading.Value)) (stores-use H numbers o n form.GotoSwitch) (stores-texts H numbers o (expression_uses e reading.Value) (expression_facts Leaves leaves e reading.Value))
  simple-stores (layer.Call n es) o = stores-both H numbers o (uses_of n form.Call) (argument_uses es) [] (texts o (argument_uses es)) (stores-use H numbers o n form.Call) (stores-texts H numbers o (argument_uses es) (argument_facts Leaves leaves es))
  simple-stores (layer.Answer at e) o =
      stores-both H numbers o (uses_of (answer_name at) form.Answer) (expression_uses e reading.Value) [] (texts o (expression_uses e reading.Value)) (stores-use H numbers o (answer_name at) form.Answer)
      (stores-texts H numbers o (expression_uses e reading.Value) (expression_facts Leaves leaves e reading.Value))
  simple-stores (layer.Block b) o = b.1 false o

  block-stores : (y : BlockParts known) (outermost : Bool) → Parts ((layered facts_pass).block (block_layer known y) outermost) ((layered (things_pass named)).block (block_layer known y))
  block-stores b outermost =
      let ds = map (λ e. e.0) b.decls in
      let ss = map (λ e. e.0) b.stmts in
      enclosed-store (outermost || not (length (map declaration_facts ds) == 0)) (joined (map declaration_facts ds) ++ joined (map statement_facts ss))
      (λ o. joined_things (map (declaration_things named) ds) o ++ joined_things (map (statement_things named) ss) o)
      (λ o.
      stores-both H numbers o (joined (map declaration_facts ds)) (joined (map statement_facts ss)) (joined_things (map (declaration_things named) ds) o) (joined_things (map (statement_things named) ss) o) (declarations-store b.decls o) (statements-store b.stmts o))

  procedure-stores : (y : ProcParts known) → Parts ((layered facts_pass).proc (proc_layer known y)) ((layered (things_pass named)).proc (proc_layer known y))
  procedure-stores p o =
      let w : Owner = record { token = p.name.at.token; recursive = is_recursive p.tag } in
      let inside = answer_facts p.answer ++ (parameters_facts p.params ++ statement_facts p.body.0) in
      let things = parameters_things (Some w) p.params ++ statement_things named p.body.0 (Some w) in
      stores-both H numbers o (declares p.name (kind.Proc p.answer) ∷ []) (specifies p.name.at.token p.answer (flattened p.params) ∷ fact.Block (Some w.token) inside ∷ []) [] things (stores-other H numbers o (kind.Proc p.answer) p.name ((λ who token. tt), refl))
      (stores-both H numbers o (specifies p.name.at.token p.answer (flattened p.params) ∷ []) (fact.Block (Some w.token) inside ∷ []) [] things (stores-specification H numbers o p.name.at.token p.answer (flattened p.params))
      (stores-procedure H numbers o w inside things
      (stores-both H numbers (Some w) (answer_facts p.answer) (parameters_facts p.params ++ statement_facts p.body.0) [] things (stores-answer H numbers (Some w) p.answer)
      (stores-both H numbers (Some w) (parameters_facts p.params) (statement_facts p.body.0) (parameters_things (Some w) p.params) (statement_things named p.body.0 (Some w)) (stores-parameters H numbers (Some w) p.params) (p.body.1 (Some w))))))

  statement-stores : (y : StmtParts known) → Parts ((layered facts_pass).stmt (stmt_layer known y)) ((layered (things_pass named)).stmt (stmt_layer known y))
  statement-stores s o =
      stores-both H numbers o (each_declares kind.Label s.labels) (form_facts s.form.0) [] (form_things named s.form.0 o) (stores-others H numbers o kind.Label s.labels ((λ who token. tt), refl)) (s.form.1 o)

  rules : Rules known
  rules = record {
    decl = λ y. moved_two Parts ((rolls facts_pass).decl (decl_layer known y)) ((rolls (things_pass named)).decl (decl_layer known y)) (declaration-stores y);
    form = λ y. moved_two Parts ((rolls facts_pass).form (form_layer known y)) ((rolls (things_pass named)).form (form_layer known y)) (form-stores y);
    simple = λ y. moved_two Parts ((rolls facts_pass).simple (simple_layer known y)) ((rolls (things_pass named)).simple (simple_layer known y)) (simple-stores y);
    block = λ y outermost. moved_two Parts (ap (λ f. f outermost) ((rolls facts_pass).block (block_layer known y))) ((rolls (things_pass named)).block (block_layer known y)) (block-stores y outermost);
    proc = λ y. moved_two Parts ((rolls facts_pass).proc (proc_layer known y)) ((rolls (things_pass named)).proc (proc_layer known y)) (procedure-stores y);
    stmt = λ y. moved_two Parts ((rolls facts_pass).stmt (stmt_layer known y)) ((rolls (things_pass named)).stmt (stmt_layer known y)) (statement-stores y);
  }

  pub block_stores : (x : RawBlock) → RawBlockStores x
  block_stores = each_block known rules

  declaration_stores : (x : RawDecl) → RawDeclStores x
  declaration_stores = each_decl known rules

  pub statement_stores : (x : RawStmt) → RawStmtStores x
  statement_stores = each_stmt known rules

  all-declarations : (ds : List RawDecl) → Parts (joined (map declaration_facts ds)) (joined_things (map (declaration_things named) ds))
  all-declarations [] o = stores-none H numbers o
  all-declarations (d ∷ ds) o =
      stores-both H numbers o (declaration_facts d) (joined (map declaration_facts ds)) (declaration_things named d o) (joined_things (map (declaration_things named) ds) o) (declaration_stores d o) (all-declarations ds o)

  all-statements : (ss : List RawStmt) → Parts (joined (map statement_facts ss)) (joined_things (map (statement_things named) ss))
  all-statements [] o = stores-none H numbers o
  all-statements (s ∷ ss) o =
      stores-both H numbers o (statement_facts s) (joined (map statement_facts ss)) (statement_things named s o) (joined_things (map (statement_things named) ss) o) (statement_stores s o) (all-statements ss o)

  -- what stands in a block
  pub inner-stores : (ds : List RawDecl) (ss : List RawStmt) → Parts (joined (map declaration_facts ds) ++ joined (map statement_facts ss)) (λ o. joined_things (map (declaration_things named) ds) o ++ joined_things (map (statement_things named) ss) o)
  inner-stores ds ss o =
      stores-both H numbers o (joined (map declaration_facts ds)) (joined (map statement_facts ss)) (joined_things (map (declaration_things named) ds) o) (joined_things (map (statement_things named) ss) o) (all-declarations ds o) (all-statements ss o)
