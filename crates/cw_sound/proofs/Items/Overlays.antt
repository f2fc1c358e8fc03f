-- What the statements of a text overlay stands on things before it.
use Rattle.std.proofs.Common.{◌≡◌, List, [], ◌∷◌, ◌++◌, length, map, Bool, true, false, ◌||◌, not, ◌==◌, Option, Some, None, is_some, refl, inl, inr, ap}
use Rattle.std.proofs.lemmas.Option.{none-some}
use Rattle.cw_table.specs.declared.table.Row.{Row}
use Rattle.cw_tree.specs.declared.statement.RawDecl.{RawDecl}
use Rattle.cw_tree.specs.declared.statement.RawForm.{RawForm}
use Rattle.cw_tree.specs.declared.statement.RawSimple.{RawSimple}
use Rattle.cw_tree.specs.declared.statement.RawBlock.{RawBlock}
use Rattle.cw_tree.specs.declared.statement.RawProc.{RawProc}
use Rattle.cw_tree.specs.declared.statement.RawStmt.{RawStmt}
use Rattle.cw_tree.specs.declared.statement.RawDecl.TheOpen as layer
use Rattle.cw_facts.specs.declared.fact.Fact.{Fact}
use Rattle.cw_facts.specs.declared.fact.Fact.TheVariants as fact
use Rattle.cw_facts.specs.declared.fact.Kind.TheVariants as kind
use Rattle.cw_facts.specs.declared.fact.Reading.TheVariants as reading
use Rattle.cw_facts.specs.Signatures.{flattened}
use Rattle.cw_facts.specs.Uses.{expression_uses, condition_uses, reference_uses, argument_uses}
use Rattle.cw_facts.specs.Facts.{joined, declares, specifies, each_declares, parameters_facts, answer_facts, felems_facts, enclosed, declaration_facts, form_facts, simple_facts, block_facts, procedure_facts, statement_facts}
use Rattle.cw_scope.specs.declared.resolve.Named.{Named}
use Rattle.cw_scope.specs.Scope.{Environment}
use Rattle.cw_scope.specs.NameRules.{said, within}
use Rattle.cw_scale.specs.Faults.{Judgement, fine, both}
use Rattle.cw_items.specs.declared.families.Site.{Site}
use Rattle.cw_items.specs.declared.thing.Owner.{Owner}
use Rattle.cw_items.specs.declared.thing.Thing.{Thing}
use Rattle.cw_items.specs.Things.{Things, joined as joined_things, texts, parameters_things, felems_things, is_recursive, declaration_things, form_things, simple_things, block_things, procedure_things, statement_things}
use Rattle.cw_judge.specs.Judged.{condition_judged, reference_judged, felems_judged, scale_of, all_judged, declaration_judged, form_judged, simple_judged, block_judged, procedure_judged, statement_judged}
use Rattle.cw_data.specs.Specifications.{heading_judged}
use Rattle.cw_sound.proofs.Items.Lists.{In, in-left, in-right, each-append, moved_three}
use Rattle.cw_sound.proofs.Items.Sound.{Sound, sound-parts, sound-inside, not-nested}
use Rattle.cw_sound.proofs.Items.Bases.{HasBase, HasBases, EnvSeen, texts-baseless, felems-baseless, parameters-baseless, data-baseless, overlay-based, env-inside}
use Rattle.cw_sound.proofs.Items.Stores.{Stores, stores-both, stores-answer, stores-parameters}
use Rattle.cw_sound.proofs.Items.Trees.{inner-stores, statement_stores}
use Rattle.cw_sound.proofs.Statements.Keeping.{all_keep, elements_keep, declaration_keeps, simple_keeps, statement_keeps}
use Rattle.cw_sound.proofs.Expressions.Judging.{Keeps, keeps_fine, keeps_both, both_free}
use Rattle.cw_sound.proofs.Statements.Layers.{Known, WithDecl, WithStmt, DeclParts, FormParts, SimpleParts, BlockParts, ProcParts, StmtParts, decl_layer, form_layer, simple_layer, block_layer, proc_layer, stmt_layer, Rules, each_block}
use Rattle.cw_sound.proofs.Statements.Passes.{layered, rolls}
use Rattle.cw_sound.proofs.Statements.Folds.{facts_pass, things_pass, judged_pass}

outside : (o : Option Owner) → is_some o ≡ false → o ≡ None
outside None e = refl
outside (Some w) e = absurd cc

module _ (named : Named) (sites : List (Row Site)) (all : List Thing) where
  abbrev pub Parts : List Fact → Things → Judgement → Type 0
  Parts facts ts j =
      (env : Environment) (o : Option Owner) → Sound named env (is_some o) facts → EnvSeen all env o → j None ≡ None → ((t : Thing) → In t (ts o) → In t all) → HasBases all (ts o)

  abbrev pub RawDeclBased : RawDecl → Type 0
  RawDeclBased x = Parts (declaration_facts x) (declaration_things named x) (declaration_judged named sites x)

  abbrev pub RawFormBased : RawForm → Type 0
  RawFormBased x = Parts (form_facts x) (form_things named x) (form_judged named sites x)

  abbrev pub RawSimpleBased : RawSimple → Type 0
  RawSimpleBased x = Parts (simple_facts x) (simple_things named x) (simple_judged named sites x)

  abbrev pub RawBlockBased : RawBlock → Type 0
  RawBlockBased x = (outermost : Bool) → Parts (block_facts x outermost) (block_things named x) (block_judged named sites x)

  abbrev pub RawProcBased : RawProc → Type 0
  RawProcBased x = Parts (procedure_facts x) (procedure_things named x) (procedure_judged named sites x)

  abbrev pub RawStmtBased : RawStmt → Type 0
  RawStmtBased x = Parts (statement_facts x) (statement_things named x) (statement_judged named sites x)

  abbrev known : Known
  known = record { Decl = RawDeclBased; Form = RawFormBased; Simple = RawSimpleBased; Block = RawBlockBased; Proc = RawProcBased; Stmt = RawStmtBased }

  -- two parts, one after the other
  two : (a b : List Fact) (ts ss : Things) (j k : Judgement) → Keeps k → Parts a ts j → Parts b ss k → Parts (a ++ b) (λ o. ts o ++ ss o) (both j k)
  two a b ts ss j k keeps h g env o s seen free all_in =
      let parts = sound-parts named env (is_some o) a b s in
      let frees = both_free j k keeps free in
      each-append (HasBase all) (ts o) (ss o) (h env o parts.0 seen frees.0 (λ t i. all_in t (in-left t (ts o) (ss o) i))) (g env o parts.1 seen frees.1 (λ t i. all_in t (in-right t (ts o) (ss o) i)))

  -- a part that stores nothing before another
  behind : (a b : List Fact) (ts : Things) (j : Judgement) → Parts b ts j → Parts (a ++ b) ts j
  behind a b ts j h env o s seen free all_in = h env o (sound-parts named env (is_some o) a b s).1 seen free all_in

  abbrev nothing : Things
  nothing o = []

  none-based : (facts : List Fact) (j : Judgement) → Parts facts nothing j
  none-based facts j env o s seen free all_in = tt

  texts-based : (facts fs : List Fact) (j : Judgement) → Parts facts (λ o. texts o fs) j
  texts-based facts fs j env o s seen free all_in = texts-baseless all o fs

  all-based : {X : Type 0} (facts : X → List Fact) (things : X → Things) (judged : X → Judgement) (keeps : (x : X) → Keeps (judged x)) (xs : List ((x : X) × Parts (facts x) (things x) (judged x)))
      → Parts (joined (map facts (map (λ e. e.0) xs))) (joined_things (map things (map (λ e. e.0) xs))) (all_judged (map judged (map (λ e. e.0) xs)))
  all-based facts things judged keeps [] env o s seen free all_in = tt
  all-based facts things judged keeps (x ∷ xs) env o s seen free all_in =
      two (facts x.0) (joined (map facts (map (λ e. e.0) xs))) (things x.0) (joined_things (map things (map (λ e. e.0) xs))) (judged x.0) (all_judged (map judged (map (λ e. e.0) xs)))
      (all_keep judged keeps (map (λ e. e.0) xs)) x.1 (all-based facts things judged keeps xs) env o s seen free all_in

  enclosed-based : (b : Bool) (facts : List Fact) (ts : Things) (j : Judgement) → ((o : Option Owner) → Stores (λ x. Unit {0}) [] o facts (ts o)) → Parts facts ts j → Parts (enclosed b facts) ts j
  enclosed-based true facts ts j stores h env o s seen free all_in =
      h (within env (map said facts)) o (sound-inside named env (is_some o) None facts s) (env-inside all env o o facts (ts o) (inr refl) (stores o) all_in seen) free all_in
  enclosed-based false facts ts j stores h env o s seen free all_in = h env o s seen free all_in

  declaration-based : (y : DeclParts known) → Parts ((layered facts_pass).decl (decl_layer known y)) ((layered (things_pass named)).decl (decl_layer known y)) ((layered (judged_pass named sites)).decl (decl_layer known y))
  declaration-based (layer.Data d) env o s seen free all_in = data-baseless all o d
  declaration-based (layer.Overlay at b d) env o s seen free all_in = overlay-based all named sites env o b d s seen free
  declaration-based (layer.Switch at n labels) env o s seen free all_in = tt
  declaration-based (layer.Proc p) env o s seen free all_in = p.1 env o s seen free all_in

  form-based : (y : FormParts known) → Parts ((layered facts_pass).form (form_layer known y)) ((layered (things_pass named)).form (form_layer known y)) ((layered (judged_pass named sites)).form (form_layer known y))
  form-based (layer.Simple x) env o s seen free all_in = x.1 env o s seen free all_in
  form-based (layer.If at test labels first None) env o s seen free all_in =
      two (condition_uses test reading.Value) (each_declares kind.Label labels ++ (simple_facts first.0 ++ [])) (λ o. texts o (condition_uses test reading.Value)) (λ o. simple_things named first.0 o ++ nothing o)
      (condition_judged named test) (both (simple_judged named sites first.0) fine) (keeps_both (simple_keeps named sites first.0) keeps_fine)
      (texts-based (condition_uses test reading.Value) (condition_uses test reading.Value) (condition_judged named test))
      (behind (each_declares kind.Label labels) (simple_facts first.0 ++ []) (λ o. simple_things named first.0 o ++ nothing o) (both (simple_judged named sites first.0) fine)
      (two (simple_facts first.0) [] (simple_things named first.0) nothing (simple_judged named sites first.0) fine keeps_fine first.1 (none-based [] fine)))
      env o s seen free all_in
  form-based (layer.If at test labels first (Some z)) env o s seen free all_in =
      two (condition_uses test reading.Value) (each_declares kind.Label labels ++ (simple_facts first.0 ++ (statement_facts z.0))) (λ o. texts o (condition_uses test reading.Value)) (λ o. simple_things named first.0 o ++ (statement_things named z.0) o)
      (condition_judged named test) (both (simple_judged named sites first.0) (statement_judged named sites z.0)) (keeps_both (simple_keeps named sites first.0) (statement_keeps named sites z.0))
      (texts-based (condition_uses test reading.Value) (condition_uses test reading.Value) (condition_judged named test))
      (behind (each_declares kind.Label labels) (simple_facts first.0 ++ (statement_facts z.0)) (λ o. simple_things named first.0 o ++ (statement_things named z.0) o) (both (simple_judged named sites first.0) (statement_judged named sites z.0))
      (two (simple_facts first.0) (statement_facts z.0) (simple_things named first.0) (statement_things named z.0) (simple_judged named sites first.0) (statement_judged named sites z.0) (statement_keeps named sites z.0) first.1 z.1))
      env o s seen free all_in
  form-based (layer.For at variable elems body) env o s seen free all_in =
      let j = felems_judged named (scale_of named variable) elems in
      let k = statement_judged named sites body.0 in
      let frees = both_free (reference_judged named variable) (both j k) (keeps_both (elements_keep named (scale_of named variable) elems) (statement_keeps named sites body.0)) free in
      let parts = sound-parts named env (is_some o) (reference_uses variable reading.Whole) (felems_facts elems ++ statement_facts body.0) (sound-parts named env (is_some o) (fact.Loop at ∷ []) (reference_uses variable reading.Whole ++ (felems_facts elems ++ statement_facts body.0)) s).1 in
      let rest = (λ (t : Thing) (i : In t (felems_things elems o ++ statement_things named body.0 o)).
      all_in t (inr (in-right t (texts o (reference_uses variable reading.Whole)) (felems_things elems o ++ statement_things named body.0 o) i))) in (
        (λ b e. absurd (none-some b e)),
        each-append (HasBase all) (texts o (reference_uses variable reading.Whole)) (felems_things elems o ++ statement_things named body.0 o) (texts-baseless all o (reference_uses variable reading.Whole))
            (two (felems_facts elems) (statement_facts body.0) (felems_things elems) (statement_things named body.0) j k (statement_keeps named sites body.0)
            (λ env o s seen free all_in. felems-baseless all o elems) body.1 env o parts.1 seen frees.1 rest),
      )

  simple-based : (y : SimpleParts known) → Parts ((layered facts_pass).simple (simple_layer known y)) ((layered (things_pass named)).simple (simple_layer known y)) ((layered (judged_pass named sites)).simple (simple_layer known y))
  simple-based layer.Empty env o s seen free all_in = tt
  simple-based (layer.Assign r e) env o s seen free all_in = texts-baseless all o (reference_uses r reading.Target ++ expression_uses e reading.Value)
  simple-based (layer.AssignBits bits r e) env o s seen free all_in = texts-baseless all o (reference_uses r reading.Whole ++ expression_uses e reading.Value)
  simple-based (layer.Goto at n) env o s seen free all_in = tt
  simple-based (layer.GotoSwitch at n e) env o s seen free all_in = texts-baseless all o (expression_uses e reading.Value)
  simple-based (layer.Call n es) env o s seen free all_in = texts-baseless all o (argument_uses es)
  simple-based (layer.Answer at e) env o s seen free all_in = texts-baseless all o (expression_uses e reading.Value)
  simple-based (layer.Block b) env o s seen free all_in = b.1 false env o s seen free all_in

  block-based : (y : BlockParts known) (outermost : Bool) → Parts ((layered facts_pass).block (block_layer known y) outermost) ((layered (things_pass named)).block (block_layer known y)) ((layered (judged_pass named sites)).block (block_layer known y))
  block-based b outermost =
      let ds = map (λ e. e.0) b.decls in
      let ss = map (λ e. e.0) b.stmts in
      let facts = joined (map declaration_facts ds) ++ joined (map statement_facts ss) in
      enclosed-based (outermost || not (length (map declaration_facts ds) == 0)) facts
      (λ o. joined_things (map (declaration_things named) ds) o ++ joined_things (map (statement_things named) ss) o)
      (both (all_judged (map (declaration_judged named sites) ds)) (all_judged (map (statement_judged named sites) ss)))
      (inner-stores (λ x. Unit {0}) [] named ds ss)
      (two (joined (map declaration_facts ds)) (joined (map statement_facts ss)) (joined_things (map (declaration_things named) ds)) (joined_things (map (statement_things named) ss))
      (all_judged (map (declaration_judged named sites) ds)) (all_judged (map (statement_judged named sites) ss))
      (all_keep (statement_judged named sites) (statement_keeps named sites) ss) (all-based {X = RawDecl} declaration_facts (declaration_things named) (declaration_judged named sites) (declaration_keeps named sites) b.decls) (all-based {X = RawStmt} statement_facts (statement_things named) (statement_judged named sites) (statement_keeps named sites) b.stmts))

  procedure-based : (y : ProcParts known) → Parts ((layered facts_pass).proc (proc_layer known y)) ((layered (things_pass named)).proc (proc_layer known y)) ((layered (judged_pass named sites)).proc (proc_layer known y))
  procedure-based p env o s seen free all_in =
      let v : Owner = record { token = p.name.at.token; recursive = is_recursive p.tag } in
      let rest = parameters_facts p.params ++ statement_facts p.body.0 in
      let inside = answer_facts p.answer ++ rest in
      let things = parameters_things (Some v) p.params ++ statement_things named p.body.0 (Some v) in
      let one = (sound-parts named env (is_some o) (declares p.name (kind.Proc p.answer) ∷ []) (specifies p.name.at.token p.answer (flattened p.params) ∷ fact.Block (Some v.token) inside ∷ []) s).1 in
      let block = (sound-parts named env (is_some o) (specifies p.name.at.token p.answer (flattened p.params) ∷ []) (fact.Block (Some v.token) inside ∷ []) one).1 in
      let deep = within env (map said inside) in
      let sound = sound-inside named env (is_some o) (Some v.token) inside block in
      let body = (sound-parts named deep true (parameters_facts p.params) (statement_facts p.body.0) (sound-parts named deep true (answer_facts p.answer) rest sound).1).1 in
      let stores = stores-both (λ x. Unit {0}) [] (Some v) (answer_facts p.answer) rest [] things (stores-answer (λ x. Unit {0}) [] (Some v) p.answer)
      (stores-both (λ x. Unit {0}) [] (Some v) (parameters_facts p.params) (statement_facts p.body.0) (parameters_things (Some v) p.params) (statement_things named p.body.0 (Some v)) (stores-parameters (λ x. Unit {0}) [] (Some v) p.params) (statement_stores (λ x. Unit {0}) [] named p.body.0 (Some v))) in
      let outer = outside o (not-nested named env (is_some o) v.token inside block) in
      let known = env-inside all env o (Some v) inside things (inl outer) stores all_in seen in
      let frees = both_free (heading_judged named p.answer p.name p.params) (statement_judged named sites p.body.0) (statement_keeps named sites p.body.0) free in
      each-append (HasBase all) (parameters_things (Some v) p.params) (statement_things named p.body.0 (Some v)) (parameters-baseless all (Some v) p.params)
      (p.body.1 deep (Some v) body known frees.1 (λ t i. all_in t (in-right t (parameters_things (Some v) p.params) (statement_things named p.body.0 (Some v)) i)))

  statement-based : (y : StmtParts known) → Parts ((layered facts_pass).stmt (stmt_layer known y)) ((layered (things_pass named)).stmt (stmt_layer known y)) ((layered (judged_pass named sites)).stmt (stmt_layer known y))
  statement-based x env o s seen free all_in = behind (each_declares kind.Label x.labels) (form_facts x.form.0) (form_things named x.form.0) (form_judged named sites x.form.0) x.form.1 env o s seen free all_in

  rules : Rules known
  rules = record {
    decl = λ y. moved_three Parts ((rolls facts_pass).decl (decl_layer known y)) ((rolls (things_pass named)).decl (decl_layer known y)) ((rolls (judged_pass named sites)).decl (decl_layer known y)) (declaration-based y);
    form = λ y. moved_three Parts ((rolls facts_pass).form (form_layer known y)) ((rolls (things_pass named)).form (form_layer known y)) ((rolls (judged_pass named sites)).form (form_layer known y)) (form-based y);
    simple = λ y. moved_three Parts ((rolls facts_pass).simple (simple_layer known y)) ((rolls (things_pass named)).simple (simple_layer known y)) ((rolls (judged_pass named sites)).simple (simple_layer known y)) (simple-based y);
    block = λ y outermost. moved_three Parts (ap (λ f. f outermost) ((rolls facts_pass).block (block_layer known y))) ((rolls (things_pass named)).block (block_layer known y)) ((rolls (judged_pass named sites)).block (block_layer known y)) (block-based y outermost);
    proc = λ y. moved_three Parts ((rolls facts_pass).proc (proc_layer known y)) ((rolls (things_pass named)).proc (proc_layer known y)) ((rolls (judged_pass named sites)).proc (proc_layer known y)) (procedure-based y);
    stmt = λ y. moved_three Parts ((rolls facts_pass).stmt (stmt_layer known y)) ((rolls (things_pass named)).stmt (stmt_layer known y)) ((rolls (judged_pass named sites)).stmt (stmt_layer known y)) (statement-based y);
  }

  pub block_based : (x : RawBlock) → RawBlockBased x
  block_based = each_block known rules
