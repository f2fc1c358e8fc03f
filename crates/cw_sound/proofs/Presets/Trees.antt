-- What a tree of statements holds stands in no frame: where it is so of the parts, by the layers of trees.
use Rattle.std.proofs.Common.{◌≡◌, List, [], ◌∷◌, ◌++◌, map, Option, Some, None, sym, subst}
use Rattle.cw_table.specs.declared.table.Row.{Row}
use Rattle.cw_tree.specs.declared.leaf.Position.{Position}
use Rattle.cw_tree.specs.declared.leaf.RawName.{RawName}
use Rattle.cw_tree.specs.declared.leaf.RawType.{RawType}
use Rattle.cw_tree.specs.declared.expression.RawBits.{RawBits}
use Rattle.cw_tree.specs.declared.expression.RawCond.{RawCond}
use Rattle.cw_tree.specs.declared.expression.RawExpr.{RawExpr}
use Rattle.cw_tree.specs.declared.expression.RawRef.{RawRef}
use Rattle.cw_tree.specs.declared.items.RawBase.{RawBase}
use Rattle.cw_tree.specs.declared.items.RawData.{RawData}
use Rattle.cw_tree.specs.declared.statement.RawFelem.{RawFelem}
use Rattle.cw_tree.specs.declared.statement.RawFelem.TheVariants as felem
use Rattle.cw_tree.specs.declared.statement.RawParam.{RawParam}
use Rattle.cw_tree.specs.declared.statement.RawPtag.{RawPtag}
use Rattle.cw_tree.specs.declared.statement.RawDecl.{RawDecl}
use Rattle.cw_tree.specs.declared.statement.RawForm.{RawForm}
use Rattle.cw_tree.specs.declared.statement.RawSimple.{RawSimple}
use Rattle.cw_tree.specs.declared.statement.RawBlock.{RawBlock}
use Rattle.cw_tree.specs.declared.statement.RawProc.{RawProc}
use Rattle.cw_tree.specs.declared.statement.RawStmt.{RawStmt, out-RawStmt, fold_out-RawStmt}
use Rattle.cw_tree.specs.declared.statement.RawDecl.TheOpen as layer
use Rattle.cw_tree.specs.declared.statement.RawDecl.TheVariants as decl_tree
use Rattle.cw_tree.specs.declared.statement.RawForm.TheVariants as form_tree
use Rattle.cw_tree.specs.declared.statement.RawSimple.TheVariants as simple_tree
use Rattle.cw_facts.specs.declared.fact.Fact.{Fact}
use Rattle.cw_facts.specs.declared.fact.Reading.TheVariants as reading
use Rattle.cw_facts.specs.Uses.{expression_uses, condition_uses, reference_uses, argument_uses}
use Rattle.cw_grammar.specs.Tokens.{Item, position}
use Rattle.cw_grammar.specs.Statements.{block_tree, stmt_tree, simple_stmt, with_label, proc_tree}
use Rattle.cw_scope.specs.declared.resolve.Named.{Named}
use Rattle.cw_scale.specs.Faults.{Judgement, fine, both}
use Rattle.cw_data.specs.Overlays.{base_judged}
use Rattle.cw_data.specs.Specifications.{heading_judged}
use Rattle.cw_items.specs.declared.families.Site.{Site}
use Rattle.cw_items.specs.declared.thing.Owner.{Owner}
use Rattle.cw_items.specs.Things as stores
use Rattle.cw_items.specs.Things.{Things, texts, base_at, parameters_things, felem_things, felems_things, is_recursive}
use Rattle.cw_judge.specs.Declarations.{declared_judged, overlaid_judged}
use Rattle.cw_judge.specs.Judged as judges
use Rattle.cw_judge.specs.Judged.{condition_judged, reference_judged, felems_judged, scale_of, all_judged}
use Rattle.cw_preset.specs.Strings.{Rows, joined, expression_rows, condition_rows, reference_rows, argument_rows}
use Rattle.cw_preset.specs.Held as holds
use Rattle.cw_preset.specs.Held.{felem_rows, felems_rows}
use Rattle.cw_sound.proofs.Items.Lists.{each-append, each-left, each-right}
use Rattle.cw_sound.proofs.Items.Fitting.{RowsFit, fit-texts}
use Rattle.cw_sound.proofs.Items.FittingExpressions.{expression_fits, condition_fits, reference_fits, arguments_fit}
use Rattle.cw_sound.proofs.Presets.Small.{RowsSmall, rows_append}
use Rattle.cw_sound.proofs.Presets.Frames.{Told, Held, DataHeld, texts_held}
use Rattle.cw_sound.proofs.Statements.Layers.{Known}
use Rattle.cw_sound.proofs.Statements.Folds.{things_pass, rows_pass, judged_pass}
use Rattle.cw_sound.proofs.Statements.Passes.{layered, rolls, LayersKnown, Rolled}
use Rattle.cw_sound.proofs.Statements.Keeping.{elements_keep, all_keep, declaration_keeps, simple_keeps, statement_keeps}
use Rattle.cw_sound.proofs.Expressions.Judging.{Keeps, keeps_fine, keeps_both, both_free}
use Rattle.cw_sound.proofs.Items.Keeping.{keeps_declared}
use Rattle.cw_macro.specs.Premises.{Each}

module _ (named : Named) (sites : List (Row Site)) where
  -- where these things are told and the rules have no fault, these rows are held apart from frames
  abbrev pub Part : Things → Rows → Judgement → Type 0
  Part ts rows j = (o : Option Owner) → j None ≡ None → Each (Told sites) (ts o) → Each (Held sites) rows

  abbrev pub DeclHeld : RawDecl → Type 0
  DeclHeld x = Part (stores.declaration_things named x) (holds.declaration_rows x) (judges.declaration_judged named sites x)

  abbrev pub FormHeld : RawForm → Type 0
  FormHeld x = Part (stores.form_things named x) (holds.form_rows x) (judges.form_judged named sites x)

  abbrev pub SimpleHeld : RawSimple → Type 0
  SimpleHeld x = Part (stores.simple_things named x) (holds.simple_rows x) (judges.simple_judged named sites x)

  abbrev pub BlockHeld : RawBlock → Type 0
  BlockHeld x = Part (stores.block_things named x) (holds.block_rows x) (judges.block_judged named sites x)

  abbrev ProcHeld : RawProc → Type 0
  ProcHeld x = Part (stores.procedure_things named x) (holds.procedure_rows x) (judges.procedure_judged named sites x)

  abbrev pub StmtHeld : RawStmt → Type 0
  StmtHeld x = Part (stores.statement_things named x) (holds.statement_rows x) (judges.statement_judged named sites x)

  -- ---- parts

  moved : {ts us : Things} {rs qs : Rows} {j k : Judgement} → ts ≡ us → rs ≡ qs → j ≡ k → Part ts rs j → Part us qs k
  moved {ts = ts} {us = us} {rs = rs} {qs = qs} {j = j} {k = k} a b c h =
      subst (λ (z : Things). Part z qs k) a (subst (λ (z : Rows). Part ts z k) b (subst (λ (z : Judgement). Part ts rs z) c h))

  two : (ts ss : Things) (rs qs : Rows) (j k : Judgement) → Keeps k → Part ts rs j → Part ss qs k → Part (λ o. ts o ++ ss o) (rs ++ qs) (both j k)
  two ts ss rs qs j k keeps h g o free told =
      let frees = both_free j k keeps free in
      each-append (Held sites) rs qs (h o frees.0 (each-left (Told sites) (ts o) (ss o) told)) (g o frees.1 (each-right (Told sites) (ts o) (ss o) told))

  -- strings, whatever the rules tell of them
  strings : (fs : List Fact) (rows : Rows) (j : Judgement) → ((o : Option Owner) → RowsFit (texts o fs) rows) → RowsSmall rows → Part (λ o. texts o fs) rows j
  strings fs rows j f s o free told = texts_held sites o fs rows (f o) s told

  nothing : (j : Judgement) → Part (λ o. []) [] j
  nothing j o free told = tt

  -- ---- layers

  abbrev held : Known
  held = record { Decl = DeclHeld; Form = FormHeld; Simple = SimpleHeld; Block = BlockHeld; Proc = ProcHeld; Stmt = StmtHeld }

  abbrev layers_held : LayersKnown
  layers_held = record {
    Decl = λ y. Part ((layered (things_pass named)).decl y) ((layered rows_pass).decl y) ((layered (judged_pass named sites)).decl y);
    Form = λ y. Part ((layered (things_pass named)).form y) ((layered rows_pass).form y) ((layered (judged_pass named sites)).form y);
    Simple = λ y. Part ((layered (things_pass named)).simple y) ((layered rows_pass).simple y) ((layered (judged_pass named sites)).simple y);
    Block = λ y. Part ((layered (things_pass named)).block y) ((layered rows_pass).block y) ((layered (judged_pass named sites)).block y);
    Proc = λ y. Part ((layered (things_pass named)).proc y) ((layered rows_pass).proc y) ((layered (judged_pass named sites)).proc y);
    Stmt = λ y. Part ((layered (things_pass named)).stmt y) ((layered rows_pass).stmt y) ((layered (judged_pass named sites)).stmt y);
  }

  rolled : Rolled held layers_held
  rolled = record {
    decl = λ y. moved (sym ((rolls (things_pass named)).decl y)) (sym ((rolls rows_pass).decl y)) (sym ((rolls (judged_pass named sites)).decl y));
    form = λ y. moved (sym ((rolls (things_pass named)).form y)) (sym ((rolls rows_pass).form y)) (sym ((rolls (judged_pass named sites)).form y));
    simple = λ y. moved (sym ((rolls (things_pass named)).simple y)) (sym ((rolls rows_pass).simple y)) (sym ((rolls (judged_pass named sites)).simple y));
    block = λ y. moved (sym ((rolls (things_pass named)).block y)) (sym ((rolls rows_pass).block y)) (sym ((rolls (judged_pass named sites)).block y));
    proc = λ y. moved (sym ((rolls (things_pass named)).proc y)) (sym ((rolls rows_pass).proc y)) (sym ((rolls (judged_pass named sites)).proc y));
    stmt = λ y. moved (sym ((rolls (things_pass named)).stmt y)) (sym ((rolls rows_pass).stmt y)) (sym ((rolls (judged_pass named sites)).stmt y));
  }

  -- ---- simple statements

  pub empty_held : SimpleHeld simple_tree.Empty
  empty_held = subst SimpleHeld simple_tree.rolls-Empty (rolled.simple layer.Empty (nothing fine))

  pub assign_held : (r : RawRef) (x : RawExpr) → RowsSmall (reference_rows r) → RowsSmall (expression_rows x) → SimpleHeld (simple_tree.Assign r x)
  assign_held r x h k =
      subst SimpleHeld (simple_tree.rolls-Assign r x)
      (rolled.simple (layer.Assign r x) (λ o free told.
      texts_held sites o (reference_uses r reading.Target ++ expression_uses x reading.Value) (reference_rows r ++ expression_rows x)
      (fit-texts o (reference_uses r reading.Target) (expression_uses x reading.Value) (reference_rows r) (expression_rows x) (reference_fits r o reading.Target) (expression_fits x o reading.Value)) (rows_append (reference_rows r) (expression_rows x) h k) told))

  pub assign_bits_held : (z : RawBits) (r : RawRef) (x : RawExpr) → RowsSmall (reference_rows r) → RowsSmall (expression_rows x) → SimpleHeld (simple_tree.AssignBits z r x)
  assign_bits_held z r x h k =
      subst SimpleHeld (simple_tree.rolls-AssignBits z r x)
      (rolled.simple (layer.AssignBits z r x) (λ o free told.
      texts_held sites o (reference_uses r reading.Whole ++ expression_uses x reading.Value) (reference_rows r ++ expression_rows x)
      (fit-texts o (reference_uses r reading.Whole) (expression_uses x reading.Value) (reference_rows r) (expression_rows x) (reference_fits r o reading.Whole) (expression_fits x o reading.Value)) (rows_append (reference_rows r) (expression_rows x) h k) told))

  pub goto_held : (at : Position) (f : RawName) → SimpleHeld (simple_tree.Goto at f)
  goto_held at f = subst SimpleHeld (simple_tree.rolls-Goto at f) (rolled.simple (layer.Goto at f) (nothing fine))

  pub goto_switch_held : (at : Position) (f : RawName) (x : RawExpr) → RowsSmall (expression_rows x) → SimpleHeld (simple_tree.GotoSwitch at f x)
  goto_switch_held at f x h =
      subst SimpleHeld (simple_tree.rolls-GotoSwitch at f x) (rolled.simple (layer.GotoSwitch at f x) (λ o free told. texts_held sites o (expression_uses x reading.Value) (expression_rows x) (expression_fits x o reading.Value) h told))

  pub call_held : (f : RawName) (xs : List RawExpr) → RowsSmall (argument_rows xs) → SimpleHeld (simple_tree.Call f xs)
  call_held f xs h = subst SimpleHeld (simple_tree.rolls-Call f xs) (rolled.simple (layer.Call f xs) (λ o free told. texts_held sites o (argument_uses xs) (argument_rows xs) (arguments_fit xs o) h told))

  pub answer_held : (at : Position) (x : RawExpr) → RowsSmall (expression_rows x) → SimpleHeld (simple_tree.Answer at x)
  answer_held at x h =
      subst SimpleHeld (simple_tree.rolls-Answer at x) (rolled.simple (layer.Answer at x) (λ o free told. texts_held sites o (expression_uses x reading.Value) (expression_rows x) (expression_fits x o reading.Value) h told))

  pub inner_held : (b : RawBlock) → BlockHeld b → SimpleHeld (simple_tree.Block b)
  inner_held b h = subst SimpleHeld (simple_tree.rolls-Block b) (rolled.simple (layer.Block b) h)

  -- ---- forms

  simple_form_held : (s : RawSimple) → SimpleHeld s → FormHeld (form_tree.Simple s)
  simple_form_held s h = subst FormHeld (form_tree.rolls-Simple s) (rolled.form (layer.Simple s) h)

  pub if_held : (at : Position) (c : RawCond) (ls : List RawName) (s : RawSimple) → RowsSmall (condition_rows c) → SimpleHeld s → FormHeld (form_tree.If at c ls s None)
  if_held at c ls s h k =
      let things = stores.simple_things named s in
      let judged = judges.simple_judged named sites s in
      subst FormHeld (form_tree.rolls-If at c ls s None)
      (rolled.form (layer.If at c ls s None)
      (two (λ o. texts o (condition_uses c reading.Value)) (λ o. things o ++ []) (condition_rows c) (holds.simple_rows s ++ []) (condition_judged named c) (both judged fine) (keeps_both (simple_keeps named sites s) keeps_fine)
      (strings (condition_uses c reading.Value) (condition_rows c) (condition_judged named c) (λ o. condition_fits c o reading.Value) h) (two things (λ o. []) (holds.simple_rows s) [] judged fine keeps_fine k (nothing fine))))

  pub else_held : (at : Position) (c : RawCond) (ls : List RawName) (s : RawSimple) (x : RawStmt) → RowsSmall (condition_rows c) → SimpleHeld s → StmtHeld x → FormHeld (form_tree.If at c ls s (Some x))
  else_held at c ls s x h k l =
      let things = stores.simple_things named s in
      let more = stores.statement_things named x in
      let judged = judges.simple_judged named sites s in
      let last = judges.statement_judged named sites x in
      subst FormHeld (form_tree.rolls-If at c ls s (Some x))
      (rolled.form (layer.If at c ls s (Some x))
      (two (λ o. texts o (condition_uses c reading.Value)) (λ o. things o ++ more o) (condition_rows c) (holds.simple_rows s ++ holds.statement_rows x) (condition_judged named c) (both judged last) (keeps_both (simple_keeps named sites s) (statement_keeps named sites x))
      (strings (condition_uses c reading.Value) (condition_rows c) (condition_judged named c) (λ o. condition_fits c o reading.Value) h) (two things more (holds.simple_rows s) (holds.statement_rows x) judged last (statement_keeps named sites x) k l)))

  felem_fits : (x : RawFelem) (o : Option Owner) → RowsFit (felem_things x o) (felem_rows x)
  felem_fits (felem.One e) o = expression_fits e o reading.Value
  felem_fits (felem.While e c) o = fit-texts o (expression_uses e reading.Value) (condition_uses c reading.Value) (expression_rows e) (condition_rows c) (expression_fits e o reading.Value) (condition_fits c o reading.Value)
  felem_fits (felem.Step a b c) o =
      fit-texts o (expression_uses a reading.Value) (expression_uses b reading.Value ++ expression_uses c reading.Value) (expression_rows a) (expression_rows b ++ expression_rows c) (expression_fits a o reading.Value)
      (fit-texts o (expression_uses b reading.Value) (expression_uses c reading.Value) (expression_rows b) (expression_rows c) (expression_fits b o reading.Value) (expression_fits c o reading.Value))

  felem_held : (x : RawFelem) (o : Option Owner) → RowsSmall (felem_rows x) → Each (Told sites) (felem_things x o) → Each (Held sites) (felem_rows x)
  felem_held (felem.One e) o h told = texts_held sites o (expression_uses e reading.Value) (expression_rows e) (felem_fits (felem.One e) o) h told
  felem_held (felem.While e c) o h told = texts_held sites o (expression_uses e reading.Value ++ condition_uses c reading.Value) (expression_rows e ++ condition_rows c) (felem_fits (felem.While e c) o) h told
  felem_held (felem.Step a b c) o h told =
      texts_held sites o (expression_uses a reading.Value ++ (expression_uses b reading.Value ++ expression_uses c reading.Value)) (expression_rows a ++ (expression_rows b ++ expression_rows c)) (felem_fits (felem.Step a b c) o) h told

  felems_held : (xs : List RawFelem) (o : Option Owner) → Each (λ x. RowsSmall (felem_rows x)) xs → Each (Told sites) (felems_things xs o) → Each (Held sites) (felems_rows xs)
  felems_held [] o h told = tt
  felems_held (x ∷ xs) o h told =
      each-append (Held sites) (felem_rows x) (felems_rows xs) (felem_held x o h.0 (each-left (Told sites) (felem_things x o) (felems_things xs o) told))
      (felems_held xs o h.1 (each-right (Told sites) (felem_things x o) (felems_things xs o) told))

  pub for_held : (at : Position) (r : RawRef) (xs : List RawFelem) (s : RawStmt) → RowsSmall (reference_rows r) → Each (λ x. RowsSmall (felem_rows x)) xs → StmtHeld s → FormHeld (form_tree.For at r xs s)
  for_held at r xs s h k l =
      let j = felems_judged named (scale_of named r) xs in
      let last = judges.statement_judged named sites s in
      let more = stores.statement_things named s in
      subst FormHeld (form_tree.rolls-For at r xs s)
      (rolled.form (layer.For at r xs s) (λ o free told.
      two (λ o. texts o (reference_uses r reading.Whole)) (λ o. felems_things xs o ++ more o) (reference_rows r) (felems_rows xs ++ holds.statement_rows s) (reference_judged named r) (both j last) (keeps_both (elements_keep named (scale_of named r) xs) (statement_keeps named sites s))
      (strings (reference_uses r reading.Whole) (reference_rows r) (reference_judged named r) (λ o. reference_fits r o reading.Whole) h)
      (two (felems_things xs) more (felems_rows xs) (holds.statement_rows s) j last (statement_keeps named sites s) (λ o free told. felems_held xs o k told) l) o free told.1))

  -- ---- statements

  stmt_held : (ls : List RawName) (f : RawForm) → FormHeld f → StmtHeld (stmt_tree ls f)
  stmt_held ls f h = rolled.stmt (record { labels = ls; form = f }) h

  form_in : (s : RawStmt) → StmtHeld s → FormHeld (out-RawStmt s).form
  form_in s h =
      moved (fold_out-RawStmt Things Things Things Things Things Things (stores.declaration_step named) (stores.form_step named) (stores.simple_step named) (stores.block_step named) (stores.procedure_step named) (stores.statement_step named) s)
      (fold_out-RawStmt Rows Rows Rows Rows Rows Rows holds.declaration_step holds.form_step holds.simple_step holds.block_step holds.procedure_step holds.statement_step s)
      (fold_out-RawStmt Judgement Judgement Judgement Judgement Judgement Judgement (judges.declaration_step named sites) (judges.form_step named sites) (judges.simple_step named sites) (judges.block_step named sites) (judges.procedure_step named sites) (judges.statement_step named sites) s)
      h

  pub labelled_held : (n : RawName) (s : RawStmt) → StmtHeld s → StmtHeld (with_label n s)
  labelled_held n s h = stmt_held (n ∷ (out-RawStmt s).labels) (out-RawStmt s).form (form_in s h)

  pub form_alone : (f : RawForm) → FormHeld f → StmtHeld (stmt_tree [] f)
  form_alone f h = stmt_held [] f h

  pub simple_alone : (s : RawSimple) → SimpleHeld s → StmtHeld (simple_stmt s)
  simple_alone s h = form_alone (form_tree.Simple s) (simple_form_held s h)

  -- ---- declarations

  pub data_held : (d : RawData) → DataHeld sites d → DeclHeld (decl_tree.Data d)
  data_held d h = subst DeclHeld (decl_tree.rolls-Data d) (rolled.decl (layer.Data d) (λ o free told. h o None free told))

  on_base : (b : RawBase) (d : RawData) → overlaid_judged named sites b d None ≡ None → declared_judged sites d None ≡ None
  unfolding overlaid_judged
  on_base b d free = (both_free (base_judged named b) (declared_judged sites d) (keeps_declared sites d) free).1

  pub overlay_held : (at : Position) (b : RawBase) (d : RawData) → DataHeld sites d → DeclHeld (decl_tree.Overlay at b d)
  overlay_held at b d h = subst DeclHeld (decl_tree.rolls-Overlay at b d) (rolled.decl (layer.Overlay at b d) (λ o free told. h o (Some (base_at named b)) (on_base b d free) told))

  pub switch_held : (at : Position) (f : RawName) (xs : List RawName) → DeclHeld (decl_tree.Switch at f xs)
  switch_held at f xs = subst DeclHeld (decl_tree.rolls-Switch at f xs) (rolled.decl (layer.Switch at f xs) (λ o free told. tt))

  pub proc_held : (t : Option RawType) (g : RawPtag) (f : RawName) (ps : List RawParam) (s : RawStmt) → StmtHeld s → DeclHeld (decl_tree.Proc (proc_tree t g f ps s))
  proc_held t g f ps s h =
      let v : Owner = record { token = f.at.token; recursive = is_recursive g } in
      let last = judges.statement_judged named sites s in
      let made : ProcHeld (proc_tree t g f ps s) =
      rolled.proc (record { answer = t; tag = g; name = f; params = ps; body = s })
      (λ o free told. h (Some v) (both_free (heading_judged named t f ps) last (statement_keeps named sites s) free).1 (each-right (Told sites) (parameters_things (Some v) ps) (stores.statement_things named s (Some v)) told)) in
      subst DeclHeld (decl_tree.rolls-Proc (proc_tree t g f ps s)) (rolled.decl (layer.Proc (proc_tree t g f ps s)) made)

  -- ---- blocks

  decls_held : (ds : List RawDecl) → Each DeclHeld ds → Part (stores.joined (map (stores.declaration_things named) ds)) (joined (map holds.declaration_rows ds)) (all_judged (map (judges.declaration_judged named sites) ds))
  decls_held [] h = nothing fine
  decls_held (d ∷ ds) h =
      let rest = all_judged (map (judges.declaration_judged named sites) ds) in
      two (stores.declaration_things named d) (stores.joined (map (stores.declaration_things named) ds)) (holds.declaration_rows d) (joined (map holds.declaration_rows ds)) (judges.declaration_judged named sites d) rest (all_keep (judges.declaration_judged named sites) (declaration_keeps named sites) ds) h.0 (decls_held ds h.1)

  stmts_held : (ss : List RawStmt) → Each StmtHeld ss → Part (stores.joined (map (stores.statement_things named) ss)) (joined (map holds.statement_rows ss)) (all_judged (map (judges.statement_judged named sites) ss))
  stmts_held [] h = nothing fine
  stmts_held (s ∷ ss) h =
      let rest = all_judged (map (judges.statement_judged named sites) ss) in
      two (stores.statement_things named s) (stores.joined (map (stores.statement_things named) ss)) (holds.statement_rows s) (joined (map holds.statement_rows ss)) (judges.statement_judged named sites s) rest (all_keep (judges.statement_judged named sites) (statement_keeps named sites) ss) h.0 (stmts_held ss h.1)

  pub block_held : (t : Item) (ds : List RawDecl) (ss : List RawStmt) → Each DeclHeld ds → Each StmtHeld ss → BlockHeld (block_tree t ds ss)
  block_held t ds ss h k =
      rolled.block (record { at = position t; decls = ds; stmts = ss })
      (two (stores.joined (map (stores.declaration_things named) ds)) (stores.joined (map (stores.statement_things named) ss)) (joined (map holds.declaration_rows ds)) (joined (map holds.statement_rows ss)) (all_judged (map (judges.declaration_judged named sites) ds)) (all_judged (map (judges.statement_judged named sites) ss))
      (all_keep (judges.statement_judged named sites) (statement_keeps named sites) ss) (decls_held ds h) (stmts_held ss k))
