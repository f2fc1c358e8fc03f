-- What statements hold at the start is held in their things.
use Rattle.std.proofs.Common.{◌≡◌, List, [], ◌∷◌, ◌++◌, map, Option, Some, None}
use Rattle.cw_table.specs.declared.table.Row.{Row}
use Rattle.cw_tree.specs.declared.items.RawBase.{RawBase}
use Rattle.cw_tree.specs.declared.items.RawData.{RawData}
use Rattle.cw_tree.specs.declared.statement.RawFelem.{RawFelem}
use Rattle.cw_tree.specs.declared.statement.RawFelem.TheVariants as felem
use Rattle.cw_tree.specs.declared.statement.RawDecl.{RawDecl}
use Rattle.cw_tree.specs.declared.statement.RawForm.{RawForm}
use Rattle.cw_tree.specs.declared.statement.RawSimple.{RawSimple}
use Rattle.cw_tree.specs.declared.statement.RawBlock.{RawBlock}
use Rattle.cw_tree.specs.declared.statement.RawProc.{RawProc}
use Rattle.cw_tree.specs.declared.statement.RawStmt.{RawStmt}
use Rattle.cw_tree.specs.declared.statement.RawDecl.TheOpen as layer
use Rattle.cw_facts.specs.declared.fact.Reading.TheVariants as reading
use Rattle.cw_facts.specs.Uses.{expression_uses, condition_uses, reference_uses}
use Rattle.cw_scope.specs.declared.resolve.Named.{Named}
use Rattle.cw_scale.specs.Faults.{Judgement, fine, both}
use Rattle.cw_data.specs.Overlays.{base_judged}
use Rattle.cw_data.specs.Specifications.{heading_judged}
use Rattle.cw_items.specs.declared.families.Site.{Site}
use Rattle.cw_items.specs.declared.thing.Owner.{Owner}
use Rattle.cw_items.specs.declared.thing.Sort.TheVariants as sort
use Rattle.cw_items.specs.Things.{Things, joined as joined_things, thing, texts, base_at, data_things, parameters_things, felem_things, felems_things, is_recursive, declaration_things, form_things, simple_things, block_things, procedure_things, statement_things}
use Rattle.cw_judge.specs.Declarations.{declared_judged, overlaid_judged}
use Rattle.cw_judge.specs.Judged.{condition_judged, reference_judged, felems_judged, scale_of, all_judged, declaration_judged, form_judged, simple_judged, block_judged, procedure_judged, statement_judged}
use Rattle.cw_preset.specs.Strings.{Rows, joined, expression_rows, condition_rows, reference_rows}
use Rattle.cw_preset.specs.Lists.{data_rows}
use Rattle.cw_preset.specs.Held.{felem_rows, felems_rows, declaration_rows, form_rows, simple_rows, block_rows, procedure_rows, statement_rows}
use Rattle.cw_sound.proofs.Items.Fitting.{RowsFit, fit-both, fit-behind, fit-texts, declared-fits}
use Rattle.cw_sound.proofs.Items.FittingExpressions.{expression_fits, condition_fits, reference_fits, arguments_fit}
use Rattle.cw_sound.proofs.Statements.Keeping.{all_keep, elements_keep, declaration_keeps, simple_keeps, statement_keeps}
use Rattle.cw_sound.proofs.Expressions.Judging.{Keeps, keeps_fine, keeps_both, both_free}
use Rattle.cw_sound.proofs.Items.Keeping.{keeps_declared}
use Rattle.cw_sound.proofs.Statements.Layers.{Known, WithDecl, WithStmt, DeclParts, FormParts, SimpleParts, BlockParts, ProcParts, StmtParts, decl_layer, form_layer, simple_layer, block_layer, proc_layer, stmt_layer, Rules, each_block}
use Rattle.cw_sound.proofs.Statements.Passes.{whole, layered, rolls, LayersKnown, related, related_layers, related_rolls, rules_of}
use Rattle.cw_sound.proofs.Statements.Folds.{things_pass, rows_pass, judged_pass}

module _ (named : Named) (sites : List (Row Site)) where
  abbrev pub Parts : Things → Rows → Judgement → Type 0
  Parts ts rows j = (o : Option Owner) → j None ≡ None → RowsFit (ts o) rows

  abbrev known : Known
  known = related Parts Parts (whole (things_pass named)) (whole rows_pass) (whole (judged_pass named sites))

  abbrev layers_fit : LayersKnown
  layers_fit = related_layers Parts Parts (layered (things_pass named)) (layered rows_pass) (layered (judged_pass named sites))

  two : (ts ss : Things) (rs qs : Rows) (j k : Judgement) → Keeps k → Parts ts rs j → Parts ss qs k → Parts (λ o. ts o ++ ss o) (rs ++ qs) (both j k)
  two ts ss rs qs j k keeps h g o free =
      let frees = both_free j k keeps free in
      fit-both (ts o) (ss o) rs qs (h o frees.0) (g o frees.1)

  declarations-fit : (xs : List (WithDecl known)) → Parts (joined_things (map (declaration_things named) (map (λ e. e.0) xs))) (joined (map declaration_rows (map (λ e. e.0) xs))) (all_judged (map (declaration_judged named sites) (map (λ e. e.0) xs)))
  declarations-fit [] o free = tt
  declarations-fit (x ∷ xs) o free =
      two (declaration_things named x.0) (joined_things (map (declaration_things named) (map (λ e. e.0) xs))) (declaration_rows x.0) (joined (map declaration_rows (map (λ e. e.0) xs))) (declaration_judged named sites x.0) (all_judged (map (declaration_judged named sites) (map (λ e. e.0) xs)))
      (all_keep (declaration_judged named sites) (declaration_keeps named sites) (map (λ e. e.0) xs)) x.1 (declarations-fit xs) o free

  statements-fit : (xs : List (WithStmt known)) → Parts (joined_things (map (statement_things named) (map (λ e. e.0) xs))) (joined (map statement_rows (map (λ e. e.0) xs))) (all_judged (map (statement_judged named sites) (map (λ e. e.0) xs)))
  statements-fit [] o free = tt
  statements-fit (x ∷ xs) o free =
      two (statement_things named x.0) (joined_things (map (statement_things named) (map (λ e. e.0) xs))) (statement_rows x.0) (joined (map statement_rows (map (λ e. e.0) xs))) (statement_judged named sites x.0) (all_judged (map (statement_judged named sites) (map (λ e. e.0) xs)))
      (all_keep (statement_judged named sites) (statement_keeps named sites) (map (λ e. e.0) xs)) x.1 (statements-fit xs) o free

  felem-fits : (e : RawFelem) (o : Option Owner) → RowsFit (felem_things e o) (felem_rows e)
  felem-fits (felem.One e) o = expression_fits e o reading.Value
  felem-fits (felem.While e c) o = fit-texts o (expression_uses e reading.Value) (condition_uses c reading.Value) (expression_rows e) (condition_rows c) (expression_fits e o reading.Value) (condition_fits c o reading.Value)
  felem-fits (felem.Step a b c) o =
      fit-texts o (expression_uses a reading.Value) (expression_uses b reading.Value ++ expression_uses c reading.Value) (expression_rows a) (expression_rows b ++ expression_rows c) (expression_fits a o reading.Value)
      (fit-texts o (expression_uses b reading.Value) (expression_uses c reading.Value) (expression_rows b) (expression_rows c) (expression_fits b o reading.Value) (expression_fits c o reading.Value))

  felems-fit : (es : List RawFelem) (o : Option Owner) → RowsFit (felems_things es o) (felems_rows es)
  felems-fit [] o = tt
  felems-fit (e ∷ es) o = fit-both (felem_things e o) (felems_things es o) (felem_rows e) (felems_rows es) (felem-fits e o) (felems-fit es o)

  overlay-fits : (o : Option Owner) (b : RawBase) (d : RawData) → overlaid_judged named sites b d None ≡ None → RowsFit (data_things o (Some (base_at named b)) d) (data_rows d)
  unfolding overlaid_judged
  overlay-fits o b d free = declared-fits sites o (Some (base_at named b)) d (both_free (base_judged named b) (declared_judged sites d) (keeps_declared sites d) free).1

  abbrev nothing : Things
  nothing o = []

  declaration-fits : (y : DeclParts known) → layers_fit.Decl (decl_layer known y)
  declaration-fits (layer.Data d) o free = declared-fits sites o None d free
  declaration-fits (layer.Overlay at b d) o free = overlay-fits o b d free
  declaration-fits (layer.Switch at n labels) o free = tt
  declaration-fits (layer.Proc p) o free = p.1 o free

  form-fits : (y : FormParts known) → layers_fit.Form (form_layer known y)
  form-fits (layer.Simple x) o free = x.1 o free
  form-fits (layer.If at test labels first None) o free =
      two (λ o. texts o (condition_uses test reading.Value)) (λ o. simple_things named first.0 o ++ nothing o) (condition_rows test) (simple_rows first.0 ++ []) (condition_judged named test) (both (simple_judged named sites first.0) fine)
      (keeps_both (simple_keeps named sites first.0) keeps_fine) (λ o free. condition_fits test o reading.Value)
      (two (simple_things named first.0) nothing (simple_rows first.0) [] (simple_judged named sites first.0) fine keeps_fine first.1 (λ o free. tt)) o free
  form-fits (layer.If at test labels first (Some z)) o free =
      two (λ o. texts o (condition_uses test reading.Value)) (λ o. simple_things named first.0 o ++ (statement_things named z.0) o) (condition_rows test) (simple_rows first.0 ++ (statement_rows z.0)) (condition_judged named test) (both (simple_judged named sites first.0) (statement_judged named sites z.0))
      (keeps_both (simple_keeps named sites first.0) (statement_keeps named sites z.0)) (λ o free. condition_fits test o reading.Value)
      (two (simple_things named first.0) (statement_things named z.0) (simple_rows first.0) (statement_rows z.0) (simple_judged named sites first.0) (statement_judged named sites z.0) (statement_keeps named sites z.0) first.1 z.1) o free
  form-fits (layer.For at variable elems body) o free =
      let j = felems_judged named (scale_of named variable) elems in
      let k = statement_judged named sites body.0 in
      let frees = both_free (reference_judged named variable) (both j k) (keeps_both (elements_keep named (scale_of named variable) elems) (statement_keeps named sites body.0)) free in
      let last = both_free j k (statement_keeps named sites body.0) frees.1 in
      fit-behind (thing sort.Loop at o None 4 ∷ []) (texts o (reference_uses variable reading.Whole) ++ (felems_things elems o ++ statement_things named body.0 o)) (reference_rows variable ++ (felems_rows elems ++ statement_rows body.0))
      (fit-both (texts o (reference_uses variable reading.Whole)) (felems_things elems o ++ statement_things named body.0 o) (reference_rows variable) (felems_rows elems ++ statement_rows body.0) (reference_fits variable o reading.Whole)
      (fit-both (felems_things elems o) (statement_things named body.0 o) (felems_rows elems) (statement_rows body.0) (felems-fit elems o) (body.1 o last.1)))

  simple-fits : (y : SimpleParts known) → layers_fit.Simple (simple_layer known y)
  simple-fits layer.Empty o free = tt
  simple-fits (layer.Assign r e) o free = fit-texts o (reference_uses r reading.Target) (expression_uses e reading.Value) (reference_rows r) (expression_rows e) (reference_fits r o reading.Target) (expression_fits e o reading.Value)
  simple-fits (layer.AssignBits bits r e) o free = fit-texts o (reference_uses r reading.Whole) (expression_uses e reading.Value) (reference_rows r) (expression_rows e) (reference_fits r o reading.Whole) (expression_fits e o reading.Value)
  simple-fits (layer.Goto at n) o free = tt
  simple-fits (layer.GotoSwitch at n e) o free = expression_fits e o reading.Value
  simple-fits (layer.Call n es) o free = arguments_fit es o
  simple-fits (layer.Answer at e) o free = expression_fits e o reading.Value
  simple-fits (layer.Block b) o free = b.1 o free

  block-fits : (y : BlockParts known) → layers_fit.Block (block_layer known y)
  block-fits b =
      let ds = map (λ e. e.0) b.decls in
      let ss = map (λ e. e.0) b.stmts in
      two (joined_things (map (declaration_things named) ds)) (joined_things (map (statement_things named) ss)) (joined (map declaration_rows ds)) (joined (map statement_rows ss))
      (all_judged (map (declaration_judged named sites) ds)) (all_judged (map (statement_judged named sites) ss)) (all_keep (statement_judged named sites) (statement_keeps named sites) ss) (declarations-fit b.decls) (statements-fit b.stmts)

  procedure-fits : (y : ProcParts known) → layers_fit.Proc (proc_layer known y)
  procedure-fits p o free =
      let v : Owner = record { token = p.name.at.token; recursive = is_recursive p.tag } in
      fit-behind (parameters_things (Some v) p.params) (statement_things named p.body.0 (Some v)) (statement_rows p.body.0)
      (p.body.1 (Some v) (both_free (heading_judged named p.answer p.name p.params) (statement_judged named sites p.body.0) (statement_keeps named sites p.body.0) free).1)

  statement-fits : (y : StmtParts known) → layers_fit.Stmt (stmt_layer known y)
  statement-fits x o free = x.form.1 o free

  rules : Rules known
  rules =
      rules_of (related_rolls Parts Parts (rolls (things_pass named)) (rolls rows_pass) (rolls (judged_pass named sites)))
      (record { decl = declaration-fits; form = form-fits; simple = simple-fits; block = block-fits; proc = procedure-fits; stmt = statement-fits })

  pub block_fits : (x : RawBlock) → Parts (block_things named x) (block_rows x) (block_judged named sites x)
  block_fits = each_block known rules
