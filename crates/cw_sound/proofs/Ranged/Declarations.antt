-- What each tree declares without fault, and the switches in it: by induction over all rules of statements.
use Rattle.std.proofs.Common.{◌≡◌, ℕ, suc, List, [], ◌∷◌, ◌++◌, length, map, Bool, true, false, not, IsTrue, ◌||◌, ◌==◌, nat_le, Option, Some, None, refl, sym, ap, subst, ◌∙◌, arith}
use Rattle.std.specs.List.{list_all}
use Rattle.std.proofs.lemmas.List.Folds.{list_all-append}
use Rattle.cw_table.specs.declared.table.Row.{Row}
use Rattle.cw_tree.specs.declared.leaf.RawName.{RawName}
use Rattle.cw_tree.specs.declared.leaf.RawType.{RawType}
use Rattle.cw_tree.specs.declared.expression.RawCond.{RawCond}
use Rattle.cw_tree.specs.declared.statement.RawParam.{RawParam}
use Rattle.cw_tree.specs.declared.statement.RawDecl.{RawDecl, roll-RawDecl}
use Rattle.cw_tree.specs.declared.statement.RawForm.{RawForm, roll-RawForm}
use Rattle.cw_tree.specs.declared.statement.RawSimple.{RawSimple, roll-RawSimple}
use Rattle.cw_tree.specs.declared.statement.RawBlock.{RawBlock, roll-RawBlock}
use Rattle.cw_tree.specs.declared.statement.RawProc.{RawProc, roll-RawProc}
use Rattle.cw_tree.specs.declared.statement.RawStmt.{RawStmt, roll-RawStmt}
use Rattle.cw_tree.specs.declared.statement.RawDecl.TheOpen as layer
use Rattle.cw_facts.specs.declared.fact.Fact.{Fact}
use Rattle.cw_facts.specs.declared.fact.Fact.TheVariants as fact
use Rattle.cw_facts.specs.declared.fact.Form.TheVariants as use_form
use Rattle.cw_facts.specs.declared.fact.Kind.TheVariants as kind
use Rattle.cw_facts.specs.declared.fact.Reading.TheVariants as reading
use Rattle.cw_facts.specs.Signatures.{flattened}
use Rattle.cw_facts.specs.Uses.{expression_uses, condition_uses, reference_uses, argument_uses}
use Rattle.cw_facts.specs.Facts as said
use Rattle.cw_facts.specs.Facts.{declares, specifies, each_declares, each_uses, data_facts, base_facts, felems_facts, enclosed, answer_name, parameters_facts, answer_facts, declaration_facts, form_facts, simple_facts, block_facts, procedure_facts, statement_facts}
use Rattle.cw_scope.specs.declared.resolve.Named.{Named}
use Rattle.cw_table.specs.Rows.{item_at}
use Rattle.cw_scale.specs.declared.fault.Rule.TheVariants as rule
use Rattle.cw_scale.specs.Faults.{Judgement, fine, unless, both}
use Rattle.cw_scale.specs.Types.{answer_judged}
use Rattle.cw_data.specs.Specifications.{few_if, heading_judged, params_judged}
use Rattle.cw_items.specs.declared.families.Site.{Site}
use Rattle.cw_judge.specs.Judged.{condition_judged, reference_judged, scale_of, all_judged, felems_judged, declaration_judged, form_judged, simple_judged, block_judged, procedure_judged, statement_judged}
use Rattle.cw_make_expr.specs.Parts.{Numbers}
use Rattle.cw_make_items.specs.Lookup.{proc_here}
use Rattle.cw_make.specs.Switches as switched
use Rattle.cw_make.specs.Switches.{Switches, goals_of, declaration_switches, form_switches, simple_switches, block_switches, procedure_switches, statement_switches}
use Rattle.cw_unit.specs.declared.unit.Switch.{Switch}
use Rattle.cw_built.specs.Coded.{has_few}
use Rattle.cw_sound.proofs.Expressions.Truth.{both as both_true, le_of, lt_true}
use Rattle.cw_sound.proofs.Expressions.Judging.{NoFault, Keeps, keeps_fine, keeps_both, keeps_unless, both_free, holds}
use Rattle.cw_sound.proofs.Statements.Keeping.{elements_keep, declaration_keeps, statement_keeps, simple_keeps, all_keep}
use Rattle.cw_sound.proofs.Names.Parts.{Plain, no_switches}
use Rattle.cw_sound.proofs.Names.PlainFacts.{plain_nothing, plain_both, plain_use, plain_loop}
use Rattle.cw_sound.proofs.Names.ExpressionUses.{expression_plain, condition_plain, reference_plain, arguments_plain}
use Rattle.cw_sound.proofs.Names.TreeParts.{felems_plain}
use Rattle.cw_sound.proofs.Ranged.Facts.{Ranged, nothing_ranged, both_ranged, plain_ranged, declared_ranged, specified_ranged, block_ranged, each_ranged, data_ranged, overlaid_ranged, parameters_ranged, answer_ranged}
use Rattle.cw_sound.proofs.Items.Keeping.{keeps_params}
use Rattle.cw_sound.proofs.Statements.Layers.{Known, WithDecl, WithStmt, DeclParts, FormParts, SimpleParts, BlockParts, ProcParts, StmtParts, decl_layer, form_layer, simple_layer, block_layer, proc_layer, stmt_layer, each_block}
use Rattle.cw_sound.proofs.Statements.Passes.{rolls}
use Rattle.cw_sound.proofs.Statements.Folds.{facts_pass, judged_pass, switches_pass}

-- ---- switches

abbrev pub is_small : Switch → Bool
is_small s = has_few s.list

module _ (named : Named) (sites : List (Row Site)) (numbers : Numbers) where
  abbrev Plainly : List Fact → Type 0
  Plainly = Plain numbers

  goals_length : (ns : List RawName) → length (goals_of named numbers ns) ≡ length ns
  goals_length [] = refl
  goals_length (n ∷ ns) = ap suc (goals_length ns)

  -- a part that declares kinds in range, and switches with few labels
  pub record Fit (fs : List Fact) (ws : Switches) : Type 0 where
    pub declared : Ranged numbers fs
    pub few : (q : Option ℕ) → IsTrue (list_all is_small (ws q))

  nothing_fit : Fit [] no_switches
  nothing_fit = record { declared = nothing_ranged numbers; few = λ q. refl }

  facts_fit : (fs : List Fact) → Ranged numbers fs → Fit fs no_switches
  facts_fit fs h = record { declared = h; few = λ q. refl }

  plain_fit : (fs : List Fact) → Plainly fs → Fit fs no_switches
  plain_fit fs h = facts_fit fs (plain_ranged numbers fs h)

  both_fit : {fs gs : List Fact} {ws xs : Switches} → Fit fs ws → Fit gs xs → Fit (fs ++ gs) (λ q. ws q ++ xs q)
  both_fit {fs = fs} {gs = gs} {ws = ws} {xs = xs} h k = record {
    declared = both_ranged numbers fs gs h.declared k.declared;
    few = λ q. list_all-append is_small (ws q) (xs q) ∙ both_true (list_all is_small (ws q)) (list_all is_small (xs q)) (h.few q) (k.few q);
  }

  -- behind what declares no switch
  behind : (fs : List Fact) {gs : List Fact} {xs : Switches} → Ranged numbers fs → Fit gs xs → Fit (fs ++ gs) xs
  behind fs {gs = gs} h k = record { declared = both_ranged numbers fs gs h k.declared; few = k.few }

  switch_fit : (n : RawName) (labels : List RawName) → IsTrue (nat_le (length labels) 255) → Fit (declares n kind.Switch ∷ each_uses labels) (λ q. record { proc = q; list = goals_of named numbers labels } ∷ [])
  switch_fit n labels h =
      let most = le_of (length labels) 255 h in
      let size = goals_length labels in
      record {
        declared = declared_ranged numbers n kind.Switch (each_uses labels) refl (plain_ranged numbers (each_uses labels) (listed labels));
        few = λ q. both_true (has_few (goals_of named numbers labels)) true (lt_true (length (goals_of named numbers labels)) 32768 (omega (arith, most, size))) refl;
      }
    where
      listed : (ns : List RawName) → Plainly (each_uses ns)
      listed [] = plain_nothing numbers
      listed (x ∷ ns) = plain_use numbers (record { name = x; form = use_form.Listed }) (each_uses ns) (listed ns)

  -- ---- trees, by their layers

  like : {i j : Judgement} {fs gs : List Fact} {ws xs : Switches} → j ≡ i → gs ≡ fs → xs ≡ ws → (NoFault i → Fit fs ws) → NoFault j → Fit gs xs
  like {gs = gs} {ws = ws} e f s h free = subst (Fit gs) (sym s) (subst (λ (z : List Fact). Fit z ws) (sym f) (h (subst NoFault e free)))

  abbrev Is_decl : RawDecl → Type 0
  Is_decl x = NoFault (declaration_judged named sites x) → Fit (declaration_facts x) (declaration_switches named numbers x)

  abbrev Is_form : RawForm → Type 0
  Is_form x = NoFault (form_judged named sites x) → Fit (form_facts x) (form_switches named numbers x)

  abbrev Is_simple : RawSimple → Type 0
  Is_simple x = NoFault (simple_judged named sites x) → Fit (simple_facts x) (simple_switches named numbers x)

  abbrev pub Is_block : RawBlock → Type 0
  Is_block x = (outermost : Bool) → NoFault (block_judged named sites x) → Fit (block_facts x outermost) (block_switches named numbers x)

  abbrev Is_proc : RawProc → Type 0
  Is_proc x = NoFault (procedure_judged named sites x) → Fit (procedure_facts x) (procedure_switches named numbers x)

  abbrev Is_stmt : RawStmt → Type 0
  Is_stmt x = NoFault (statement_judged named sites x) → Fit (statement_facts x) (statement_switches named numbers x)

  abbrev known : Known
  known = record { Decl = Is_decl; Form = Is_form; Simple = Is_simple; Block = Is_block; Proc = Is_proc; Stmt = Is_stmt }

  decl_so : (y : DeclParts known) → Is_decl (roll-RawDecl (decl_layer known y))
  decl_so (layer.Data d) = like ((rolls (judged_pass named sites)).decl (layer.Data d)) ((rolls facts_pass).decl (layer.Data d)) ((rolls (switches_pass named numbers)).decl (layer.Data d)) (λ free. facts_fit (data_facts d) (data_ranged numbers sites d free))
  decl_so (layer.Overlay at b d) =
      like ((rolls (judged_pass named sites)).decl (layer.Overlay at b d)) ((rolls facts_pass).decl (layer.Overlay at b d)) ((rolls (switches_pass named numbers)).decl (layer.Overlay at b d)) (λ free. facts_fit (base_facts b ++ data_facts d) (overlaid_ranged numbers named sites b d free))
  decl_so (layer.Switch at n labels) =
      like ((rolls (judged_pass named sites)).decl (layer.Switch at n labels)) ((rolls facts_pass).decl (layer.Switch at n labels)) ((rolls (switches_pass named numbers)).decl (layer.Switch at n labels)) (λ free. switch_fit n labels (holds (nat_le (length labels) 255) rule.TooMany n.at free))
  decl_so (layer.Proc p) = like ((rolls (judged_pass named sites)).decl (layer.Proc p.0)) ((rolls facts_pass).decl (layer.Proc p.0)) ((rolls (switches_pass named numbers)).decl (layer.Proc p.0)) p.1

  labels_ranged : (ns : List RawName) → Ranged numbers (each_declares kind.Label ns)
  labels_ranged ns = each_ranged numbers kind.Label ns refl

  test_ranged : (test : RawCond) → Ranged numbers (condition_uses test reading.Value)
  test_ranged test = plain_ranged numbers (condition_uses test reading.Value) (condition_plain numbers test reading.Value)

  form_so : (y : FormParts known) → Is_form (roll-RawForm (form_layer known y))
  form_so (layer.Simple s) = like ((rolls (judged_pass named sites)).form (layer.Simple s.0)) ((rolls facts_pass).form (layer.Simple s.0)) ((rolls (switches_pass named numbers)).form (layer.Simple s.0)) s.1
  form_so (layer.If at test labels first None) =
      like ((rolls (judged_pass named sites)).form (layer.If at test labels first.0 None)) ((rolls facts_pass).form (layer.If at test labels first.0 None)) ((rolls (switches_pass named numbers)).form (layer.If at test labels first.0 None))
      (λ free.
      let calm = both_free (condition_judged named test) (both (simple_judged named sites first.0) fine) (keeps_both (simple_keeps named sites first.0) keeps_fine) free in
      let calms = both_free (simple_judged named sites first.0) fine keeps_fine calm.1 in
      behind (condition_uses test reading.Value) (test_ranged test) (behind (each_declares kind.Label labels) (labels_ranged labels) (both_fit (first.1 calms.0) nothing_fit)))
  form_so (layer.If at test labels first (Some second)) =
      like ((rolls (judged_pass named sites)).form (layer.If at test labels first.0 (Some second.0))) ((rolls facts_pass).form (layer.If at test labels first.0 (Some second.0))) ((rolls (switches_pass named numbers)).form (layer.If at test labels first.0 (Some second.0)))
      (λ free.
      let calm = both_free (condition_judged named test) (both (simple_judged named sites first.0) (statement_judged named sites second.0)) (keeps_both (simple_keeps named sites first.0) (statement_keeps named sites second.0)) free in
      let calms = both_free (simple_judged named sites first.0) (statement_judged named sites second.0) (statement_keeps named sites second.0) calm.1 in
      behind (condition_uses test reading.Value) (test_ranged test) (behind (each_declares kind.Label labels) (labels_ranged labels) (both_fit (first.1 calms.0) (second.1 calms.1))))
  form_so (layer.For at variable elems body) =
      like ((rolls (judged_pass named sites)).form (layer.For at variable elems body.0)) ((rolls facts_pass).form (layer.For at variable elems body.0)) ((rolls (switches_pass named numbers)).form (layer.For at variable elems body.0))
      (λ free.
      let f : ℕ = scale_of named variable in
      let inside : Judgement = statement_judged named sites body.0 in
      let calm = both_free (reference_judged named variable) (both (felems_judged named f elems) inside) (keeps_both (elements_keep named f elems) (statement_keeps named sites body.0)) free in
      let calms = both_free (felems_judged named f elems) inside (statement_keeps named sites body.0) calm.1 in
      behind (fact.Loop at ∷ reference_uses variable reading.Whole) (plain_ranged numbers (fact.Loop at ∷ reference_uses variable reading.Whole) (plain_loop numbers at (reference_uses variable reading.Whole) (reference_plain numbers variable reading.Whole)))
      (behind (felems_facts elems) (plain_ranged numbers (felems_facts elems) (felems_plain named numbers elems)) (body.1 calms.1)))

  simple_so : (y : SimpleParts known) → Is_simple (roll-RawSimple (simple_layer known y))
  simple_so layer.Empty = like ((rolls (judged_pass named sites)).simple layer.Empty) ((rolls facts_pass).simple layer.Empty) ((rolls (switches_pass named numbers)).simple layer.Empty) (λ free. nothing_fit)
  simple_so (layer.Assign r e) =
      like ((rolls (judged_pass named sites)).simple (layer.Assign r e)) ((rolls facts_pass).simple (layer.Assign r e)) ((rolls (switches_pass named numbers)).simple (layer.Assign r e))
      (λ free. plain_fit (reference_uses r reading.Target ++ expression_uses e reading.Value) (plain_both numbers (reference_uses r reading.Target) (expression_uses e reading.Value) (reference_plain numbers r reading.Target) (expression_plain numbers e reading.Value)))
  simple_so (layer.AssignBits bits r e) =
      like ((rolls (judged_pass named sites)).simple (layer.AssignBits bits r e)) ((rolls facts_pass).simple (layer.AssignBits bits r e)) ((rolls (switches_pass named numbers)).simple (layer.AssignBits bits r e))
      (λ free. plain_fit (reference_uses r reading.Whole ++ expression_uses e reading.Value) (plain_both numbers (reference_uses r reading.Whole) (expression_uses e reading.Value) (reference_plain numbers r reading.Whole) (expression_plain numbers e reading.Value)))
  simple_so (layer.Goto at n) =
      like ((rolls (judged_pass named sites)).simple (layer.Goto at n)) ((rolls facts_pass).simple (layer.Goto at n)) ((rolls (switches_pass named numbers)).simple (layer.Goto at n))
      (λ free. plain_fit (fact.Uses (record { name = n; form = use_form.Goto }) ∷ []) (plain_use numbers (record { name = n; form = use_form.Goto }) [] (plain_nothing numbers)))
  simple_so (layer.GotoSwitch at n e) =
      like ((rolls (judged_pass named sites)).simple (layer.GotoSwitch at n e)) ((rolls facts_pass).simple (layer.GotoSwitch at n e)) ((rolls (switches_pass named numbers)).simple (layer.GotoSwitch at n e))
      (λ free. plain_fit (fact.Uses (record { name = n; form = use_form.GotoSwitch }) ∷ expression_uses e reading.Value) (plain_use numbers (record { name = n; form = use_form.GotoSwitch }) (expression_uses e reading.Value) (expression_plain numbers e reading.Value)))
  simple_so (layer.Call n es) =
      like ((rolls (judged_pass named sites)).simple (layer.Call n es)) ((rolls facts_pass).simple (layer.Call n es)) ((rolls (switches_pass named numbers)).simple (layer.Call n es))
      (λ free. plain_fit (fact.Uses (record { name = n; form = use_form.Call }) ∷ argument_uses es) (plain_use numbers (record { name = n; form = use_form.Call }) (argument_uses es) (arguments_plain numbers es)))
  simple_so (layer.Answer at e) =
      like ((rolls (judged_pass named sites)).simple (layer.Answer at e)) ((rolls facts_pass).simple (layer.Answer at e)) ((rolls (switches_pass named numbers)).simple (layer.Answer at e))
      (λ free.
      plain_fit (fact.Uses (record { name = answer_name at; form = use_form.Answer }) ∷ expression_uses e reading.Value) (plain_use numbers (record { name = answer_name at; form = use_form.Answer }) (expression_uses e reading.Value) (expression_plain numbers e reading.Value)))
  simple_so (layer.Block b) = like ((rolls (judged_pass named sites)).simple (layer.Block b.0)) ((rolls facts_pass).simple (layer.Block b.0)) ((rolls (switches_pass named numbers)).simple (layer.Block b.0)) (b.1 false)

  all_so : {X : Type 0} (judged : X → Judgement) (keeps : (x : X) → Keeps (judged x)) (facts : X → List Fact) (switches : X → Switches) (xs : List ((x : X) × (NoFault (judged x) → Fit (facts x) (switches x))))
      → NoFault (all_judged (map judged (map (λ e. e.0) xs))) → Fit (said.joined (map facts (map (λ e. e.0) xs))) (switched.joined (map switches (map (λ e. e.0) xs)))
  all_so judged keeps facts switches [] free = nothing_fit
  all_so {X = X} judged keeps facts switches (x ∷ xs) free =
      let rest : List X = map (λ e. e.0) xs in
      let calm = both_free (judged x.0) (all_judged (map judged rest)) (all_keep judged keeps rest) free in
      both_fit (x.1 calm.0) (all_so judged keeps facts switches xs calm.1)

  enclosed_fit : (b : Bool) {fs : List Fact} {ws : Switches} → Fit fs ws → Fit (enclosed b fs) ws
  enclosed_fit true {fs = fs} h = record { declared = block_ranged numbers None fs h.declared; few = h.few }
  enclosed_fit false h = h

  block_so : (y : BlockParts known) → Is_block (roll-RawBlock (block_layer known y))
  block_so y outermost =
      let ds : List RawDecl = map (λ e. e.0) y.decls in
      let ss : List RawStmt = map (λ e. e.0) y.stmts in
      like ((rolls (judged_pass named sites)).block (block_layer known y)) (ap (λ f. f outermost) ((rolls facts_pass).block (block_layer known y))) ((rolls (switches_pass named numbers)).block (block_layer known y))
      (λ free.
      let calm = both_free (all_judged (map (declaration_judged named sites) ds)) (all_judged (map (statement_judged named sites) ss)) (all_keep (statement_judged named sites) (statement_keeps named sites) ss) free in
      enclosed_fit (outermost || not (length (map declaration_facts ds) == 0)) (both_fit (all_so {X = RawDecl} (declaration_judged named sites) (declaration_keeps named sites) declaration_facts (declaration_switches named numbers) y.decls calm.0) (all_so {X = RawStmt} (statement_judged named sites) (statement_keeps named sites) statement_facts (statement_switches named numbers) y.stmts calm.1)))

  procedure_fit : (answer : Option RawType) (n : RawName) (params : List RawParam) (fs : List Fact) (ws : Switches) → NoFault (heading_judged named answer n params) → Fit fs ws
      → Fit (declares n (kind.Proc answer) ∷ specifies n.at.token answer (flattened params) ∷ fact.Block (Some n.at.token) (answer_facts answer ++ (parameters_facts params ++ fs)) ∷ []) (λ q. ws (Some (proc_here numbers n.at.token)))
  procedure_fit answer n params fs ws free body =
      let test : Bool = few_if (item_at named.signatures n.at.token) in
      let last : Judgement = unless test rule.TooMany n.at in
      let calm = both_free (answer_judged answer) (both last (params_judged params)) (keeps_both (keeps_unless test rule.TooMany n.at) (keeps_params params)) free in
      let own = (both_free last (params_judged params) (keeps_params params) calm.1).1 in
      let inner : List Fact = answer_facts answer ++ (parameters_facts params ++ fs) in
      let inside : Ranged numbers inner = both_ranged numbers (answer_facts answer) (parameters_facts params ++ fs) (answer_ranged numbers answer) (both_ranged numbers (parameters_facts params) fs (parameters_ranged numbers params own) body.declared) in
      record {
        declared = declared_ranged numbers n (kind.Proc answer) (specifies n.at.token answer (flattened params) ∷ fact.Block (Some n.at.token) inner ∷ []) refl
            (specified_ranged numbers n.at.token answer (flattened params) (fact.Block (Some n.at.token) inner ∷ []) (block_ranged numbers (Some n.at.token) inner inside));
        few = λ q. body.few (Some (proc_here numbers n.at.token));
      }

  proc_so : (y : ProcParts known) → Is_proc (roll-RawProc (proc_layer known y))
  proc_so y =
      like ((rolls (judged_pass named sites)).proc (proc_layer known y)) ((rolls facts_pass).proc (proc_layer known y)) ((rolls (switches_pass named numbers)).proc (proc_layer known y))
      (λ free.
      let calm = both_free (heading_judged named y.answer y.name y.params) (statement_judged named sites y.body.0) (statement_keeps named sites y.body.0) free in
      procedure_fit y.answer y.name y.params (statement_facts y.body.0) (statement_switches named numbers y.body.0) calm.0 (y.body.1 calm.1))

  stmt_so : (y : StmtParts known) → Is_stmt (roll-RawStmt (stmt_layer known y))
  stmt_so y = like ((rolls (judged_pass named sites)).stmt (stmt_layer known y)) ((rolls facts_pass).stmt (stmt_layer known y)) ((rolls (switches_pass named numbers)).stmt (stmt_layer known y)) (λ free. behind (each_declares kind.Label y.labels) (labels_ranged y.labels) (y.form.1 free))

  pub block_fit : (b : RawBlock) → Is_block b
  block_fit = each_block known (record { decl = decl_so; form = form_so; simple = simple_so; block = block_so; proc = proc_so; stmt = stmt_so })
