-- No judgement of a text without faults finds a procedure with more than 32 parameters.
use Rattle.std.proofs.Common.{◌≡◌, ◌⊎◌, inl, inr, ℕ, suc, ◌≤◌, List, [], ◌∷◌, ◌++◌, map, length, Bool, true, false, not, ◌||◌, ◌==◌, nat_le, IsTrue, Option, Some, None, refl, sym, ap, ap₂, subst, subst₂, ◌∙◌, arith, append-nil}
use Rattle.std.proofs.lemmas.Bool.Decides.{nat_tests}
use Rattle.cw_table.specs.declared.table.Row.{Row}
use Rattle.cw_table.specs.Rows.{item_at}
use Rattle.cw_tree.specs.declared.leaf.RawName.{RawName}
use Rattle.cw_tree.specs.declared.leaf.RawType.{RawType}
use Rattle.cw_tree.specs.declared.segment.RawIps.{RawIps}
use Rattle.cw_tree.specs.declared.segment.RawPs.{RawPs}
use Rattle.cw_tree.specs.declared.statement.RawFelem.{RawFelem}
use Rattle.cw_tree.specs.declared.statement.RawFelem.TheVariants as felem
use Rattle.cw_tree.specs.declared.statement.RawParam.{RawParam}
use Rattle.cw_tree.specs.declared.statement.RawParam.TheVariants as param
use Rattle.cw_tree.specs.declared.statement.RawDecl.{RawDecl, roll-RawDecl}
use Rattle.cw_tree.specs.declared.statement.RawForm.{RawForm, roll-RawForm}
use Rattle.cw_tree.specs.declared.statement.RawSimple.{RawSimple, roll-RawSimple}
use Rattle.cw_tree.specs.declared.statement.RawBlock.{RawBlock, roll-RawBlock}
use Rattle.cw_tree.specs.declared.statement.RawProc.{RawProc, roll-RawProc}
use Rattle.cw_tree.specs.declared.statement.RawStmt.{RawStmt, roll-RawStmt}
use Rattle.cw_tree.specs.declared.statement.RawDecl.TheOpen as layer
use Rattle.cw_facts.specs.declared.fact.Fact.{Fact}
use Rattle.cw_facts.specs.declared.fact.Fact.TheVariants as fact
use Rattle.cw_facts.specs.declared.fact.Form.TheVariants as use_form
use Rattle.cw_facts.specs.declared.fact.Kind.{Kind}
use Rattle.cw_facts.specs.declared.fact.Kind.TheVariants as kind
use Rattle.cw_facts.specs.declared.fact.Use.{Use}
use Rattle.cw_facts.specs.declared.fact.Reading.TheVariants as reading
use Rattle.cw_facts.specs.declared.fact.Signature.{Signature}
use Rattle.cw_facts.specs.Signatures.{plain, flattened}
use Rattle.cw_facts.specs.Uses.{expression_uses, condition_uses, reference_uses, argument_uses}
use Rattle.cw_facts.specs.Facts as said
use Rattle.cw_facts.specs.Facts.{declares, specifies, each_declares, each_uses, data_facts, base_facts, base_name, felem_facts, felems_facts, enclosed, answer_name, parameter_facts, parameters_facts, answer_facts, elements_facts, declaration_facts, form_facts, simple_facts, block_facts, procedure_facts, statement_facts}
use Rattle.cw_scope.specs.declared.resolve.Named.{Named}
use Rattle.cw_scope.specs.Resolved.{fact_signatures, text_signatures}
use Rattle.cw_scale.specs.declared.fault.Rule.TheVariants as rule
use Rattle.cw_scale.specs.Faults.{Judgement, fine, unless, both}
use Rattle.cw_scale.specs.Kinds.{kind_of, signature_of, fraction_of_kind}
use Rattle.cw_scale.specs.Types.{bits_judged, answer_judged}
use Rattle.cw_scale.specs.TypeRules.{expression, call_faults}
use Rattle.cw_data.specs.Specifications.{few, few_if, heading_judged, plains_judged, param_judged, params_judged, switch_judged}
use Rattle.cw_items.specs.declared.families.Site.{Site}
use Rattle.cw_judge.specs.Declarations.{declared_judged, overlaid_judged}
use Rattle.cw_judge.specs.Judged.{expression_judged, condition_judged, reference_judged, arguments_counted, scale_of, all_judged, felems_judged, declaration_judged, form_judged, simple_judged, block_judged, procedure_judged as proc_judged, statement_judged}
use Rattle.cw_sound.specs.Uses.Mentions.{In}
use Rattle.cw_sound.specs.Names.Placed.{tokens, Differ}
use Rattle.cw_sound.proofs.Names.Lists.{in_either, Sub, sub_left, sub_right}
use Rattle.cw_sound.proofs.Names.FoundRows.{found}
use Rattle.cw_make_items.specs.Lookup.{Numbers}
use Rattle.cw_sound.proofs.Names.MentionsOf.{signatures_use, signatures_loop, signatures_block, signatures_append, declared_before, specified_before}
use Rattle.cw_sound.proofs.Names.ExpressionUses.{expression_plain, condition_plain, reference_plain, arguments_plain}
use Rattle.cw_sound.proofs.Names.Specified.{each_none, elements_none, uses_none, data_none, answer_none}
use Rattle.cw_sound.proofs.Expressions.Judging.{Keeps, keeps_fine, keeps_unless, keeps_both, both_free, holds, keeps_bits}
use Rattle.cw_sound.proofs.Items.Keeping.{keeps_params, keeps_plains, keeps_heading, keeps_declared, keeps_overlaid}
use Rattle.cw_sound.proofs.Statements.Keeping.{whole_keeps, test_keeps, place_keeps, counted_keeps, elements_keep}
use Rattle.cw_sound.proofs.Expressions.Keeping.{call_keeps}
use Rattle.cw_sound.proofs.Statements.Layers.{Known, WithDecl, WithStmt, DeclParts, FormParts, SimpleParts, BlockParts, ProcParts, StmtParts, decl_layer, form_layer, simple_layer, block_layer, proc_layer, stmt_layer, each_block}
use Rattle.cw_sound.proofs.Statements.Passes.{rolls}
use Rattle.cw_sound.proofs.Statements.Folds.{facts_pass, judged_pass}

pub at_most : (n : ℕ) → IsTrue (few n) → n ≤ 32
at_most n h = grind (arith, nat_tests, h)

plain_length : (params : List RawIps) → length (plain params) ≡ length params
plain_length [] = refl
plain_length (p ∷ more) = ap (λ n. suc n) (plain_length more)

either : {A B C : Type 0} → A ⊎ B → (A → C) → (B → C) → C
either (inl x) h k = h x
either (inr y) h k = k y

-- ---- specifications with few parameters

abbrev pub FewIn : List (Row Signature) → Type 0
FewIn rs = (r : Row Signature) → In r rs → length r.item.params ≤ 32

abbrev pub Few : List Fact → Type 0
Few fs = FewIn (text_signatures fs)

pub few_none : (fs : List Fact) → text_signatures fs ≡ [] → Few fs
few_none fs e r i = absurd (subst (In r) e i)

pub few_both : (fs gs : List Fact) → Few fs → Few gs → Few (fs ++ gs)
few_both fs gs h k r i = either (in_either r (text_signatures fs) (text_signatures gs) (subst (In r) (signatures_append fs gs) i)) (h r) (k r)

few_block : (owner : Option ℕ) (fs : List Fact) → Few fs → Few (fact.Block owner fs ∷ [])
few_block owner fs h r i = h r (subst (In r) (append-nil (fact_signatures (fact.Block owner fs)) ∙ signatures_block owner fs) i)

pub few_specified : (n : RawName) (k : Kind) (answer : Option RawType) (params : List RawPs) (fs : List Fact) → length params ≤ 32 → Few fs → Few (declares n k ∷ specifies n.at.token answer params ∷ fs)
few_specified n k answer params fs h rest r i = by_side (subst (In r) (declared_before n k (specifies n.at.token answer params ∷ fs) ∙ specified_before n.at.token answer params fs) i)
  where
    by_side : In r (record { token = n.at.token; item = record { answer = answer; params = params } } ∷ text_signatures fs) → length r.item.params ≤ 32
    by_side (inl e) = subst (λ (x : Row Signature). length x.item.params ≤ 32) e h
    by_side (inr j) = rest r j

-- ---- parameters

few_parameter : (p : RawParam) → param_judged p None ≡ None → Few (parameter_facts p)
few_parameter (param.Value at t ns) e = few_none (each_declares (kind.Value t) ns) (each_none (kind.Value t) ns)
few_parameter (param.Location at t ns) e = few_none (each_declares (kind.Location t) ns) (each_none (kind.Location t) ns)
few_parameter (param.Array t ns) e = few_none (each_declares (kind.ArrayParam t) ns) (each_none (kind.ArrayParam t) ns)
few_parameter (param.Table t) e = few_none (parameter_facts (param.Table t)) (declared_before t.name (kind.TableParam t.size) (elements_facts t.name t.elems) ∙ elements_none t.name t.elems)
few_parameter (param.Label at ns) e = few_none (each_declares kind.LabelParam ns) (each_none kind.LabelParam ns)
few_parameter (param.Switch at ns) e = few_none (each_declares kind.SwitchParam ns) (each_none kind.SwitchParam ns)
few_parameter (param.Proc answer at n params) e =
    let rest = both (unless (few (length params)) rule.TooMany n.at) (plains_judged n params) in
    let behind = both_free (answer_judged answer) rest (keeps_both (keeps_unless (few (length params)) rule.TooMany n.at) (keeps_plains n params)) e in
    let counted = both_free (unless (few (length params)) rule.TooMany n.at) (plains_judged n params) (keeps_plains n params) behind.1 in
    let few_here = at_most (length params) (holds (few (length params)) rule.TooMany n.at counted.0) in
    few_specified n (kind.ProcParam answer) answer (plain params) [] (subst (λ m. m ≤ 32) (sym (plain_length params)) few_here) (few_none [] refl)

few_in_parameters : (params : List RawParam) → params_judged params None ≡ None → Few (parameters_facts params)
few_in_parameters [] e = few_none [] refl
few_in_parameters (p ∷ more) e = let free = both_free (param_judged p) (params_judged more) (keeps_params more) e in few_both (parameter_facts p) (parameters_facts more) (few_parameter p free.0) (few_in_parameters more free.1)

-- ---- trees, where expressions take no fault away

module _ (named : Named) (sites : List (Row Site)) (numbers : Numbers) (differ : Differ (tokens named.signatures)) where
  abbrev Judges : Judgement → List Fact → Type 0
  Judges j fs = Keeps j × (j None ≡ None → Sub (text_signatures fs) named.signatures → Few fs)

  none_within : (j : Judgement) (fs : List Fact) → Keeps j → text_signatures fs ≡ [] → Judges j fs
  none_within j fs k e = (k, λ h s. few_none fs e)

  judges_both : (i j : Judgement) (fs gs : List Fact) → Judges i fs → Judges j gs → Judges (both i j) (fs ++ gs)
  judges_both i j fs gs h k = (
    keeps_both h.0 k.0,
    λ e s.
        let free = both_free i j k.0 e in
        let subs = subst (λ rs. Sub rs named.signatures) (signatures_append fs gs) s in
        few_both fs gs (h.1 free.0 (sub_left (text_signatures fs) (text_signatures gs) named.signatures subs)) (k.1 free.1 (sub_right (text_signatures fs) (text_signatures gs) named.signatures subs)),
  )

  judges_before : (j : Judgement) (fs gs : List Fact) → text_signatures fs ≡ [] → Judges j gs → Judges j (fs ++ gs)
  judges_before j fs gs e h =
      (h.0, λ f s. few_both fs gs (few_none fs e) (h.1 f (sub_right (text_signatures fs) (text_signatures gs) named.signatures (subst (λ rs. Sub rs named.signatures) (signatures_append fs gs) s))))

  like : {i j : Judgement} {fs gs : List Fact} → j ≡ i → gs ≡ fs → Judges i fs → Judges j gs
  like e f h = subst₂ Judges (sym e) (sym f) h

  -- ---- expressions

  felem_none : (e : RawFelem) → text_signatures (felem_facts e) ≡ []
  felem_none (felem.One e) = (expression_plain numbers e reading.Value).signatures
  felem_none (felem.While e c) =
      signatures_append (expression_uses e reading.Value) (condition_uses c reading.Value) ∙ ap₂ (λ a b. a ++ b) (expression_plain numbers e reading.Value).signatures (condition_plain numbers c reading.Value).signatures
  felem_none (felem.Step a b c) =
      signatures_append (expression_uses a reading.Value) (expression_uses b reading.Value ++ expression_uses c reading.Value)
      ∙ ap₂ (λ x y. x ++ y) (expression_plain numbers a reading.Value).signatures
      (signatures_append (expression_uses b reading.Value) (expression_uses c reading.Value) ∙ ap₂ (λ x y. x ++ y) (expression_plain numbers b reading.Value).signatures (expression_plain numbers c reading.Value).signatures)

  felems_none : (es : List RawFelem) → text_signatures (felems_facts es) ≡ []
  felems_none [] = refl
  felems_none (e ∷ es) = signatures_append (felem_facts e) (felems_facts es) ∙ ap₂ (λ a b. a ++ b) (felem_none e) (felems_none es)

  two_none : (fs gs : List Fact) → text_signatures fs ≡ [] → text_signatures gs ≡ [] → text_signatures (fs ++ gs) ≡ []
  two_none fs gs e f = signatures_append fs gs ∙ ap₂ (λ a b. a ++ b) e f

  use_none : (x : Use) (fs : List Fact) → text_signatures fs ≡ [] → text_signatures (fact.Uses x ∷ fs) ≡ []
  use_none x fs e = ap (λ rs. rs ++ text_signatures fs) (signatures_use x) ∙ e

  abbrev pub Is_decl : RawDecl → Type 0
  Is_decl x = Judges (declaration_judged named sites x) (declaration_facts x)

  abbrev pub Is_form : RawForm → Type 0
  Is_form x = Judges (form_judged named sites x) (form_facts x)

  abbrev pub Is_simple : RawSimple → Type 0
  Is_simple x = Judges (simple_judged named sites x) (simple_facts x)

  abbrev pub Is_block : RawBlock → Type 0
  Is_block x = (outermost : Bool) → Judges (block_judged named sites x) (block_facts x outermost)

  abbrev pub Is_proc : RawProc → Type 0
  Is_proc x = Judges (proc_judged named sites x) (procedure_facts x)

  abbrev pub Is_stmt : RawStmt → Type 0
  Is_stmt x = Judges (statement_judged named sites x) (statement_facts x)

  abbrev known : Known
  known = record { Decl = Is_decl; Form = Is_form; Simple = Is_simple; Block = Is_block; Proc = Is_proc; Stmt = Is_stmt }

  decl_so : (y : DeclParts known) → Is_decl (roll-RawDecl (decl_layer known y))
  decl_so (layer.Data d) = like ((rolls (judged_pass named sites)).decl (layer.Data d)) ((rolls facts_pass).decl (layer.Data d)) (none_within (declared_judged sites d) (data_facts d) (keeps_declared sites d) (data_none d))
  decl_so (layer.Overlay at b d) =
      like ((rolls (judged_pass named sites)).decl (layer.Overlay at b d)) ((rolls facts_pass).decl (layer.Overlay at b d))
      (none_within (overlaid_judged named sites b d) (base_facts b ++ data_facts d) (keeps_overlaid named sites b d) (two_none (base_facts b) (data_facts d) (use_none (record { name = base_name b; form = use_form.Base }) [] refl) (data_none d)))
  decl_so (layer.Switch at n labels) =
      like ((rolls (judged_pass named sites)).decl (layer.Switch at n labels)) ((rolls facts_pass).decl (layer.Switch at n labels))
      (none_within (switch_judged n labels) (declares n kind.Switch ∷ each_uses labels) (keeps_unless (nat_le (length labels) 255) rule.TooMany n.at) (declared_before n kind.Switch (each_uses labels) ∙ uses_none labels))
  decl_so (layer.Proc p) = like ((rolls (judged_pass named sites)).decl (layer.Proc p.0)) ((rolls facts_pass).decl (layer.Proc p.0)) p.1

  form_so : (y : FormParts known) → Is_form (roll-RawForm (form_layer known y))
  form_so (layer.Simple s) = like ((rolls (judged_pass named sites)).form (layer.Simple s.0)) ((rolls facts_pass).form (layer.Simple s.0)) s.1
  form_so (layer.If at test labels first None) =
      like ((rolls (judged_pass named sites)).form (layer.If at test labels first.0 None)) ((rolls facts_pass).form (layer.If at test labels first.0 None))
      (judges_both (condition_judged named test) (both (simple_judged named sites first.0) fine) (condition_uses test reading.Value) (each_declares kind.Label labels ++ (simple_facts first.0 ++ []))
      (none_within (condition_judged named test) (condition_uses test reading.Value) (test_keeps named test) (condition_plain numbers test reading.Value).signatures)
      (judges_before (both (simple_judged named sites first.0) fine) (each_declares kind.Label labels) (simple_facts first.0 ++ []) (each_none kind.Label labels)
      (judges_both (simple_judged named sites first.0) fine (simple_facts first.0) [] first.1 (none_within fine [] keeps_fine refl))))
  form_so (layer.If at test labels first (Some second)) =
      like ((rolls (judged_pass named sites)).form (layer.If at test labels first.0 (Some second.0))) ((rolls facts_pass).form (layer.If at test labels first.0 (Some second.0)))
      (judges_both (condition_judged named test) (both (simple_judged named sites first.0) (statement_judged named sites second.0)) (condition_uses test reading.Value) (each_declares kind.Label labels ++ (simple_facts first.0 ++ statement_facts second.0))
      (none_within (condition_judged named test) (condition_uses test reading.Value) (test_keeps named test) (condition_plain numbers test reading.Value).signatures)
      (judges_before (both (simple_judged named sites first.0) (statement_judged named sites second.0)) (each_declares kind.Label labels) (simple_facts first.0 ++ statement_facts second.0) (each_none kind.Label labels)
      (judges_both (simple_judged named sites first.0) (statement_judged named sites second.0) (simple_facts first.0) (statement_facts second.0) first.1 second.1)))
  form_so (layer.For at variable elems body) =
      like ((rolls (judged_pass named sites)).form (layer.For at variable elems body.0)) ((rolls facts_pass).form (layer.For at variable elems body.0))
      (judges_both (reference_judged named variable) (both (felems_judged named (scale_of named variable) elems) (statement_judged named sites body.0)) (fact.Loop at ∷ reference_uses variable reading.Whole) (felems_facts elems ++ statement_facts body.0)
      (none_within (reference_judged named variable) (fact.Loop at ∷ reference_uses variable reading.Whole) (place_keeps named variable)
      (ap (λ rs. rs ++ text_signatures (reference_uses variable reading.Whole)) (signatures_loop at) ∙ (reference_plain numbers variable reading.Whole).signatures))
      (judges_both (felems_judged named (scale_of named variable) elems) (statement_judged named sites body.0) (felems_facts elems) (statement_facts body.0)
      (none_within (felems_judged named (scale_of named variable) elems) (felems_facts elems) (elements_keep named (scale_of named variable) elems) (felems_none elems)) body.1))

  simple_so : (y : SimpleParts known) → Is_simple (roll-RawSimple (simple_layer known y))
  simple_so layer.Empty = like ((rolls (judged_pass named sites)).simple layer.Empty) ((rolls facts_pass).simple layer.Empty) (none_within fine [] keeps_fine refl)
  simple_so (layer.Assign r e) =
      like ((rolls (judged_pass named sites)).simple (layer.Assign r e)) ((rolls facts_pass).simple (layer.Assign r e))
      (none_within (both (reference_judged named r) (expression_judged named (scale_of named r) e)) (reference_uses r reading.Target ++ expression_uses e reading.Value)
      (keeps_both (place_keeps named r) (whole_keeps named (scale_of named r) e))
      (two_none (reference_uses r reading.Target) (expression_uses e reading.Value) (reference_plain numbers r reading.Target).signatures (expression_plain numbers e reading.Value).signatures))
  simple_so (layer.AssignBits bits r e) =
      like ((rolls (judged_pass named sites)).simple (layer.AssignBits bits r e)) ((rolls facts_pass).simple (layer.AssignBits bits r e))
      (none_within (both (bits_judged bits) (both (reference_judged named r) (expression_judged named 0 e))) (reference_uses r reading.Whole ++ expression_uses e reading.Value)
      (keeps_both (keeps_bits bits) (keeps_both (place_keeps named r) (whole_keeps named 0 e)))
      (two_none (reference_uses r reading.Whole) (expression_uses e reading.Value) (reference_plain numbers r reading.Whole).signatures (expression_plain numbers e reading.Value).signatures))
  simple_so (layer.Goto at n) =
      like ((rolls (judged_pass named sites)).simple (layer.Goto at n)) ((rolls facts_pass).simple (layer.Goto at n)) (none_within fine (fact.Uses (record { name = n; form = use_form.Goto }) ∷ []) keeps_fine (use_none (record { name = n; form = use_form.Goto }) [] refl))
  simple_so (layer.GotoSwitch at n e) =
      like ((rolls (judged_pass named sites)).simple (layer.GotoSwitch at n e)) ((rolls facts_pass).simple (layer.GotoSwitch at n e))
      (none_within (expression_judged named 0 e) (fact.Uses (record { name = n; form = use_form.GotoSwitch }) ∷ expression_uses e reading.Value) (whole_keeps named 0 e)
      (use_none (record { name = n; form = use_form.GotoSwitch }) (expression_uses e reading.Value) (expression_plain numbers e reading.Value).signatures))
  simple_so (layer.Call n es) =
      like ((rolls (judged_pass named sites)).simple (layer.Call n es)) ((rolls facts_pass).simple (layer.Call n es))
      (none_within (both (call_faults named (signature_of named n) n (map (expression named) es)) (arguments_counted es)) (fact.Uses (record { name = n; form = use_form.Call }) ∷ argument_uses es)
      (keeps_both (call_keeps named n es) (counted_keeps es))
      (use_none (record { name = n; form = use_form.Call }) (argument_uses es) (arguments_plain numbers es).signatures))
  simple_so (layer.Answer at e) =
      like ((rolls (judged_pass named sites)).simple (layer.Answer at e)) ((rolls facts_pass).simple (layer.Answer at e))
      (none_within (expression_judged named (fraction_of_kind (kind_of named (answer_name at))) e) (fact.Uses (record { name = answer_name at; form = use_form.Answer }) ∷ expression_uses e reading.Value)
      (whole_keeps named (fraction_of_kind (kind_of named (answer_name at))) e)
      (use_none (record { name = answer_name at; form = use_form.Answer }) (expression_uses e reading.Value) (expression_plain numbers e reading.Value).signatures))
  simple_so (layer.Block b) = like ((rolls (judged_pass named sites)).simple (layer.Block b.0)) ((rolls facts_pass).simple (layer.Block b.0)) (b.1 false)

  decls_so : (ds : List (WithDecl known)) → Judges (all_judged (map (declaration_judged named sites) (map (λ e. e.0) ds))) (said.joined (map declaration_facts (map (λ e. e.0) ds)))
  decls_so [] = none_within fine [] keeps_fine refl
  decls_so (d ∷ ds) = judges_both (declaration_judged named sites d.0) (all_judged (map (declaration_judged named sites) (map (λ e. e.0) ds))) (declaration_facts d.0) (said.joined (map declaration_facts (map (λ e. e.0) ds))) d.1 (decls_so ds)

  stmts_so : (ss : List (WithStmt known)) → Judges (all_judged (map (statement_judged named sites) (map (λ e. e.0) ss))) (said.joined (map statement_facts (map (λ e. e.0) ss)))
  stmts_so [] = none_within fine [] keeps_fine refl
  stmts_so (s ∷ ss) = judges_both (statement_judged named sites s.0) (all_judged (map (statement_judged named sites) (map (λ e. e.0) ss))) (statement_facts s.0) (said.joined (map statement_facts (map (λ e. e.0) ss))) s.1 (stmts_so ss)

  enclosed_so : (b : Bool) (j : Judgement) (fs : List Fact) → Judges j fs → Judges j (enclosed b fs)
  enclosed_so true j fs h =
      (h.0, λ e s. few_block None fs (h.1 e (subst (λ rs. Sub rs named.signatures) (append-nil (fact_signatures (fact.Block None fs)) ∙ signatures_block None fs) s)))
  enclosed_so false j fs h = h

  block_so : (y : BlockParts known) → Is_block (roll-RawBlock (block_layer known y))
  block_so y outermost =
      let ds : List RawDecl = map (λ e. e.0) y.decls in
      let ss : List RawStmt = map (λ e. e.0) y.stmts in
      let fs : List Fact = said.joined (map declaration_facts ds) ++ said.joined (map statement_facts ss) in
      like ((rolls (judged_pass named sites)).block (block_layer known y)) (ap (λ f. f outermost) ((rolls facts_pass).block (block_layer known y)))
      (enclosed_so (outermost || not (length (map declaration_facts ds) == 0)) (both (all_judged (map (declaration_judged named sites) ds)) (all_judged (map (statement_judged named sites) ss))) fs
      (judges_both (all_judged (map (declaration_judged named sites) ds)) (all_judged (map (statement_judged named sites) ss)) (said.joined (map declaration_facts ds)) (said.joined (map statement_facts ss)) (decls_so y.decls) (stmts_so y.stmts)))

  -- a procedure's own parameters are counted where it is declared
  module _ (answer : Option RawType) (n : RawName) (params : List RawParam) (j : Judgement) (fs : List Fact) (body : Judges j fs) where
    abbrev row : Row Signature
    row = record { token = n.at.token; item = record { answer = answer; params = flattened params } }

    abbrev inner : List Fact
    inner = answer_facts answer ++ (parameters_facts params ++ fs)

    abbrev all : List Fact
    all = declares n (kind.Proc answer) ∷ specifies n.at.token answer (flattened params) ∷ fact.Block (Some n.at.token) inner ∷ []

    own_rows : text_signatures all ≡ row ∷ text_signatures inner
    own_rows =
        declared_before n (kind.Proc answer) (specifies n.at.token answer (flattened params) ∷ fact.Block (Some n.at.token) inner ∷ [])
        ∙ specified_before n.at.token answer (flattened params) (fact.Block (Some n.at.token) inner ∷ [])
        ∙ ap (λ rs. row ∷ rs) (append-nil (fact_signatures (fact.Block (Some n.at.token) inner)) ∙ signatures_block (Some n.at.token) inner)

    own_few : heading_judged named answer n params None ≡ None → Sub (text_signatures all) named.signatures → length (flattened params) ≤ 32
    own_few e s =
        let test : Bool = few_if (item_at named.signatures n.at.token) in
        let behind = both_free (answer_judged answer) (both (unless test rule.TooMany n.at) (params_judged params)) (keeps_both (keeps_unless test rule.TooMany n.at) (keeps_params params)) e in
        let counted = both_free (unless test rule.TooMany n.at) (params_judged params) (keeps_params params) behind.1 in
        let there = found named.signatures row differ (s row (subst (In row) (sym own_rows) (inl refl))) in
        at_most (length (flattened params)) (subst (λ o. IsTrue (few_if o)) there (holds test rule.TooMany n.at counted.0))

    own_parameters : heading_judged named answer n params None ≡ None → params_judged params None ≡ None
    own_parameters e =
        let test : Bool = few_if (item_at named.signatures n.at.token) in
        let behind = both_free (answer_judged answer) (both (unless test rule.TooMany n.at) (params_judged params)) (keeps_both (keeps_unless test rule.TooMany n.at) (keeps_params params)) e in
        (both_free (unless test rule.TooMany n.at) (params_judged params) (keeps_params params) behind.1).1

    inner_sub : Sub (text_signatures all) named.signatures → Sub (text_signatures fs) named.signatures
    inner_sub s =
        let of_inner = λ (r : Row Signature) (i : In r (text_signatures inner)). s r (subst (In r) (sym own_rows) (inr i)) in
        let behind = sub_right (text_signatures (answer_facts answer)) (text_signatures (parameters_facts params ++ fs)) named.signatures (subst (λ rs. Sub rs named.signatures) (signatures_append (answer_facts answer) (parameters_facts params ++ fs)) of_inner) in
        sub_right (text_signatures (parameters_facts params)) (text_signatures fs) named.signatures (subst (λ rs. Sub rs named.signatures) (signatures_append (parameters_facts params) fs) behind)

    procedure_so : Judges (both (heading_judged named answer n params) j) all
    procedure_so = (
      keeps_both (keeps_heading named answer n params) body.0,
      λ e s.
          let free = both_free (heading_judged named answer n params) j body.0 e in
          few_specified n (kind.Proc answer) answer (flattened params) (fact.Block (Some n.at.token) inner ∷ []) (own_few free.0 s)
          (few_block (Some n.at.token) inner
          (few_both (answer_facts answer) (parameters_facts params ++ fs) (few_none (answer_facts answer) (answer_none answer))
          (few_both (parameters_facts params) fs (few_in_parameters params (own_parameters free.0)) (body.1 free.1 (inner_sub s))))),
    )

  proc_so : (y : ProcParts known) → Is_proc (roll-RawProc (proc_layer known y))
  proc_so y = like ((rolls (judged_pass named sites)).proc (proc_layer known y)) ((rolls facts_pass).proc (proc_layer known y)) (procedure_so y.answer y.name y.params (statement_judged named sites y.body.0) (statement_facts y.body.0) y.body.1)

  stmt_so : (y : StmtParts known) → Is_stmt (roll-RawStmt (stmt_layer known y))
  stmt_so y = like ((rolls (judged_pass named sites)).stmt (stmt_layer known y)) ((rolls facts_pass).stmt (stmt_layer known y)) (judges_before (form_judged named sites y.form.0) (each_declares kind.Label y.labels) (form_facts y.form.0) (each_none kind.Label y.labels) y.form.1)

  pub block_few : (b : RawBlock) → Is_block b
  block_few = each_block known (record { decl = decl_so; form = form_so; simple = simple_so; block = block_so; proc = proc_so; stmt = stmt_so })
