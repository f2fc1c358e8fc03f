-- No judgement of a statement takes a fault away, whatever its names stand for.
use Rattle.std.proofs.Common.{ℕ, List, [], ◌∷◌, map, Some, None, sym, subst}
use Rattle.cw_table.specs.declared.table.Row.{Row}
use Rattle.cw_tree.specs.declared.expression.RawExpr.{RawExpr}
use Rattle.cw_tree.specs.declared.expression.RawCond.{RawCond}
use Rattle.cw_tree.specs.declared.expression.RawRef.{RawRef}
use Rattle.cw_tree.specs.declared.statement.RawFelem.{RawFelem}
use Rattle.cw_tree.specs.declared.statement.RawFelem.TheVariants as felem
use Rattle.cw_tree.specs.declared.statement.RawDecl.{RawDecl}
use Rattle.cw_tree.specs.declared.statement.RawDecl.TheOpen as layer
use Rattle.cw_tree.specs.declared.statement.RawForm.{RawForm}
use Rattle.cw_tree.specs.declared.statement.RawSimple.{RawSimple}
use Rattle.cw_tree.specs.declared.statement.RawBlock.{RawBlock}
use Rattle.cw_tree.specs.declared.statement.RawProc.{RawProc}
use Rattle.cw_tree.specs.declared.statement.RawStmt.{RawStmt}
use Rattle.cw_facts.specs.Facts.{answer_name}
use Rattle.cw_scope.specs.declared.resolve.Named.{Named}
use Rattle.cw_scale.specs.Faults.{Judgement}
use Rattle.cw_scale.specs.Kinds.{kind_of, fraction_of_kind}
use Rattle.cw_items.specs.declared.families.Site.{Site}
use Rattle.cw_judge.specs.Operators.{expression_operators, condition_operators, reference_operators}
use Rattle.cw_judge.specs.Judged.{expression_judged, condition_judged, reference_judged, arguments_counted, scale_of, all_judged, felem_judged, felems_judged, declaration_judged, form_judged, simple_judged, block_judged, procedure_judged, statement_judged}
use Rattle.cw_sound.proofs.Expressions.Judging.{Keeps, keeps_fine, keeps_both, keeps_bits}
use Rattle.cw_sound.proofs.Expressions.Keeping.{expression_keeps, condition_keeps, reference_keeps, call_keeps}
use Rattle.cw_sound.proofs.Items.Keeping.{keeps_declared, keeps_overlaid, keeps_heading, keeps_switch, keeps_few, keeps_few_each}
use Rattle.cw_sound.proofs.Statements.Passes.{whole, layered, rolls, related, related_rolls, rules_of}
use Rattle.cw_sound.proofs.Statements.Folds.{judged_pass}
use Rattle.cw_sound.proofs.Statements.Layers.{Known, DeclParts, FormParts, SimpleParts, BlockParts, ProcParts, StmtParts, decl_layer, form_layer, simple_layer, block_layer, proc_layer, stmt_layer, Rules, each_decl, each_simple, each_block, each_stmt}

-- ---- the number of operators

pub counted_keeps : (es : List RawExpr) → Keeps (arguments_counted es)
counted_keeps [] = keeps_fine
counted_keeps (e ∷ es) = keeps_both (keeps_few (expression_operators e)) (counted_keeps es)

pub all_keep : {X : Type 0} (f : X → Judgement) → ((x : X) → Keeps (f x)) → (xs : List X) → Keeps (all_judged (map f xs))
all_keep f h [] = keeps_fine
all_keep f h (x ∷ xs) = keeps_both (h x) (all_keep f h xs)

-- ---- expressions that are no part of another

module _ (named : Named) where
  pub whole_keeps : (f : ℕ) (e : RawExpr) → Keeps (expression_judged named f e)
  whole_keeps f e = keeps_both (expression_keeps named e f) (keeps_few (expression_operators e))

  pub test_keeps : (c : RawCond) → Keeps (condition_judged named c)
  test_keeps c = keeps_both (condition_keeps named c 0) (keeps_few (condition_operators c))

  pub place_keeps : (r : RawRef) → Keeps (reference_judged named r)
  place_keeps r = keeps_both (reference_keeps named r 0) (keeps_few_each (reference_operators r))

  pub element_keeps : (f : ℕ) (e : RawFelem) → Keeps (felem_judged named f e)
  element_keeps f (felem.One e) = whole_keeps f e
  element_keeps f (felem.While e c) = keeps_both (whole_keeps f e) (test_keeps c)
  element_keeps f (felem.Step a b c) =
      keeps_both (whole_keeps f a)
      (keeps_both (whole_keeps f b) (whole_keeps f c))

  pub elements_keep : (f : ℕ) (es : List RawFelem) → Keeps (felems_judged named f es)
  elements_keep f [] = keeps_fine
  elements_keep f (e ∷ es) = keeps_both (element_keeps f e) (elements_keep f es)

  module _ (sites : List (Row Site)) where
    abbrev Kept : Judgement → Judgement → Judgement → Type 0
    Kept j again once_more = Keeps j

    abbrev known : Known
    known = related Kept Kept (whole (judged_pass named sites)) (whole (judged_pass named sites)) (whole (judged_pass named sites))

    parts_keep : (T : Type 0) (j : T → Judgement) (ts : List ((t : T) × Keeps (j t))) → Keeps (all_judged (map j (map (λ y. y.0) ts)))
    parts_keep T j [] = keeps_fine
    parts_keep T j (t ∷ ts) = keeps_both t.1 (parts_keep T j ts)

    declaration_rule : (y : DeclParts known) → Keeps ((layered (judged_pass named sites)).decl (decl_layer known y))
    declaration_rule (layer.Data d) = keeps_declared sites d
    declaration_rule (layer.Overlay at b d) = keeps_overlaid named sites b d
    declaration_rule (layer.Switch at n labels) = keeps_switch n labels
    declaration_rule (layer.Proc p) = p.1

    form_rule : (y : FormParts known) → Keeps ((layered (judged_pass named sites)).form (form_layer known y))
    form_rule (layer.Simple s) = s.1
    form_rule (layer.If at test labels first None) = keeps_both (test_keeps test) (keeps_both first.1 keeps_fine)
    form_rule (layer.If at test labels first (Some second)) = keeps_both (test_keeps test) (keeps_both first.1 second.1)
    form_rule (layer.For at variable elems body) =
        let f : ℕ = scale_of named variable in
        keeps_both (place_keeps variable) (keeps_both (elements_keep f elems) body.1)

    simple_rule : (y : SimpleParts known) → Keeps ((layered (judged_pass named sites)).simple (simple_layer known y))
    simple_rule layer.Empty = keeps_fine
    simple_rule (layer.Assign r e) = keeps_both (place_keeps r) (whole_keeps (scale_of named r) e)
    simple_rule (layer.AssignBits bits r e) = keeps_both (keeps_bits bits) (keeps_both (place_keeps r) (whole_keeps 0 e))
    simple_rule (layer.Goto at n) = keeps_fine
    simple_rule (layer.GotoSwitch at n e) = whole_keeps 0 e
    simple_rule (layer.Call n es) = keeps_both (call_keeps named n es) (counted_keeps es)
    simple_rule (layer.Answer at e) = whole_keeps (fraction_of_kind (kind_of named (answer_name at))) e
    simple_rule (layer.Block b) = b.1

    block_rule : (y : BlockParts known) → Keeps ((layered (judged_pass named sites)).block (block_layer known y))
    block_rule y = keeps_both (parts_keep RawDecl (declaration_judged named sites) y.decls) (parts_keep RawStmt (statement_judged named sites) y.stmts)

    procedure_rule : (y : ProcParts known) → Keeps ((layered (judged_pass named sites)).proc (proc_layer known y))
    procedure_rule y = keeps_both (keeps_heading named y.answer y.name y.params) y.body.1

    statement_rule : (y : StmtParts known) → Keeps ((layered (judged_pass named sites)).stmt (stmt_layer known y))
    statement_rule y = y.form.1

    rules : Rules known
    rules =
        rules_of (related_rolls Kept Kept (rolls (judged_pass named sites)) (rolls (judged_pass named sites)) (rolls (judged_pass named sites)))
        (record { decl = declaration_rule; form = form_rule; simple = simple_rule; block = block_rule; proc = procedure_rule; stmt = statement_rule })

    pub statement_keeps : (x : RawStmt) → Keeps (statement_judged named sites x)
    statement_keeps = each_stmt known rules

    pub simple_keeps : (x : RawSimple) → Keeps (simple_judged named sites x)
    simple_keeps = each_simple known rules

    pub declaration_keeps : (x : RawDecl) → Keeps (declaration_judged named sites x)
    declaration_keeps = each_decl known rules

    pub block_keeps : (x : RawBlock) → Keeps (block_judged named sites x)
    block_keeps = each_block known rules
