-- The calls of each statement fit, and those of the bodies that stand in it: by induction over all rules of statements.
use Rattle.std.proofs.Common.{◌≡◌, ℕ, List, [], ◌∷◌, map, Bool, false, Option, Some, None, sym, subst, ap}
use Rattle.cw_table.specs.declared.table.Row.{Row}
use Rattle.cw_tree.specs.declared.statement.RawBlock.{RawBlock}
use Rattle.cw_tree.specs.declared.statement.RawStmt.{RawStmt}
use Rattle.cw_tree.specs.declared.statement.RawDecl.TheOpen as layer
use Rattle.cw_facts.specs.declared.fact.Fact.{Fact}
use Rattle.cw_facts.specs.declared.fact.Fact.TheVariants as fact
use Rattle.cw_facts.specs.declared.fact.Form.TheVariants as form
use Rattle.cw_facts.specs.declared.fact.Kind.TheVariants as kind
use Rattle.cw_facts.specs.declared.fact.Reading.TheVariants as reading
use Rattle.cw_facts.specs.Uses.{uses_of, expression_uses}
use Rattle.cw_facts.specs.Facts.{BlockFacts, joined, each_declares, answer_name, facts_if}
use Rattle.cw_facts.specs.Facts as facts
use Rattle.cw_scope.specs.declared.resolve.Named.{Named}
use Rattle.cw_scale.specs.Faults.{Judgement}
use Rattle.cw_scale.specs.Kinds.{kind_of, signature_of, fraction_of_kind}
use Rattle.cw_scale.specs.TypeRules.{expression, call_faults}
use Rattle.cw_items.specs.declared.families.Site.{Site}
use Rattle.cw_judge.specs.Judged.{arguments_counted, all_judged, judged_if}
use Rattle.cw_judge.specs.Judged as judged
use Rattle.cw_make.specs.Labels.{proc_within}
use Rattle.cw_make_expr.specs.Parts.{Numbers}
use Rattle.cw_make_stmt.specs.Made as made
use Rattle.cw_unit.specs.declared.unit.Stmt.{Stmt}
use Rattle.cw_deepest.specs.Programs.Calls.{in_statement}
use Rattle.cw_sound.specs.Uses.Mentions.{In}
use Rattle.cw_sound.proofs.Expressions.Judging.{NoFault, keeps_fine, both_free}
use Rattle.cw_sound.proofs.Statements.Keeping.{counted_keeps, simple_keeps, statement_keeps}
use Rattle.cw_sound.specs.Statements.Bodies.{Body, Bodies}
use Rattle.cw_sound.specs.Statements.Bodies as bodies
use Rattle.cw_sound.proofs.Calls.Trees.Parts.{Context, AllFit}
use Rattle.cw_sound.proofs.Calls.Statements.Parts.{call_statement_fits, no_row, row_more, marked_fits, conditional_fits, repetition_fits, assign_fits, bits_fit, jump_fits, switch_jump_fits, answer_fits}
use Rattle.cw_sound.proofs.Statements.Halves.{Standing, if_parts, loop_parts, block_parts, next_parts}
use Rattle.cw_sound.proofs.Statements.InBodies.{bodies_are_right}
use Rattle.cw_sound.proofs.Statements.Folds.{facts_pass, judged_pass, made_pass}
use Rattle.cw_sound.proofs.Statements.Passes.{layered, rolls, LayersKnown, Rolled, rules_of}
use Rattle.cw_sound.proofs.Statements.Layers.{Known, WithStmt, FormParts, SimpleParts, BlockParts, StmtParts, form_layer, simple_layer, block_layer, stmt_layer, Rules, each_block, each_stmt}

module _ (named : Named) (sites : List (Row Site)) (numbers : Numbers) (inside : (who : Option ℕ) → Context named numbers)
    (owned : (who owner : Option ℕ) (fs : List Fact) → (inside who).Stood (fact.Block owner fs ∷ []) → (inside (proc_within numbers owner who)).Stood fs) where
  abbrev Fits : (who : Option ℕ) → Stmt → Type 0
  Fits who s = AllFit named numbers (inside who) (in_statement s)

  -- what is said of a body
  abbrev pub BodyRight : Body → Type 0
  BodyRight b = Fits (proc_within numbers (Some b.token) None) (made.statement_of named numbers b.statement)

  abbrev pub AllRight : Bodies → Type 0
  AllRight bs = (b : Body) → In b bs → BodyRight b

  abbrev standing : Standing numbers
  standing = record { There = λ who. (inside who).Stood; halves = λ who. (inside who).split; owned = owned }

  -- what is said of a tree that gives a statement
  abbrev Whole : List Fact → Judgement → Stmt → Type 0
  Whole fs j s = (who : Option ℕ) → (inside who).Stood fs → NoFault j → Fits who s

  whole_alike : {fs gs : List Fact} {j k : Judgement} {a b : Stmt} → fs ≡ gs → j ≡ k → a ≡ b → Whole gs k b → Whole fs j a
  whole_alike e f d h who s free = subst (Fits who) (sym d) (h who (subst (λ (x : List Fact). (inside who).Stood x) e s) (subst NoFault f free))

  abbrev known : Known
  known = record {
    Decl = λ x. Unit {0};
    Form = λ x. Whole (facts.form_facts x) (judged.form_judged named sites x) (made.form_of named numbers x);
    Simple = λ x. Whole (facts.simple_facts x) (judged.simple_judged named sites x) (made.simple_of named numbers x);
    Block = λ x. (outermost : Bool) → Whole (facts.block_facts x outermost) (judged.block_judged named sites x) (made.block_of named numbers x);
    Proc = λ x. Unit {0};
    Stmt = λ x. Whole (facts.statement_facts x) (judged.statement_judged named sites x) (made.statement_of named numbers x);
  }

  abbrev layers : LayersKnown
  layers = record {
    Decl = λ y. Unit {0};
    Form = λ y. Whole ((layered facts_pass).form y) ((layered (judged_pass named sites)).form y) ((layered (made_pass named numbers)).form y);
    Simple = λ y. Whole ((layered facts_pass).simple y) ((layered (judged_pass named sites)).simple y) ((layered (made_pass named numbers)).simple y);
    Block = λ y. (outermost : Bool) → Whole ((layered facts_pass).block y outermost) ((layered (judged_pass named sites)).block y) ((layered (made_pass named numbers)).block y);
    Proc = λ y. Unit {0};
    Stmt = λ y. Whole ((layered facts_pass).stmt y) ((layered (judged_pass named sites)).stmt y) ((layered (made_pass named numbers)).stmt y);
  }

  rolled : Rolled known layers
  rolled = record {
    decl = λ y h. tt;
    form = λ y. whole_alike ((rolls facts_pass).form y) ((rolls (judged_pass named sites)).form y) ((rolls (made_pass named numbers)).form y);
    simple = λ y. whole_alike ((rolls facts_pass).simple y) ((rolls (judged_pass named sites)).simple y) ((rolls (made_pass named numbers)).simple y);
    block = λ y h outermost. whole_alike (ap (λ (f : BlockFacts). f outermost) ((rolls facts_pass).block y)) ((rolls (judged_pass named sites)).block y) ((rolls (made_pass named numbers)).block y) (h outermost);
    proc = λ y h. tt;
    stmt = λ y. whole_alike ((rolls facts_pass).stmt y) ((rolls (judged_pass named sites)).stmt y) ((rolls (made_pass named numbers)).stmt y);
  }

  all_statements : (who : Option ℕ) (ts : List (WithStmt known)) → let zs : List RawStmt = map (λ y. y.0) ts in
      (inside who).Stood (joined (map facts.statement_facts zs)) → NoFault (all_judged (map (judged.statement_judged named sites) zs)) → Fits who (made.row (map (made.statement_of named numbers) zs))
  all_statements who [] s free = no_row named numbers (inside who)
  all_statements who (t ∷ ts) s free =
      let zs : List RawStmt = map (λ y. y.0) ts in
      let p = next_parts named numbers standing who facts.statement_facts (judged.statement_judged named sites) (statement_keeps named sites) t.0 zs s free in
      row_more named numbers (inside who) (made.statement_of named numbers t.0) (map (made.statement_of named numbers) zs) (t.1 who p.0 p.1) (all_statements who ts p.2 p.3)

  form_rule : (y : FormParts known) → layers.Form (form_layer known y)
  form_rule (layer.Simple x) who s free = x.1 who s free
  form_rule (layer.If at test labels first None) who s free =
      let p = if_parts named numbers standing who test labels (facts.simple_facts first.0) (facts_if None) (judged.simple_judged named sites first.0) (judged_if None) (simple_keeps named sites first.0) keeps_fine s free in
      conditional_fits named numbers (inside who) at test (made.marked numbers labels (made.simple_of named numbers first.0)) (made.row []) p.0 p.1 (marked_fits named numbers (inside who) labels (made.simple_of named numbers first.0) (first.1 who p.2 p.3)) (no_row named numbers (inside who))
  form_rule (layer.If at test labels first (Some second)) who s free =
      let p = if_parts named numbers standing who test labels (facts.simple_facts first.0) (facts_if (Some (facts.statement_facts second.0))) (judged.simple_judged named sites first.0) (judged_if (Some (judged.statement_judged named sites second.0))) (simple_keeps named sites first.0) (statement_keeps named sites second.0) s free in
      conditional_fits named numbers (inside who) at test (made.marked numbers labels (made.simple_of named numbers first.0)) (made.statement_of named numbers second.0) p.0 p.1 (marked_fits named numbers (inside who) labels (made.simple_of named numbers first.0) (first.1 who p.2 p.3)) (second.1 who p.4 p.5)
  form_rule (layer.For at variable elems body) who s free =
      let p = loop_parts named numbers standing who at variable elems (facts.statement_facts body.0) (judged.statement_judged named sites body.0) (statement_keeps named sites body.0) s free in
      repetition_fits named numbers (inside who) at variable elems (made.statement_of named numbers body.0) p.1 p.3 p.2 p.4 (body.1 who p.5 p.6)

  simple_rule : (y : SimpleParts known) → layers.Simple (simple_layer known y)
  simple_rule layer.Empty who s free = no_row named numbers (inside who)
  simple_rule (layer.Assign r e) who s free = assign_fits named numbers (inside who) r e s free
  simple_rule (layer.AssignBits bits r e) who s free = bits_fit named numbers (inside who) bits r e s free
  simple_rule (layer.Goto at n) who s free = jump_fits named numbers (inside who) at n
  simple_rule (layer.GotoSwitch at n e) who s free =
      let sides = (inside who).split (uses_of n form.GotoSwitch) (expression_uses e reading.Value) s in
      switch_jump_fits named numbers (inside who) at n e sides.1 free
  simple_rule (layer.Call n es) who s free =
      let calm = (both_free (call_faults named (signature_of named n) n (map (expression named) es)) (arguments_counted es) (counted_keeps es) free).0 in
      call_statement_fits named numbers (inside who) n es s calm
  simple_rule (layer.Answer at e) who s free =
      let sides = (inside who).split (uses_of (answer_name at) form.Answer) (expression_uses e reading.Value) s in
      answer_fits named numbers (inside who) at e (fraction_of_kind (kind_of named (answer_name at))) sides.1 free
  simple_rule (layer.Block b) who s free = b.1 false who s free

  block_rule : (y : BlockParts known) → layers.Block (block_layer known y)
  block_rule y outermost who s free =
      let p = block_parts named numbers standing who sites outermost (map (λ z. z.0) y.decls) (map (λ z. z.0) y.stmts) s free in
      all_statements who y.stmts p.2 p.3

  statement_rule : (y : StmtParts known) → layers.Stmt (stmt_layer known y)
  statement_rule y who s free =
      marked_fits named numbers (inside who) y.labels (made.form_of named numbers y.form.0) (y.form.1 who ((inside who).split (each_declares kind.Label y.labels) (facts.form_facts y.form.0) s).1 free)

  rules : Rules known
  rules = rules_of rolled (record { decl = λ y. tt; form = form_rule; simple = simple_rule; block = block_rule; proc = λ y. tt; stmt = statement_rule })

  pub block_is_right : (x : RawBlock) (outermost : Bool) (who : Option ℕ) → (inside who).Stood (facts.block_facts x outermost) → NoFault (judged.block_judged named sites x) → Fits who (made.block_of named numbers x) × AllRight (bodies.block_bodies x)
  block_is_right x outermost who s free = (
    each_block known rules x outermost who s free,
    λ b i. let k = bodies_are_right named sites numbers standing x outermost who s free b i in each_stmt known rules b.statement (proc_within numbers (Some b.token) None) k.0 k.1,
  )
