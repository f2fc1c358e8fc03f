-- What stands in a text stands in the bodies of its procedures, and where the text has no fault none of them has one.
use Rattle.std.proofs.Common.{◌≡◌, inl, inr, ℕ, List, [], ◌∷◌, ◌++◌, map, Bool, false, Option, Some, None, sym, subst, ap}
use Rattle.cw_table.specs.declared.table.Row.{Row}
use Rattle.cw_tree.specs.declared.statement.RawDecl.{RawDecl}
use Rattle.cw_tree.specs.declared.statement.RawDecl.TheOpen as layer
use Rattle.cw_tree.specs.declared.statement.RawBlock.{RawBlock}
use Rattle.cw_tree.specs.declared.statement.RawStmt.{RawStmt}
use Rattle.cw_facts.specs.declared.fact.Fact.{Fact}
use Rattle.cw_facts.specs.declared.fact.Fact.TheVariants as fact
use Rattle.cw_facts.specs.declared.fact.Kind.TheVariants as kind
use Rattle.cw_facts.specs.Signatures.{flattened}
use Rattle.cw_facts.specs.Facts.{BlockFacts, joined, declares, specifies, each_declares, answer_facts, parameters_facts, facts_if}
use Rattle.cw_facts.specs.Facts as facts
use Rattle.cw_scope.specs.declared.resolve.Named.{Named}
use Rattle.cw_scale.specs.Faults.{Judgement}
use Rattle.cw_data.specs.Specifications.{heading_judged}
use Rattle.cw_items.specs.declared.families.Site.{Site}
use Rattle.cw_judge.specs.Judged.{all_judged, judged_if}
use Rattle.cw_judge.specs.Judged as judged
use Rattle.cw_make.specs.Labels.{proc_within}
use Rattle.cw_make_expr.specs.Parts.{Numbers}
use Rattle.cw_sound.specs.Uses.Mentions.{In}
use Rattle.cw_sound.proofs.Expressions.Judging.{Keeps, NoFault, keeps_fine, both_free}
use Rattle.cw_sound.proofs.Names.Lists.{in_either}
use Rattle.cw_sound.specs.Statements.Bodies.{Body, Bodies}
use Rattle.cw_sound.specs.Statements.Bodies as bodies
use Rattle.cw_sound.proofs.Statements.Keeping.{declaration_keeps, simple_keeps, statement_keeps}
use Rattle.cw_sound.proofs.Statements.Halves.{Standing, if_parts, loop_parts, block_parts, next_parts}
use Rattle.cw_sound.proofs.Statements.Layers.{Known, DeclParts, FormParts, SimpleParts, BlockParts, ProcParts, StmtParts, decl_layer, form_layer, simple_layer, block_layer, proc_layer, stmt_layer, Rules, each_block}
use Rattle.cw_sound.proofs.Statements.Passes.{layered, rolls, walked_layer, walk_rolls, bodies_walk, LayersKnown, Rolled, rules_of}
use Rattle.cw_sound.proofs.Statements.Folds.{facts_pass, judged_pass}

module _ (named : Named) (sites : List (Row Site)) (numbers : Numbers) (standing : Standing numbers) where
  -- what is said of a body
  abbrev pub BodyRight : Body → Type 0
  BodyRight b = standing.There (proc_within numbers (Some b.token) None) (facts.statement_facts b.statement) × NoFault (judged.statement_judged named sites b.statement)

  abbrev AllRight : Bodies → Type 0
  AllRight bs = (b : Body) → In b bs → BodyRight b

  none_right : AllRight []
  none_right b h = absurd h

  two_right : (bs cs : Bodies) → AllRight bs → AllRight cs → AllRight (bs ++ cs)
  two_right bs cs h k b i = elim (in_either b bs cs i) [ inl x ↦ h b x | inr x ↦ k b x ]

  -- what is said of the bodies in a tree
  abbrev Inner : List Fact → Judgement → Bodies → Type 0
  Inner fs j bs = (who : Option ℕ) → standing.There who fs → NoFault j → AllRight bs

  alike : {fs gs : List Fact} {j k : Judgement} {bs cs : Bodies} → fs ≡ gs → j ≡ k → bs ≡ cs → Inner gs k cs → Inner fs j bs
  alike e f g h who s free = subst AllRight (sym g) (h who (subst (standing.There who) e s) (subst NoFault f free))

  abbrev pub known : Known
  known = record {
    Decl = λ x. Inner (facts.declaration_facts x) (judged.declaration_judged named sites x) (bodies.declaration_bodies x);
    Form = λ x. Inner (facts.form_facts x) (judged.form_judged named sites x) (bodies.form_bodies x);
    Simple = λ x. Inner (facts.simple_facts x) (judged.simple_judged named sites x) (bodies.simple_bodies x);
    Block = λ x. (outermost : Bool) → Inner (facts.block_facts x outermost) (judged.block_judged named sites x) (bodies.block_bodies x);
    Proc = λ x. Inner (facts.procedure_facts x) (judged.procedure_judged named sites x) (bodies.procedure_bodies x);
    Stmt = λ x. Inner (facts.statement_facts x) (judged.statement_judged named sites x) (bodies.statement_bodies x);
  }

  abbrev layers : LayersKnown
  layers = record {
    Decl = λ y. Inner ((layered facts_pass).decl y) ((layered (judged_pass named sites)).decl y) ((walked_layer bodies_walk).decl y);
    Form = λ y. Inner ((layered facts_pass).form y) ((layered (judged_pass named sites)).form y) ((walked_layer bodies_walk).form y);
    Simple = λ y. Inner ((layered facts_pass).simple y) ((layered (judged_pass named sites)).simple y) ((walked_layer bodies_walk).simple y);
    Block = λ y. (outermost : Bool) → Inner ((layered facts_pass).block y outermost) ((layered (judged_pass named sites)).block y) ((walked_layer bodies_walk).block y);
    Proc = λ y. Inner ((layered facts_pass).proc y) ((layered (judged_pass named sites)).proc y) ((walked_layer bodies_walk).proc y);
    Stmt = λ y. Inner ((layered facts_pass).stmt y) ((layered (judged_pass named sites)).stmt y) ((walked_layer bodies_walk).stmt y);
  }

  rolled : Rolled known layers
  rolled = record {
    decl = λ y. alike ((rolls facts_pass).decl y) ((rolls (judged_pass named sites)).decl y) ((walk_rolls bodies_walk).decl y);
    form = λ y. alike ((rolls facts_pass).form y) ((rolls (judged_pass named sites)).form y) ((walk_rolls bodies_walk).form y);
    simple = λ y. alike ((rolls facts_pass).simple y) ((rolls (judged_pass named sites)).simple y) ((walk_rolls bodies_walk).simple y);
    block = λ y h outermost. alike (ap (λ (f : BlockFacts). f outermost) ((rolls facts_pass).block y)) ((rolls (judged_pass named sites)).block y) ((walk_rolls bodies_walk).block y) (h outermost);
    proc = λ y. alike ((rolls facts_pass).proc y) ((rolls (judged_pass named sites)).proc y) ((walk_rolls bodies_walk).proc y);
    stmt = λ y. alike ((rolls facts_pass).stmt y) ((rolls (judged_pass named sites)).stmt y) ((walk_rolls bodies_walk).stmt y);
  }

  all_right : {X : Type 0} (f : X → List Fact) (j : X → Judgement) (b : X → Bodies) → ((x : X) → Keeps (j x)) → (who : Option ℕ) (ts : List ((x : X) × Inner (f x) (j x) (b x))) → let zs : List X = map (λ y. y.0) ts in
      standing.There who (joined (map f zs)) → NoFault (all_judged (map j zs)) → AllRight (bodies.joined (map (λ z. (z, b z)) zs))
  all_right f j b keeps who [] s free = none_right
  all_right {X = X} f j b keeps who (t ∷ ts) s free =
      let zs : List X = map (λ y. y.0) ts in
      let p = next_parts named numbers standing who f j keeps t.0 zs s free in
      two_right (b t.0) (bodies.joined (map (λ z. (z, b z)) zs)) (t.1 who p.0 p.1) (all_right f j b keeps who ts p.2 p.3)

  first_right : (c : Body) (bs : Bodies) → BodyRight c → AllRight bs → AllRight (c ∷ bs)
  first_right c bs h k b (inl e) = subst BodyRight e h
  first_right c bs h k b (inr i) = k b i

  declaration_rule : (y : DeclParts known) → layers.Decl (decl_layer known y)
  declaration_rule (layer.Proc p) who s free = p.1 who s free
  declaration_rule _ who s free = none_right

  form_rule : (y : FormParts known) → layers.Form (form_layer known y)
  form_rule (layer.Simple x) who s free = x.1 who s free
  form_rule (layer.If at test labels first None) who s free =
      let p = if_parts named numbers standing who test labels (facts.simple_facts first.0) (facts_if None) (judged.simple_judged named sites first.0) (judged_if None) (simple_keeps named sites first.0) keeps_fine s free in
      two_right (bodies.simple_bodies first.0) [] (first.1 who p.2 p.3) none_right
  form_rule (layer.If at test labels first (Some second)) who s free =
      let p = if_parts named numbers standing who test labels (facts.simple_facts first.0) (facts_if (Some (facts.statement_facts second.0))) (judged.simple_judged named sites first.0) (judged_if (Some (judged.statement_judged named sites second.0))) (simple_keeps named sites first.0) (statement_keeps named sites second.0) s free in
      two_right (bodies.simple_bodies first.0) (bodies.statement_bodies second.0) (first.1 who p.2 p.3) (second.1 who p.4 p.5)
  form_rule (layer.For at variable elems body) who s free =
      let p = loop_parts named numbers standing who at variable elems (facts.statement_facts body.0) (judged.statement_judged named sites body.0) (statement_keeps named sites body.0) s free in
      body.1 who p.5 p.6

  simple_rule : (y : SimpleParts known) → layers.Simple (simple_layer known y)
  simple_rule (layer.Block b) who s free = b.1 false who s free
  simple_rule _ who s free = none_right

  block_rule : (y : BlockParts known) → layers.Block (block_layer known y)
  block_rule y outermost who s free =
      let ds : List RawDecl = map (λ z. z.0) y.decls in
      let zs : List RawStmt = map (λ z. z.0) y.stmts in
      let p = block_parts named numbers standing who sites outermost ds zs s free in
      two_right (bodies.joined (map (λ z. (z, bodies.declaration_bodies z)) ds)) (bodies.joined (map (λ z. (z, bodies.statement_bodies z)) zs))
      (all_right facts.declaration_facts (judged.declaration_judged named sites) bodies.declaration_bodies (declaration_keeps named sites) who y.decls p.0 p.1)
      (all_right facts.statement_facts (judged.statement_judged named sites) bodies.statement_bodies (statement_keeps named sites) who y.stmts p.2 p.3)

  procedure_rule : (y : ProcParts known) → layers.Proc (proc_layer known y)
  procedure_rule y who s free =
      let token : ℕ = y.name.at.token in
      let body : RawStmt = y.body.0 in
      let within : List Fact = answer_facts y.answer ++ (parameters_facts y.params ++ facts.statement_facts body) in
      let own = (standing.halves who (declares y.name (kind.Proc y.answer) ∷ specifies token y.answer (flattened y.params) ∷ []) (fact.Block (Some token) within ∷ []) s).1 in
      let there : Option ℕ = proc_within numbers (Some token) None in
      let inside : standing.There there within = standing.owned who (Some token) within own in
      let behind = (standing.halves there (answer_facts y.answer) (parameters_facts y.params ++ facts.statement_facts body) inside).1 in
      let stood = (standing.halves there (parameters_facts y.params) (facts.statement_facts body) behind).1 in
      let calm = (both_free (heading_judged named y.answer y.name y.params) (judged.statement_judged named sites body) (statement_keeps named sites body) free).1 in
      first_right (record { token = token; statement = body }) (bodies.statement_bodies body) (stood, calm) (y.body.1 there stood calm)

  statement_rule : (y : StmtParts known) → layers.Stmt (stmt_layer known y)
  statement_rule y who s free = y.form.1 who (standing.halves who (each_declares kind.Label y.labels) (facts.form_facts y.form.0) s).1 free

  rules : Rules known
  rules = rules_of rolled (record { decl = declaration_rule; form = form_rule; simple = simple_rule; block = block_rule; proc = procedure_rule; stmt = statement_rule })

  pub bodies_are_right : (x : RawBlock) → known.Block x
  bodies_are_right = each_block known rules
