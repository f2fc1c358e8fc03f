-- The procedures that a text declares are those whose bodies it has, in order.
use Rattle.std.proofs.Common.{◌≡◌, ℕ, arith, List, [], ◌∷◌, ◌++◌, map, length, Bool, true, false, not, ◌||◌, ◌==◌, Option, Some, None, sym, ap, subst, ◌∙◌}
use Rattle.cw_tree.specs.declared.leaf.RawName.{RawName}
use Rattle.cw_tree.specs.declared.statement.RawDecl.{RawDecl, roll-RawDecl}
use Rattle.cw_tree.specs.declared.statement.RawForm.{RawForm, roll-RawForm}
use Rattle.cw_tree.specs.declared.statement.RawSimple.{RawSimple, roll-RawSimple}
use Rattle.cw_tree.specs.declared.statement.RawBlock.{RawBlock, roll-RawBlock}
use Rattle.cw_tree.specs.declared.statement.RawProc.{RawProc, roll-RawProc, out-RawProc, map-RawProc}
use Rattle.cw_tree.specs.declared.statement.RawStmt.{RawStmt, roll-RawStmt}
use Rattle.cw_tree.specs.declared.statement.RawDecl.TheOpen as layer
use Rattle.cw_tree.specs.declared.statement.RawDecl.TheViews.{out-roll-RawProc}
use Rattle.cw_facts.specs.declared.fact.Fact.{Fact}
use Rattle.cw_facts.specs.declared.fact.Fact.TheVariants as fact
use Rattle.cw_facts.specs.declared.fact.Form.TheVariants as use_form
use Rattle.cw_facts.specs.declared.fact.Kind.TheVariants as kind
use Rattle.cw_facts.specs.declared.fact.Reading.TheVariants as reading
use Rattle.cw_facts.specs.Uses.{expression_uses, reference_uses, argument_uses}
use Rattle.cw_facts.specs.Facts as facts
use Rattle.cw_facts.specs.Facts.{BlockFacts, each_declares, base_name, enclosed, answer_name}
use Rattle.cw_scope.specs.declared.resolve.Named.{Named}
use Rattle.cw_make_items.specs.Lookup.{Numbers}
use Rattle.cw_unit.specs.declared.unit.Switch.{Switch}
use Rattle.cw_sound.specs.Uses.Mentions.{Mention, Here, declares, uses, stores, facts_mentions}
use Rattle.cw_sound.specs.Names.Standing.{is_own_procedure}
use Rattle.cw_sound.proofs.Names.Parts.{Part, plain, items, label, switch, procedure_with}
use Rattle.cw_sound.proofs.Names.PartKinds.{procs_in, part_procs, shape, inner_procs, body, within_it}
use Rattle.cw_sound.proofs.Names.Rows.{mentions_append}
use Rattle.cw_sound.proofs.Names.Picking.{pick_append, Zip, zip_both}
use Rattle.cw_sound.proofs.Names.Sorts.{of_kind}
use Rattle.cw_sound.proofs.Names.MentionsOf.{block_alone}
use Rattle.cw_sound.proofs.Names.TreeParts.{felems_plain}
use Rattle.cw_sound.proofs.Names.PlainFacts.{plain_nothing, plain_both, plain_use, plain_loop}
use Rattle.cw_sound.proofs.Names.ExpressionUses.{expression_plain, condition_plain, reference_plain, arguments_plain}
use Rattle.cw_sound.specs.Statements.Bodies.{Body, Bodies}
use Rattle.cw_sound.specs.Statements.Bodies as bodies
use Rattle.cw_sound.proofs.Statements.Layers.{Known, WithDecl, WithStmt, DeclParts, FormParts, SimpleParts, BlockParts, ProcParts, StmtParts, decl_layer, form_layer, simple_layer, block_layer, proc_layer, stmt_layer, each_block}
use Rattle.cw_sound.proofs.Statements.Passes.{rolls, walk_rolls, bodies_walk}
use Rattle.cw_sound.proofs.Statements.Folds.{facts_pass}

-- a mention declares the procedure of a body
abbrev pub Declares : Mention → (token : ℕ) → Type 0
Declares (declares d) t = d.name.at.token ≡ t
Declares (uses x) t = ⊥
Declares (stores token n) t = ⊥

abbrev pub BodyOf : Here → Body → Type 0
BodyOf m b = Declares m.mention b.token

no_bodies : (ms : List Here) → length ms ≡ 0 → Zip BodyOf ms []
no_bodies [] e = tt
no_bodies (m ∷ ms) e = absurd (omega (arith, e))

module _ (named : Named) (numbers : Numbers) where
  pub record Has (fs : List Fact) (bs : Bodies) : Type 0 where
    pub zips : (q : Option ℕ) → Zip BodyOf (procs_in (facts_mentions numbers fs q)) bs

  nothing : Has [] []
  nothing = record { zips = λ q. tt }

  two : {fs gs : List Fact} {bs cs : Bodies} → Has fs bs → Has gs cs → Has (fs ++ gs) (bs ++ cs)
  two {fs} {gs} {bs} {cs} h k = record {
    zips = λ q.
        let xs : List Here = facts_mentions numbers fs q in
        let ys : List Here = facts_mentions numbers gs q in
        subst (λ ms. Zip BodyOf ms (bs ++ cs)) (sym (ap procs_in (mentions_append numbers fs gs q) ∙ pick_append (of_kind is_own_procedure) xs ys)) (zip_both BodyOf (procs_in xs) (procs_in ys) bs cs (h.zips q) (k.zips q));
  }

  -- what declares no procedure
  none : {fs : List Fact} {ws : Option ℕ → List Switch} {s : ℕ → Bool} → Part named numbers fs ws [] s → Has fs []
  none {fs} a = record { zips = λ q. no_bodies (procs_in (facts_mentions numbers fs q)) (part_procs named numbers a q) }

  before : {fs gs : List Fact} {bs : Bodies} → Has fs [] → Has gs bs → Has (fs ++ gs) bs
  before h k = two h k

  within : {fs : List Fact} {bs : Bodies} → Has fs bs → Has (fact.Block None fs ∷ []) bs
  within {fs} {bs} h = record { zips = λ q. subst (λ ms. Zip BodyOf (procs_in ms) bs) (sym (block_alone numbers None fs q)) (h.zips q) }

  either : (b : Bool) {fs : List Fact} {bs : Bodies} → Has fs bs → Has (enclosed b fs) bs
  either true h = within h
  either false h = h

  procedure : (p : RawProc) {fs : List Fact} {bs : Bodies} (b : Body) → (out-RawProc p).name.at.token ≡ b.token → Has fs bs → Has (procedure_with named numbers p fs) (b ∷ bs)
  procedure p {fs} {bs} b e h = record {
    zips = λ q.
        subst (λ ms. Zip BodyOf (procs_in ms) (b ∷ bs)) (sym (shape named numbers p fs q))
        (e, subst (λ ms. Zip BodyOf ms bs) (sym (inner_procs named numbers p fs q)) (h.zips (within_it named numbers p fs q)));
  }

  labels : (ns : List RawName) → Has (each_declares kind.Label ns) []
  labels [] = nothing
  labels (n ∷ ns) = two (none (label n)) (labels ns)

  -- ---- what each tree has

  abbrev pub DeclHas : RawDecl → Type 0
  DeclHas x = Has (facts.declaration_facts x) (bodies.declaration_bodies x)

  abbrev pub FormHas : RawForm → Type 0
  FormHas x = Has (facts.form_facts x) (bodies.form_bodies x)

  abbrev pub SimpleHas : RawSimple → Type 0
  SimpleHas x = Has (facts.simple_facts x) (bodies.simple_bodies x)

  abbrev pub BlockHas : RawBlock → Type 0
  BlockHas x = (outermost : Bool) → Has (facts.block_facts x outermost) (bodies.block_bodies x)

  abbrev pub ProcHas : RawProc → Type 0
  ProcHas x = Has (facts.procedure_facts x) (bodies.procedure_bodies x)

  abbrev pub StmtHas : RawStmt → Type 0
  StmtHas x = Has (facts.statement_facts x) (bodies.statement_bodies x)

  -- ---- what each tree comes to, by its layer

  like : {fs gs : List Fact} {bs cs : Bodies} → gs ≡ fs → cs ≡ bs → Has fs bs → Has gs cs
  like {fs} {gs} {bs} {cs} e d h = subst (λ f. Has f cs) (sym e) (subst (Has fs) (sym d) h)

  -- ---- trees with what is said of them

  abbrev known : Known
  known = record { Decl = DeclHas; Form = FormHas; Simple = SimpleHas; Block = BlockHas; Proc = ProcHas; Stmt = StmtHas }

  -- ---- rules of the grammar

  declaration_rule : (y : DeclParts known) → DeclHas (roll-RawDecl (decl_layer known y))
  declaration_rule (layer.Data d) = like ((rolls facts_pass).decl (layer.Data d)) ((walk_rolls bodies_walk).decl (layer.Data d)) (none (items d))
  declaration_rule (layer.Overlay at b d) =
      like ((rolls facts_pass).decl (layer.Overlay at b d)) ((walk_rolls bodies_walk).decl (layer.Overlay at b d))
      (before (none (plain (plain_use numbers (record { name = base_name b; form = use_form.Base }) [] (plain_nothing numbers)))) (none (items d)))
  declaration_rule (layer.Switch at n ns) = like ((rolls facts_pass).decl (layer.Switch at n ns)) ((walk_rolls bodies_walk).decl (layer.Switch at n ns)) (none (switch n ns))
  declaration_rule (layer.Proc p) = like ((rolls facts_pass).decl (layer.Proc p.0)) ((walk_rolls bodies_walk).decl (layer.Proc p.0)) p.1

  form_rule : (y : FormParts known) → FormHas (roll-RawForm (form_layer known y))
  form_rule (layer.Simple s) = like ((rolls facts_pass).form (layer.Simple s.0)) ((walk_rolls bodies_walk).form (layer.Simple s.0)) s.1
  form_rule (layer.If at test ns first None) =
      like ((rolls facts_pass).form (layer.If at test ns first.0 None)) ((walk_rolls bodies_walk).form (layer.If at test ns first.0 None))
      (before (none (plain (condition_plain numbers test reading.Value))) (before (labels ns) (two first.1 nothing)))
  form_rule (layer.If at test ns first (Some second)) =
      like ((rolls facts_pass).form (layer.If at test ns first.0 (Some second.0))) ((walk_rolls bodies_walk).form (layer.If at test ns first.0 (Some second.0)))
      (before (none (plain (condition_plain numbers test reading.Value))) (before (labels ns) (two first.1 second.1)))
  form_rule (layer.For at variable elems body) =
      like ((rolls facts_pass).form (layer.For at variable elems body.0)) ((walk_rolls bodies_walk).form (layer.For at variable elems body.0))
      (before (none (plain (plain_loop numbers at (reference_uses variable reading.Whole) (reference_plain numbers variable reading.Whole)))) (before (none (plain (felems_plain named numbers elems))) body.1))

  simple_rule : (y : SimpleParts known) → SimpleHas (roll-RawSimple (simple_layer known y))
  simple_rule layer.Empty = like ((rolls facts_pass).simple (layer.Empty)) ((walk_rolls bodies_walk).simple (layer.Empty)) nothing
  simple_rule (layer.Assign r e) =
      like ((rolls facts_pass).simple (layer.Assign r e)) ((walk_rolls bodies_walk).simple (layer.Assign r e))
      (none (plain (plain_both numbers (reference_uses r reading.Target) (expression_uses e reading.Value) (reference_plain numbers r reading.Target) (expression_plain numbers e reading.Value))))
  simple_rule (layer.AssignBits bits r e) =
      like ((rolls facts_pass).simple (layer.AssignBits bits r e)) ((walk_rolls bodies_walk).simple (layer.AssignBits bits r e))
      (none (plain (plain_both numbers (reference_uses r reading.Whole) (expression_uses e reading.Value) (reference_plain numbers r reading.Whole) (expression_plain numbers e reading.Value))))
  simple_rule (layer.Goto at n) =
      like ((rolls facts_pass).simple (layer.Goto at n)) ((walk_rolls bodies_walk).simple (layer.Goto at n)) (none (plain (plain_use numbers (record { name = n; form = use_form.Goto }) [] (plain_nothing numbers))))
  simple_rule (layer.GotoSwitch at n e) =
      like ((rolls facts_pass).simple (layer.GotoSwitch at n e)) ((walk_rolls bodies_walk).simple (layer.GotoSwitch at n e))
      (none (plain (plain_use numbers (record { name = n; form = use_form.GotoSwitch }) (expression_uses e reading.Value) (expression_plain numbers e reading.Value))))
  simple_rule (layer.Call n es) =
      like ((rolls facts_pass).simple (layer.Call n es)) ((walk_rolls bodies_walk).simple (layer.Call n es))
      (none (plain (plain_use numbers (record { name = n; form = use_form.Call }) (argument_uses es) (arguments_plain numbers es))))
  simple_rule (layer.Answer at e) =
      like ((rolls facts_pass).simple (layer.Answer at e)) ((walk_rolls bodies_walk).simple (layer.Answer at e))
      (none (plain (plain_use numbers (record { name = answer_name at; form = use_form.Answer }) (expression_uses e reading.Value) (expression_plain numbers e reading.Value))))
  simple_rule (layer.Block b) = like ((rolls facts_pass).simple (layer.Block b.0)) ((walk_rolls bodies_walk).simple (layer.Block b.0)) (b.1 false)

  all_declarations : (ts : List (WithDecl known)) → let zs : List RawDecl = map (λ e. e.0) ts in Has (facts.joined (map facts.declaration_facts zs)) (bodies.joined (map (λ z. (z, bodies.declaration_bodies z)) zs))
  all_declarations [] = nothing
  all_declarations (t ∷ ts) = two t.1 (all_declarations ts)

  all_statements : (ts : List (WithStmt known)) → let zs : List RawStmt = map (λ e. e.0) ts in Has (facts.joined (map facts.statement_facts zs)) (bodies.joined (map (λ z. (z, bodies.statement_bodies z)) zs))
  all_statements [] = nothing
  all_statements (t ∷ ts) = two t.1 (all_statements ts)

  block_rule : (y : BlockParts known) → BlockHas (roll-RawBlock (block_layer known y))
  block_rule y outermost =
      like (ap (λ f. f outermost) ((rolls facts_pass).block (block_layer known y))) ((walk_rolls bodies_walk).block (block_layer known y))
      (either (outermost || not (length (map facts.declaration_facts (map (λ e. e.0) y.decls)) == 0)) (two (all_declarations y.decls) (all_statements y.stmts)))

  procedure_rule : (y : ProcParts known) → ProcHas (roll-RawProc (proc_layer known y))
  procedure_rule y =
      let p : RawProc = roll-RawProc (proc_layer known y) in
      let b : Body = record { token = y.name.at.token; statement = y.body.0 } in
      like ((rolls facts_pass).proc (proc_layer known y)) ((walk_rolls bodies_walk).proc (proc_layer known y))
      (subst (λ z. Has (facts.procedure_step (map-RawProc RawDecl RawForm RawSimple RawBlock RawProc RawStmt (List Fact) (List Fact) (List Fact) BlockFacts (List Fact) (List Fact) facts.declaration_facts facts.form_facts facts.simple_facts facts.block_facts facts.procedure_facts facts.statement_facts z)) (b ∷ bodies.statement_bodies y.body.0)) (out-roll-RawProc (proc_layer known y))
      (procedure p b (ap (λ z. z.name.at.token) (out-roll-RawProc (proc_layer known y))) (subst (λ z. Has (facts.statement_facts z.body) (bodies.statement_bodies y.body.0)) (sym (out-roll-RawProc (proc_layer known y))) y.body.1)))

  statement_rule : (y : StmtParts known) → StmtHas (roll-RawStmt (stmt_layer known y))
  statement_rule y = like ((rolls facts_pass).stmt (stmt_layer known y)) ((walk_rolls bodies_walk).stmt (stmt_layer known y)) (before (labels y.labels) y.form.1)

  pub block_has : (b : RawBlock) → BlockHas b
  block_has = each_block known (record { decl = declaration_rule; form = form_rule; simple = simple_rule; block = block_rule; proc = procedure_rule; stmt = statement_rule })
