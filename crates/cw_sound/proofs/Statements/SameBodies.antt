-- The unit's procedures have the bodies that are declared, in order.
use Rattle.std.proofs.Common.{◌≡◌, List, [], ◌∷◌, ◌++◌, map, Some, None, refl, sym, ap, ap₂, ◌∙◌}
use Rattle.cw_tree.specs.declared.statement.RawDecl.{RawDecl}
use Rattle.cw_tree.specs.declared.statement.RawDecl.TheOpen as layer
use Rattle.cw_tree.specs.declared.statement.RawDecl.TheViews.{out-roll-RawProc}
use Rattle.cw_tree.specs.declared.statement.RawBlock.{RawBlock}
use Rattle.cw_tree.specs.declared.statement.RawProc.{out-RawProc}
use Rattle.cw_tree.specs.declared.statement.RawStmt.{RawStmt}
use Rattle.cw_scope.specs.declared.resolve.Named.{Named}
use Rattle.cw_make_expr.specs.Parts.{Numbers}
use Rattle.cw_make_stmt.specs.Made.{statement_of}
use Rattle.cw_make.specs.Procedures.{Procs}
use Rattle.cw_make.specs.Procedures as procs
use Rattle.cw_unit.specs.declared.unit.Proc.{Proc}
use Rattle.cw_unit.specs.declared.unit.Stmt.{Stmt}
use Rattle.cw_sound.specs.Statements.Bodies.{Body, Bodies}
use Rattle.cw_sound.specs.Statements.Bodies as bodies
use Rattle.cw_sound.proofs.Statements.Layers.{Known, WithDecl, WithStmt, DeclParts, FormParts, SimpleParts, BlockParts, ProcParts, StmtParts, decl_layer, form_layer, simple_layer, block_layer, proc_layer, stmt_layer, Rules, each_block, ProcLayer}
use Rattle.cw_sound.proofs.Statements.Passes.{walked_layer, walk_rolls, bodies_walk, LayersKnown, Rolled, rules_of}
use Rattle.cw_sound.proofs.Statements.Procedures.{layer_procedures, procedures_roll}

map_append : {X Y : Type 0} (f : X → Y) (xs ys : List X) → map f (xs ++ ys) ≡ map f xs ++ map f ys
map_append f [] ys = refl
map_append f (x ∷ xs) ys = ap (λ zs. f x ∷ zs) (map_append f xs ys)

module _ (named : Named) (numbers : Numbers) where
  abbrev made_bodies : Bodies → List Stmt
  made_bodies bs = map (λ (b : Body). statement_of named numbers b.statement) bs

  abbrev own_bodies : Procs → List Stmt
  own_bodies qs = map (λ (q : Proc). q.body) qs

  abbrev Same : Procs → Bodies → Type 0
  Same qs bs = own_bodies qs ≡ made_bodies bs

  both_same : (qs rs : Procs) (bs cs : Bodies) → Same qs bs → Same rs cs → Same (qs ++ rs) (bs ++ cs)
  both_same qs rs bs cs e d =
      map_append (λ (q : Proc). q.body) qs rs ∙ ap₂ (λ x y. x ++ y) e d ∙ sym (map_append (λ (b : Body). statement_of named numbers b.statement) bs cs)

  -- the procedures that are made of a tree have the bodies in it
  abbrev pub known : Known
  known = record {
    Decl = λ x. Same (procs.declaration_procs named numbers x) (bodies.declaration_bodies x);
    Form = λ x. Same (procs.form_procs named numbers x) (bodies.form_bodies x);
    Simple = λ x. Same (procs.simple_procs named numbers x) (bodies.simple_bodies x);
    Block = λ x. Same (procs.block_procs named numbers x) (bodies.block_bodies x);
    Proc = λ x. (statement_of named numbers (out-RawProc x).body ∷ own_bodies (procs.procedure_procs named numbers x)) ≡ made_bodies (bodies.procedure_bodies x);
    Stmt = λ x. Same (procs.statement_procs named numbers x) (bodies.statement_bodies x);
  }

  abbrev layers : LayersKnown
  layers = record {
    Decl = λ y. Same ((layer_procedures named numbers).decl y) ((walked_layer bodies_walk).decl y);
    Form = λ y. Same ((layer_procedures named numbers).form y) ((walked_layer bodies_walk).form y);
    Simple = λ y. Same ((layer_procedures named numbers).simple y) ((walked_layer bodies_walk).simple y);
    Block = λ y. Same ((layer_procedures named numbers).block y) ((walked_layer bodies_walk).block y);
    Proc = λ y. (statement_of named numbers y.body ∷ own_bodies ((layer_procedures named numbers).proc y)) ≡ made_bodies ((walked_layer bodies_walk).proc y);
    Stmt = λ y. Same ((layer_procedures named numbers).stmt y) ((walked_layer bodies_walk).stmt y);
  }

  rolled : Rolled known layers
  rolled = record {
    decl = λ y h. ap own_bodies ((procedures_roll named numbers).decl y) ∙ h ∙ sym (ap made_bodies ((walk_rolls bodies_walk).decl y));
    form = λ y h. ap own_bodies ((procedures_roll named numbers).form y) ∙ h ∙ sym (ap made_bodies ((walk_rolls bodies_walk).form y));
    simple = λ y h. ap own_bodies ((procedures_roll named numbers).simple y) ∙ h ∙ sym (ap made_bodies ((walk_rolls bodies_walk).simple y));
    block = λ y h. ap own_bodies ((procedures_roll named numbers).block y) ∙ h ∙ sym (ap made_bodies ((walk_rolls bodies_walk).block y));
    proc = λ y h. ap₂ (λ s qs. s ∷ own_bodies qs) (ap (λ (z : ProcLayer). statement_of named numbers z.body) (out-roll-RawProc y)) ((procedures_roll named numbers).proc y) ∙ h ∙ sym (ap made_bodies ((walk_rolls bodies_walk).proc y));
    stmt = λ y h. ap own_bodies ((procedures_roll named numbers).stmt y) ∙ h ∙ sym (ap made_bodies ((walk_rolls bodies_walk).stmt y));
  }

  all_declarations : (ts : List (WithDecl known)) → let zs : List RawDecl = map (λ y. y.0) ts in Same (procs.joined (map (λ z. (z, procs.declaration_procs named numbers z)) zs)) (bodies.joined (map (λ z. (z, bodies.declaration_bodies z)) zs))
  all_declarations [] = refl
  all_declarations (t ∷ ts) =
      let zs : List RawDecl = map (λ y. y.0) ts in
      both_same (procs.declaration_procs named numbers t.0) (procs.joined (map (λ z. (z, procs.declaration_procs named numbers z)) zs)) (bodies.declaration_bodies t.0) (bodies.joined (map (λ z. (z, bodies.declaration_bodies z)) zs)) t.1 (all_declarations ts)

  all_statements : (ts : List (WithStmt known)) → let zs : List RawStmt = map (λ y. y.0) ts in Same (procs.joined (map (λ z. (z, procs.statement_procs named numbers z)) zs)) (bodies.joined (map (λ z. (z, bodies.statement_bodies z)) zs))
  all_statements [] = refl
  all_statements (t ∷ ts) =
      let zs : List RawStmt = map (λ y. y.0) ts in
      both_same (procs.statement_procs named numbers t.0) (procs.joined (map (λ z. (z, procs.statement_procs named numbers z)) zs)) (bodies.statement_bodies t.0) (bodies.joined (map (λ z. (z, bodies.statement_bodies z)) zs)) t.1 (all_statements ts)

  declaration_rule : (y : DeclParts known) → layers.Decl (decl_layer known y)
  declaration_rule (layer.Proc p) = p.1
  declaration_rule _ = refl

  form_rule : (y : FormParts known) → layers.Form (form_layer known y)
  form_rule (layer.Simple s) = s.1
  form_rule (layer.If at test labels first None) = both_same (procs.simple_procs named numbers first.0) [] (bodies.simple_bodies first.0) [] first.1 refl
  form_rule (layer.If at test labels first (Some second)) = both_same (procs.simple_procs named numbers first.0) (procs.statement_procs named numbers second.0) (bodies.simple_bodies first.0) (bodies.statement_bodies second.0) first.1 second.1
  form_rule (layer.For at variable elems body) = body.1

  simple_rule : (y : SimpleParts known) → layers.Simple (simple_layer known y)
  simple_rule (layer.Block b) = b.1
  simple_rule _ = refl

  block_rule : (y : BlockParts known) → layers.Block (block_layer known y)
  block_rule y =
      let ds : List RawDecl = map (λ z. z.0) y.decls in
      let zs : List RawStmt = map (λ z. z.0) y.stmts in
      both_same (procs.joined (map (λ z. (z, procs.declaration_procs named numbers z)) ds)) (procs.joined (map (λ z. (z, procs.statement_procs named numbers z)) zs)) (bodies.joined (map (λ z. (z, bodies.declaration_bodies z)) ds)) (bodies.joined (map (λ z. (z, bodies.statement_bodies z)) zs))
      (all_declarations y.decls) (all_statements y.stmts)

  procedure_rule : (y : ProcParts known) → layers.Proc (proc_layer known y)
  procedure_rule y = ap (λ ss. statement_of named numbers y.body.0 ∷ ss) y.body.1

  statement_rule : (y : StmtParts known) → layers.Stmt (stmt_layer known y)
  statement_rule y = y.form.1

  rules : Rules known
  rules = rules_of rolled (record { decl = declaration_rule; form = form_rule; simple = simple_rule; block = block_rule; proc = procedure_rule; stmt = statement_rule })

  pub bodies_are_same : (x : RawBlock) → known.Block x
  bodies_are_same = each_block known rules
