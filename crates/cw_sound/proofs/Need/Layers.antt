-- What is made of a tree, and the bodies in it, by its first layer.
use Rattle.std.proofs.Common.{◌≡◌, ℕ, ◌≤◌, sym, ap, subst, subst₂, ◌∙◌}
use Rattle.cw_tree.specs.declared.expression.RawExpr.{RawExpr, RawExpr-F, roll-RawExpr, map-RawExpr}
use Rattle.cw_tree.specs.declared.expression.RawPrimary.{RawPrimary, roll-RawPrimary, map-RawPrimary}
use Rattle.cw_tree.specs.declared.expression.RawRef.{RawRef, roll-RawRef, map-RawRef}
use Rattle.cw_tree.specs.declared.expression.RawCand.{RawCand}
use Rattle.cw_tree.specs.declared.expression.RawCmp.{RawCmp}
use Rattle.cw_tree.specs.declared.expression.RawCond.{RawCond}
use Rattle.cw_tree.specs.declared.expression.RawDiffer.{RawDiffer}
use Rattle.cw_tree.specs.declared.expression.RawMask.{RawMask}
use Rattle.cw_tree.specs.declared.expression.RawPrim.{RawPrim}
use Rattle.cw_tree.specs.declared.expression.RawSum.{RawSum}
use Rattle.cw_tree.specs.declared.expression.RawTerm.{RawTerm}
use Rattle.cw_tree.specs.declared.expression.RawUnion.{RawUnion}
use Rattle.cw_tree.specs.declared.expression.RawExpr.TheOpen.{RawPrimary-F, RawRef-F}
use Rattle.cw_tree.specs.declared.expression.RawExpr.TheFolds.{fold-roll-RawExpr, fold-roll-RawPrimary, fold-roll-RawRef}
use Rattle.cw_tree.specs.declared.statement.RawDecl.{RawDecl, roll-RawDecl}
use Rattle.cw_tree.specs.declared.statement.RawForm.{RawForm, roll-RawForm}
use Rattle.cw_tree.specs.declared.statement.RawSimple.{RawSimple, roll-RawSimple}
use Rattle.cw_tree.specs.declared.statement.RawBlock.{roll-RawBlock}
use Rattle.cw_tree.specs.declared.statement.RawProc.{roll-RawProc}
use Rattle.cw_tree.specs.declared.statement.RawStmt.{roll-RawStmt}
use Rattle.cw_scope.specs.declared.resolve.Named.{Named}
use Rattle.cw_make_expr.specs.Parts.{Numbers}
use Rattle.cw_make_expr.specs.Made as made
use Rattle.cw_make_expr.specs.Made.{Made, Placed}
use Rattle.cw_make_stmt.specs.Made as statements
use Rattle.cw_unit.specs.declared.unit.Cond.{Cond}
use Rattle.cw_unit.specs.declared.unit.Stmt.{Stmt}
use Rattle.cw_unit.specs.StackBound.{body_depth}
use Rattle.cw_sound.specs.Statements.Bodies.{Body, Bodies}
use Rattle.cw_sound.specs.Statements.Bodies as bodies
use Rattle.cw_sound.proofs.Statements.Layers.{DeclLayer, FormLayer, SimpleLayer, BlockLayer, ProcLayer, StmtLayer}
use Rattle.cw_sound.proofs.Statements.Folds.{made_pass}
use Rattle.cw_sound.proofs.Statements.Passes.{layered, rolls, bodies_walk, walked_layer, walk_rolls}
use Rattle.cw_sound.proofs.Need.Rules.{Shallow, ShallowPlace, Each}

module _ (named : Named) (numbers : Numbers) where
  -- ---- expressions

  pub expression_is : (k : ℕ) (y : RawExpr) (x : RawExpr-F RawExpr RawPrimary RawRef RawCand RawCmp RawCond RawDiffer RawMask RawPrim RawSum RawTerm RawUnion) → roll-RawExpr x ≡ y
      → Shallow k (made.expression_step named numbers (map-RawExpr RawExpr RawPrimary RawRef RawCand RawCmp RawCond RawDiffer RawMask RawPrim RawSum RawTerm RawUnion Made Made Placed Cond Cond Cond Made Made Made Made Made Made (made.expression_made named numbers) (made.primary_made named numbers) (made.reference_made named numbers) (made.conjunction_made named numbers) (made.comparison_made named numbers) (made.condition_made named numbers) (made.differ_made named numbers) (made.mask_made named numbers) (made.prim_made named numbers) (made.sum_made named numbers) (made.term_made named numbers) (made.union_made named numbers) x))
      → Shallow k (made.expression_made named numbers y)
  expression_is k y x e h =
      subst (Shallow k) (sym (ap (made.expression_made named numbers) (sym e) ∙ fold-roll-RawExpr Made Made Placed Cond Cond Cond Made Made Made Made Made Made (made.expression_step named numbers) (made.primary_step named numbers) (made.reference_step named numbers) (made.conjunction_step named numbers) (made.comparison_step named numbers) (made.condition_step named numbers) (made.differ_step named numbers) (made.mask_step named numbers) (made.prim_step named numbers) (made.sum_step named numbers) (made.term_step named numbers) (made.union_step named numbers) x)) h

  pub primary_is : (k : ℕ) (y : RawPrimary) (x : RawPrimary-F RawExpr RawPrimary RawRef RawCand RawCmp RawCond RawDiffer RawMask RawPrim RawSum RawTerm RawUnion) → roll-RawPrimary x ≡ y
      → Shallow k (made.primary_step named numbers (map-RawPrimary RawExpr RawPrimary RawRef RawCand RawCmp RawCond RawDiffer RawMask RawPrim RawSum RawTerm RawUnion Made Made Placed Cond Cond Cond Made Made Made Made Made Made (made.expression_made named numbers) (made.primary_made named numbers) (made.reference_made named numbers) (made.conjunction_made named numbers) (made.comparison_made named numbers) (made.condition_made named numbers) (made.differ_made named numbers) (made.mask_made named numbers) (made.prim_made named numbers) (made.sum_made named numbers) (made.term_made named numbers) (made.union_made named numbers) x))
      → Shallow k (made.primary_made named numbers y)
  primary_is k y x e h =
      subst (Shallow k) (sym (ap (made.primary_made named numbers) (sym e) ∙ fold-roll-RawPrimary Made Made Placed Cond Cond Cond Made Made Made Made Made Made (made.expression_step named numbers) (made.primary_step named numbers) (made.reference_step named numbers) (made.conjunction_step named numbers) (made.comparison_step named numbers) (made.condition_step named numbers) (made.differ_step named numbers) (made.mask_step named numbers) (made.prim_step named numbers) (made.sum_step named numbers) (made.term_step named numbers) (made.union_step named numbers) x)) h

  pub reference_is : (k : ℕ) (y : RawRef) (x : RawRef-F RawExpr RawPrimary RawRef RawCand RawCmp RawCond RawDiffer RawMask RawPrim RawSum RawTerm RawUnion) → roll-RawRef x ≡ y
      → ShallowPlace k (made.reference_step named numbers (map-RawRef RawExpr RawPrimary RawRef RawCand RawCmp RawCond RawDiffer RawMask RawPrim RawSum RawTerm RawUnion Made Made Placed Cond Cond Cond Made Made Made Made Made Made (made.expression_made named numbers) (made.primary_made named numbers) (made.reference_made named numbers) (made.conjunction_made named numbers) (made.comparison_made named numbers) (made.condition_made named numbers) (made.differ_made named numbers) (made.mask_made named numbers) (made.prim_made named numbers) (made.sum_made named numbers) (made.term_made named numbers) (made.union_made named numbers) x))
      → ShallowPlace k (made.reference_made named numbers y)
  reference_is k y x e h =
      subst (ShallowPlace k) (sym (ap (made.reference_made named numbers) (sym e) ∙ fold-roll-RawRef Made Made Placed Cond Cond Cond Made Made Made Made Made Made (made.expression_step named numbers) (made.primary_step named numbers) (made.reference_step named numbers) (made.conjunction_step named numbers) (made.comparison_step named numbers) (made.condition_step named numbers) (made.differ_step named numbers) (made.mask_step named numbers) (made.prim_step named numbers) (made.sum_step named numbers) (made.term_step named numbers) (made.union_step named numbers) x)) h

  -- ---- statements

  abbrev pub BodiesWithin : ℕ → Bodies → Type 0
  BodiesWithin k bs = Each (λ (b : Body). body_depth (statements.statement_of named numbers b.statement) ≤ k) bs

  -- a statement, and the bodies of procedures in it, with so many words in hand
  pub record Kept (k : ℕ) (s : Stmt) (bs : Bodies) : Type 0 where
    pub depth : body_depth s ≤ k
    pub bodies : BodiesWithin k bs

  pub form_is : (k : ℕ) (y : RawForm) (x : FormLayer) → roll-RawForm x ≡ y → Kept k ((layered (made_pass named numbers)).form x) ((walked_layer bodies_walk).form x) → Kept k (statements.form_of named numbers y) (bodies.form_bodies y)
  form_is k y x e h = subst (λ (z : RawForm). Kept k (statements.form_of named numbers z) (bodies.form_bodies z)) e (subst₂ (Kept k) (sym ((rolls (made_pass named numbers)).form x)) (sym ((walk_rolls bodies_walk).form x)) h)

  pub simple_is : (k : ℕ) (y : RawSimple) (x : SimpleLayer) → roll-RawSimple x ≡ y → Kept k ((layered (made_pass named numbers)).simple x) ((walked_layer bodies_walk).simple x) → Kept k (statements.simple_of named numbers y) (bodies.simple_bodies y)
  simple_is k y x e h = subst (λ (z : RawSimple). Kept k (statements.simple_of named numbers z) (bodies.simple_bodies z)) e (subst₂ (Kept k) (sym ((rolls (made_pass named numbers)).simple x)) (sym ((walk_rolls bodies_walk).simple x)) h)

  pub block_is : (k : ℕ) (x : BlockLayer) → Kept k ((layered (made_pass named numbers)).block x) ((walked_layer bodies_walk).block x) → Kept k (statements.block_of named numbers (roll-RawBlock x)) (bodies.block_bodies (roll-RawBlock x))
  block_is k x h = subst₂ (Kept k) (sym ((rolls (made_pass named numbers)).block x)) (sym ((walk_rolls bodies_walk).block x)) h

  pub statement_is : (k : ℕ) (x : StmtLayer) → Kept k ((layered (made_pass named numbers)).stmt x) (bodies.form_bodies x.form) → Kept k (statements.statement_of named numbers (roll-RawStmt x)) (bodies.statement_bodies (roll-RawStmt x))
  statement_is k x h = subst₂ (Kept k) (sym ((rolls (made_pass named numbers)).stmt x)) (sym ((walk_rolls bodies_walk).stmt x)) h

  pub declaration_is : (k : ℕ) (y : RawDecl) (x : DeclLayer) → roll-RawDecl x ≡ y → BodiesWithin k ((walked_layer bodies_walk).decl x) → BodiesWithin k (bodies.declaration_bodies y)
  declaration_is k y x e h = subst (λ (z : RawDecl). BodiesWithin k (bodies.declaration_bodies z)) e (subst (BodiesWithin k) (sym ((walk_rolls bodies_walk).decl x)) h)

  pub procedure_is : (k : ℕ) (x : ProcLayer) → Kept k (statements.statement_of named numbers x.body) (bodies.statement_bodies x.body) → BodiesWithin k (bodies.procedure_bodies (roll-RawProc x))
  procedure_is k x h = subst (BodiesWithin k) (sym ((walk_rolls bodies_walk).proc x)) (h.depth, h.bodies)
