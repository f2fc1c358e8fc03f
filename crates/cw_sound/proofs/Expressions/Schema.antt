-- Induction over expressions, by their first layers.
use Rattle.std.proofs.Common.{◌≡◌, subst}
use Rattle.cw_tree.specs.declared.expression.RawExpr.{RawExpr, RawExpr-F, roll-RawExpr, map-RawExpr}
use Rattle.cw_tree.specs.declared.expression.RawPrimary.{RawPrimary, roll-RawPrimary, map-RawPrimary}
use Rattle.cw_tree.specs.declared.expression.RawRef.{RawRef, roll-RawRef, map-RawRef}
use Rattle.cw_tree.specs.declared.expression.RawCand.{RawCand, roll-RawCand, map-RawCand}
use Rattle.cw_tree.specs.declared.expression.RawCmp.{RawCmp, roll-RawCmp, map-RawCmp}
use Rattle.cw_tree.specs.declared.expression.RawCond.{RawCond, roll-RawCond, map-RawCond}
use Rattle.cw_tree.specs.declared.expression.RawDiffer.{RawDiffer, roll-RawDiffer, map-RawDiffer}
use Rattle.cw_tree.specs.declared.expression.RawMask.{RawMask, roll-RawMask, map-RawMask}
use Rattle.cw_tree.specs.declared.expression.RawPrim.{RawPrim, roll-RawPrim, map-RawPrim}
use Rattle.cw_tree.specs.declared.expression.RawSum.{RawSum, roll-RawSum, map-RawSum}
use Rattle.cw_tree.specs.declared.expression.RawTerm.{RawTerm, roll-RawTerm, map-RawTerm}
use Rattle.cw_tree.specs.declared.expression.RawUnion.{RawUnion, roll-RawUnion, map-RawUnion}
use Rattle.cw_tree.specs.declared.expression.RawExpr.TheOpen.{RawPrimary-F, RawRef-F, RawCand-F, RawCmp-F, RawCond-F, RawDiffer-F, RawMask-F, RawPrim-F, RawSum-F, RawTerm-F, RawUnion-F}
use Rattle.cw_tree.specs.declared.expression.RawExpr.TheFolds.{ind-RawExpr, ind-RawRef, ind-RawCond}
use Rattle.cw_derived.proofs.Layers.{ExprLayer, PrimaryLayer, RefLayer, CandLayer, CmpLayer, CondLayer, DifferLayer, MaskLayer, PrimLayer, SumLayer, TermLayer, UnionLayer}

-- what is known of each tree
pub record Known : Type 1 where
  pub Expr : RawExpr → Type 0
  pub Primary : RawPrimary → Type 0
  pub Ref : RawRef → Type 0
  pub Cand : RawCand → Type 0
  pub Cmp : RawCmp → Type 0
  pub Cond : RawCond → Type 0
  pub Differ : RawDiffer → Type 0
  pub Mask : RawMask → Type 0
  pub Prim : RawPrim → Type 0
  pub Sum : RawSum → Type 0
  pub Term : RawTerm → Type 0
  pub Union : RawUnion → Type 0

module _ (known : Known) where
  abbrev pub WithExpr : Type 0
  WithExpr = (x : RawExpr) × known.Expr x

  abbrev pub WithPrimary : Type 0
  WithPrimary = (x : RawPrimary) × known.Primary x

  abbrev pub WithRef : Type 0
  WithRef = (x : RawRef) × known.Ref x

  abbrev pub WithCand : Type 0
  WithCand = (x : RawCand) × known.Cand x

  abbrev pub WithCmp : Type 0
  WithCmp = (x : RawCmp) × known.Cmp x

  abbrev pub WithCond : Type 0
  WithCond = (x : RawCond) × known.Cond x

  abbrev pub WithDiffer : Type 0
  WithDiffer = (x : RawDiffer) × known.Differ x

  abbrev pub WithMask : Type 0
  WithMask = (x : RawMask) × known.Mask x

  abbrev pub WithPrim : Type 0
  WithPrim = (x : RawPrim) × known.Prim x

  abbrev pub WithSum : Type 0
  WithSum = (x : RawSum) × known.Sum x

  abbrev pub WithTerm : Type 0
  WithTerm = (x : RawTerm) × known.Term x

  abbrev pub WithUnion : Type 0
  WithUnion = (x : RawUnion) × known.Union x

  -- a layer of trees, with what is known of them

  abbrev pub ExprParts : Type 0
  ExprParts = RawExpr-F WithExpr WithPrimary WithRef WithCand WithCmp WithCond WithDiffer WithMask WithPrim WithSum WithTerm WithUnion

  abbrev pub PrimaryParts : Type 0
  PrimaryParts = RawPrimary-F WithExpr WithPrimary WithRef WithCand WithCmp WithCond WithDiffer WithMask WithPrim WithSum WithTerm WithUnion

  abbrev pub RefParts : Type 0
  RefParts = RawRef-F WithExpr WithPrimary WithRef WithCand WithCmp WithCond WithDiffer WithMask WithPrim WithSum WithTerm WithUnion

  abbrev pub CandParts : Type 0
  CandParts = RawCand-F WithExpr WithPrimary WithRef WithCand WithCmp WithCond WithDiffer WithMask WithPrim WithSum WithTerm WithUnion

  abbrev pub CmpParts : Type 0
  CmpParts = RawCmp-F WithExpr WithPrimary WithRef WithCand WithCmp WithCond WithDiffer WithMask WithPrim WithSum WithTerm WithUnion

  abbrev pub CondParts : Type 0
  CondParts = RawCond-F WithExpr WithPrimary WithRef WithCand WithCmp WithCond WithDiffer WithMask WithPrim WithSum WithTerm WithUnion

  abbrev pub DifferParts : Type 0
  DifferParts = RawDiffer-F WithExpr WithPrimary WithRef WithCand WithCmp WithCond WithDiffer WithMask WithPrim WithSum WithTerm WithUnion

  abbrev pub MaskParts : Type 0
  MaskParts = RawMask-F WithExpr WithPrimary WithRef WithCand WithCmp WithCond WithDiffer WithMask WithPrim WithSum WithTerm WithUnion

  abbrev pub PrimParts : Type 0
  PrimParts = RawPrim-F WithExpr WithPrimary WithRef WithCand WithCmp WithCond WithDiffer WithMask WithPrim WithSum WithTerm WithUnion

  abbrev pub SumParts : Type 0
  SumParts = RawSum-F WithExpr WithPrimary WithRef WithCand WithCmp WithCond WithDiffer WithMask WithPrim WithSum WithTerm WithUnion

  abbrev pub TermParts : Type 0
  TermParts = RawTerm-F WithExpr WithPrimary WithRef WithCand WithCmp WithCond WithDiffer WithMask WithPrim WithSum WithTerm WithUnion

  abbrev pub UnionParts : Type 0
  UnionParts = RawUnion-F WithExpr WithPrimary WithRef WithCand WithCmp WithCond WithDiffer WithMask WithPrim WithSum WithTerm WithUnion

  -- the layer without it

  abbrev pub expr_layer : ExprParts → ExprLayer
  expr_layer = map-RawExpr WithExpr WithPrimary WithRef WithCand WithCmp WithCond WithDiffer WithMask WithPrim WithSum WithTerm WithUnion RawExpr RawPrimary RawRef RawCand RawCmp RawCond RawDiffer RawMask RawPrim RawSum RawTerm RawUnion
      (λ e. e.0) (λ e. e.0) (λ e. e.0) (λ e. e.0) (λ e. e.0) (λ e. e.0) (λ e. e.0) (λ e. e.0) (λ e. e.0) (λ e. e.0) (λ e. e.0) (λ e. e.0)

  abbrev pub primary_layer : PrimaryParts → PrimaryLayer
  primary_layer = map-RawPrimary WithExpr WithPrimary WithRef WithCand WithCmp WithCond WithDiffer WithMask WithPrim WithSum WithTerm WithUnion RawExpr RawPrimary RawRef RawCand RawCmp RawCond RawDiffer RawMask RawPrim RawSum RawTerm RawUnion
      (λ e. e.0) (λ e. e.0) (λ e. e.0) (λ e. e.0) (λ e. e.0) (λ e. e.0) (λ e. e.0) (λ e. e.0) (λ e. e.0) (λ e. e.0) (λ e. e.0) (λ e. e.0)

  abbrev pub ref_layer : RefParts → RefLayer
  ref_layer = map-RawRef WithExpr WithPrimary WithRef WithCand WithCmp WithCond WithDiffer WithMask WithPrim WithSum WithTerm WithUnion RawExpr RawPrimary RawRef RawCand RawCmp RawCond RawDiffer RawMask RawPrim RawSum RawTerm RawUnion
      (λ e. e.0) (λ e. e.0) (λ e. e.0) (λ e. e.0) (λ e. e.0) (λ e. e.0) (λ e. e.0) (λ e. e.0) (λ e. e.0) (λ e. e.0) (λ e. e.0) (λ e. e.0)

  abbrev pub cand_layer : CandParts → CandLayer
  cand_layer = map-RawCand WithExpr WithPrimary WithRef WithCand WithCmp WithCond WithDiffer WithMask WithPrim WithSum WithTerm WithUnion RawExpr RawPrimary RawRef RawCand RawCmp RawCond RawDiffer RawMask RawPrim RawSum RawTerm RawUnion
      (λ e. e.0) (λ e. e.0) (λ e. e.0) (λ e. e.0) (λ e. e.0) (λ e. e.0) (λ e. e.0) (λ e. e.0) (λ e. e.0) (λ e. e.0) (λ e. e.0) (λ e. e.0)

  abbrev pub cmp_layer : CmpParts → CmpLayer
  cmp_layer = map-RawCmp WithExpr WithPrimary WithRef WithCand WithCmp WithCond WithDiffer WithMask WithPrim WithSum WithTerm WithUnion RawExpr RawPrimary RawRef RawCand RawCmp RawCond RawDiffer RawMask RawPrim RawSum RawTerm RawUnion
      (λ e. e.0) (λ e. e.0) (λ e. e.0) (λ e. e.0) (λ e. e.0) (λ e. e.0) (λ e. e.0) (λ e. e.0) (λ e. e.0) (λ e. e.0) (λ e. e.0) (λ e. e.0)

  abbrev pub cond_layer : CondParts → CondLayer
  cond_layer = map-RawCond WithExpr WithPrimary WithRef WithCand WithCmp WithCond WithDiffer WithMask WithPrim WithSum WithTerm WithUnion RawExpr RawPrimary RawRef RawCand RawCmp RawCond RawDiffer RawMask RawPrim RawSum RawTerm RawUnion
      (λ e. e.0) (λ e. e.0) (λ e. e.0) (λ e. e.0) (λ e. e.0) (λ e. e.0) (λ e. e.0) (λ e. e.0) (λ e. e.0) (λ e. e.0) (λ e. e.0) (λ e. e.0)

  abbrev pub differ_layer : DifferParts → DifferLayer
  differ_layer = map-RawDiffer WithExpr WithPrimary WithRef WithCand WithCmp WithCond WithDiffer WithMask WithPrim WithSum WithTerm WithUnion RawExpr RawPrimary RawRef RawCand RawCmp RawCond RawDiffer RawMask RawPrim RawSum RawTerm RawUnion
      (λ e. e.0) (λ e. e.0) (λ e. e.0) (λ e. e.0) (λ e. e.0) (λ e. e.0) (λ e. e.0) (λ e. e.0) (λ e. e.0) (λ e. e.0) (λ e. e.0) (λ e. e.0)

  abbrev pub mask_layer : MaskParts → MaskLayer
  mask_layer = map-RawMask WithExpr WithPrimary WithRef WithCand WithCmp WithCond WithDiffer WithMask WithPrim WithSum WithTerm WithUnion RawExpr RawPrimary RawRef RawCand RawCmp RawCond RawDiffer RawMask RawPrim RawSum RawTerm RawUnion
      (λ e. e.0) (λ e. e.0) (λ e. e.0) (λ e. e.0) (λ e. e.0) (λ e. e.0) (λ e. e.0) (λ e. e.0) (λ e. e.0) (λ e. e.0) (λ e. e.0) (λ e. e.0)

  abbrev pub prim_layer : PrimParts → PrimLayer
  prim_layer = map-RawPrim WithExpr WithPrimary WithRef WithCand WithCmp WithCond WithDiffer WithMask WithPrim WithSum WithTerm WithUnion RawExpr RawPrimary RawRef RawCand RawCmp RawCond RawDiffer RawMask RawPrim RawSum RawTerm RawUnion
      (λ e. e.0) (λ e. e.0) (λ e. e.0) (λ e. e.0) (λ e. e.0) (λ e. e.0) (λ e. e.0) (λ e. e.0) (λ e. e.0) (λ e. e.0) (λ e. e.0) (λ e. e.0)

  abbrev pub sum_layer : SumParts → SumLayer
  sum_layer = map-RawSum WithExpr WithPrimary WithRef WithCand WithCmp WithCond WithDiffer WithMask WithPrim WithSum WithTerm WithUnion RawExpr RawPrimary RawRef RawCand RawCmp RawCond RawDiffer RawMask RawPrim RawSum RawTerm RawUnion
      (λ e. e.0) (λ e. e.0) (λ e. e.0) (λ e. e.0) (λ e. e.0) (λ e. e.0) (λ e. e.0) (λ e. e.0) (λ e. e.0) (λ e. e.0) (λ e. e.0) (λ e. e.0)

  abbrev pub term_layer : TermParts → TermLayer
  term_layer = map-RawTerm WithExpr WithPrimary WithRef WithCand WithCmp WithCond WithDiffer WithMask WithPrim WithSum WithTerm WithUnion RawExpr RawPrimary RawRef RawCand RawCmp RawCond RawDiffer RawMask RawPrim RawSum RawTerm RawUnion
      (λ e. e.0) (λ e. e.0) (λ e. e.0) (λ e. e.0) (λ e. e.0) (λ e. e.0) (λ e. e.0) (λ e. e.0) (λ e. e.0) (λ e. e.0) (λ e. e.0) (λ e. e.0)

  abbrev pub union_layer : UnionParts → UnionLayer
  union_layer = map-RawUnion WithExpr WithPrimary WithRef WithCand WithCmp WithCond WithDiffer WithMask WithPrim WithSum WithTerm WithUnion RawExpr RawPrimary RawRef RawCand RawCmp RawCond RawDiffer RawMask RawPrim RawSum RawTerm RawUnion
      (λ e. e.0) (λ e. e.0) (λ e. e.0) (λ e. e.0) (λ e. e.0) (λ e. e.0) (λ e. e.0) (λ e. e.0) (λ e. e.0) (λ e. e.0) (λ e. e.0) (λ e. e.0)

  -- a layer whose trees are known is known
  pub record Rules : Type 0 where
    pub expr : (y : ExprParts) → known.Expr (roll-RawExpr (expr_layer y))
    pub primary : (y : PrimaryParts) → known.Primary (roll-RawPrimary (primary_layer y))
    pub ref : (y : RefParts) → known.Ref (roll-RawRef (ref_layer y))
    pub cand : (y : CandParts) → known.Cand (roll-RawCand (cand_layer y))
    pub cmp : (y : CmpParts) → known.Cmp (roll-RawCmp (cmp_layer y))
    pub cond : (y : CondParts) → known.Cond (roll-RawCond (cond_layer y))
    pub differ : (y : DifferParts) → known.Differ (roll-RawDiffer (differ_layer y))
    pub mask : (y : MaskParts) → known.Mask (roll-RawMask (mask_layer y))
    pub prim : (y : PrimParts) → known.Prim (roll-RawPrim (prim_layer y))
    pub sum : (y : SumParts) → known.Sum (roll-RawSum (sum_layer y))
    pub term : (y : TermParts) → known.Term (roll-RawTerm (term_layer y))
    pub union : (y : UnionParts) → known.Union (roll-RawUnion (union_layer y))

  module _ (rules : Rules) where
    expr_up : (x : ExprLayer) (y : ExprParts) → expr_layer y ≡ x → known.Expr (roll-RawExpr x)
    expr_up x y is = subst (λ z. known.Expr (roll-RawExpr z)) is (rules.expr y)

    primary_up : (x : PrimaryLayer) (y : PrimaryParts) → primary_layer y ≡ x → known.Primary (roll-RawPrimary x)
    primary_up x y is = subst (λ z. known.Primary (roll-RawPrimary z)) is (rules.primary y)

    ref_up : (x : RefLayer) (y : RefParts) → ref_layer y ≡ x → known.Ref (roll-RawRef x)
    ref_up x y is = subst (λ z. known.Ref (roll-RawRef z)) is (rules.ref y)

    cand_up : (x : CandLayer) (y : CandParts) → cand_layer y ≡ x → known.Cand (roll-RawCand x)
    cand_up x y is = subst (λ z. known.Cand (roll-RawCand z)) is (rules.cand y)

    cmp_up : (x : CmpLayer) (y : CmpParts) → cmp_layer y ≡ x → known.Cmp (roll-RawCmp x)
    cmp_up x y is = subst (λ z. known.Cmp (roll-RawCmp z)) is (rules.cmp y)

    cond_up : (x : CondLayer) (y : CondParts) → cond_layer y ≡ x → known.Cond (roll-RawCond x)
    cond_up x y is = subst (λ z. known.Cond (roll-RawCond z)) is (rules.cond y)

    differ_up : (x : DifferLayer) (y : DifferParts) → differ_layer y ≡ x → known.Differ (roll-RawDiffer x)
    differ_up x y is = subst (λ z. known.Differ (roll-RawDiffer z)) is (rules.differ y)

    mask_up : (x : MaskLayer) (y : MaskParts) → mask_layer y ≡ x → known.Mask (roll-RawMask x)
    mask_up x y is = subst (λ z. known.Mask (roll-RawMask z)) is (rules.mask y)

    prim_up : (x : PrimLayer) (y : PrimParts) → prim_layer y ≡ x → known.Prim (roll-RawPrim x)
    prim_up x y is = subst (λ z. known.Prim (roll-RawPrim z)) is (rules.prim y)

    sum_up : (x : SumLayer) (y : SumParts) → sum_layer y ≡ x → known.Sum (roll-RawSum x)
    sum_up x y is = subst (λ z. known.Sum (roll-RawSum z)) is (rules.sum y)

    term_up : (x : TermLayer) (y : TermParts) → term_layer y ≡ x → known.Term (roll-RawTerm x)
    term_up x y is = subst (λ z. known.Term (roll-RawTerm z)) is (rules.term y)

    union_up : (x : UnionLayer) (y : UnionParts) → union_layer y ≡ x → known.Union (roll-RawUnion x)
    union_up x y is = subst (λ z. known.Union (roll-RawUnion z)) is (rules.union y)

    pub each_expr : (x : RawExpr) → known.Expr x
    each_expr =
        ind-RawExpr known.Expr known.Primary known.Ref known.Cand known.Cmp known.Cond known.Differ known.Mask known.Prim known.Sum known.Term known.Union
        expr_up primary_up ref_up cand_up cmp_up cond_up differ_up mask_up prim_up sum_up term_up union_up

    pub each_ref : (x : RawRef) → known.Ref x
    each_ref =
        ind-RawRef known.Expr known.Primary known.Ref known.Cand known.Cmp known.Cond known.Differ known.Mask known.Prim known.Sum known.Term known.Union
        expr_up primary_up ref_up cand_up cmp_up cond_up differ_up mask_up prim_up sum_up term_up union_up

    pub each_cond : (x : RawCond) → known.Cond x
    each_cond =
        ind-RawCond known.Expr known.Primary known.Ref known.Cand known.Cmp known.Cond known.Differ known.Mask known.Prim known.Sum known.Term known.Union
        expr_up primary_up ref_up cand_up cmp_up cond_up differ_up mask_up prim_up sum_up term_up union_up
