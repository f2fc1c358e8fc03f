-- What a fold over expressions makes of a first layer, and of the tree that is rolled of it.
use Rattle.std.proofs.Common.{◌≡◌}
use Rattle.cw_tree.specs.declared.expression.RawExpr.{RawExpr, out-RawExpr, fold_out-RawExpr, roll-RawExpr, map-RawExpr, fold-roll-RawExpr}
use Rattle.cw_tree.specs.declared.expression.RawPrimary.{RawPrimary, out-RawPrimary, fold_out-RawPrimary, roll-RawPrimary, map-RawPrimary, fold-roll-RawPrimary}
use Rattle.cw_tree.specs.declared.expression.RawRef.{RawRef, roll-RawRef, map-RawRef, fold-roll-RawRef}
use Rattle.cw_tree.specs.declared.expression.RawCand.{RawCand, roll-RawCand, map-RawCand, fold-roll-RawCand}
use Rattle.cw_tree.specs.declared.expression.RawCmp.{RawCmp, roll-RawCmp, map-RawCmp, fold-roll-RawCmp}
use Rattle.cw_tree.specs.declared.expression.RawCond.{RawCond, roll-RawCond, map-RawCond, fold-roll-RawCond}
use Rattle.cw_tree.specs.declared.expression.RawDiffer.{RawDiffer, roll-RawDiffer, map-RawDiffer, fold-roll-RawDiffer}
use Rattle.cw_tree.specs.declared.expression.RawMask.{RawMask, roll-RawMask, map-RawMask, fold-roll-RawMask}
use Rattle.cw_tree.specs.declared.expression.RawPrim.{RawPrim, roll-RawPrim, map-RawPrim, fold-roll-RawPrim}
use Rattle.cw_tree.specs.declared.expression.RawSum.{RawSum, roll-RawSum, map-RawSum, fold-roll-RawSum}
use Rattle.cw_tree.specs.declared.expression.RawTerm.{RawTerm, roll-RawTerm, map-RawTerm, fold-roll-RawTerm}
use Rattle.cw_tree.specs.declared.expression.RawUnion.{RawUnion, roll-RawUnion, map-RawUnion, fold-roll-RawUnion}
use Rattle.cw_tree.specs.declared.expression.RawExpr.TheOpen.{RawExpr-F, RawPrimary-F, RawRef-F, RawCand-F, RawCmp-F, RawCond-F, RawDiffer-F, RawMask-F, RawPrim-F, RawSum-F, RawTerm-F, RawUnion-F}
use Rattle.cw_tree.proofs.Expressions.{ExpressionSteps, of_expression, of_primary, of_reference, of_conjunction, of_comparison, of_condition, of_differ, of_mask, of_prim, of_sum, of_term, of_union}

-- a fold whose values are of one sort
abbrev pub Pass : Type 0 → Type 0
Pass A = ExpressionSteps A A A A A A A A A A A A

module _ {E P R Ca Cm Co Di Ma Pr Su Te Un : Type 0} (s : ExpressionSteps E P R Ca Cm Co Di Ma Pr Su Te Un) where
  -- what is made of a layer

  abbrev pub expr_layered : RawExpr-F RawExpr RawPrimary RawRef RawCand RawCmp RawCond RawDiffer RawMask RawPrim RawSum RawTerm RawUnion → E
  expr_layered y = s.expression (map-RawExpr RawExpr RawPrimary RawRef RawCand RawCmp RawCond RawDiffer RawMask RawPrim RawSum RawTerm RawUnion E P R Ca Cm Co Di Ma Pr Su Te Un (of_expression s) (of_primary s) (of_reference s) (of_conjunction s) (of_comparison s) (of_condition s) (of_differ s) (of_mask s) (of_prim s) (of_sum s) (of_term s) (of_union s) y)

  abbrev pub primary_layered : RawPrimary-F RawExpr RawPrimary RawRef RawCand RawCmp RawCond RawDiffer RawMask RawPrim RawSum RawTerm RawUnion → P
  primary_layered y = s.primary (map-RawPrimary RawExpr RawPrimary RawRef RawCand RawCmp RawCond RawDiffer RawMask RawPrim RawSum RawTerm RawUnion E P R Ca Cm Co Di Ma Pr Su Te Un (of_expression s) (of_primary s) (of_reference s) (of_conjunction s) (of_comparison s) (of_condition s) (of_differ s) (of_mask s) (of_prim s) (of_sum s) (of_term s) (of_union s) y)

  abbrev pub ref_layered : RawRef-F RawExpr RawPrimary RawRef RawCand RawCmp RawCond RawDiffer RawMask RawPrim RawSum RawTerm RawUnion → R
  ref_layered y = s.reference (map-RawRef RawExpr RawPrimary RawRef RawCand RawCmp RawCond RawDiffer RawMask RawPrim RawSum RawTerm RawUnion E P R Ca Cm Co Di Ma Pr Su Te Un (of_expression s) (of_primary s) (of_reference s) (of_conjunction s) (of_comparison s) (of_condition s) (of_differ s) (of_mask s) (of_prim s) (of_sum s) (of_term s) (of_union s) y)

  abbrev pub cand_layered : RawCand-F RawExpr RawPrimary RawRef RawCand RawCmp RawCond RawDiffer RawMask RawPrim RawSum RawTerm RawUnion → Ca
  cand_layered y = s.conjunction (map-RawCand RawExpr RawPrimary RawRef RawCand RawCmp RawCond RawDiffer RawMask RawPrim RawSum RawTerm RawUnion E P R Ca Cm Co Di Ma Pr Su Te Un (of_expression s) (of_primary s) (of_reference s) (of_conjunction s) (of_comparison s) (of_condition s) (of_differ s) (of_mask s) (of_prim s) (of_sum s) (of_term s) (of_union s) y)

  abbrev pub cmp_layered : RawCmp-F RawExpr RawPrimary RawRef RawCand RawCmp RawCond RawDiffer RawMask RawPrim RawSum RawTerm RawUnion → Cm
  cmp_layered y = s.comparison (map-RawCmp RawExpr RawPrimary RawRef RawCand RawCmp RawCond RawDiffer RawMask RawPrim RawSum RawTerm RawUnion E P R Ca Cm Co Di Ma Pr Su Te Un (of_expression s) (of_primary s) (of_reference s) (of_conjunction s) (of_comparison s) (of_condition s) (of_differ s) (of_mask s) (of_prim s) (of_sum s) (of_term s) (of_union s) y)

  abbrev pub cond_layered : RawCond-F RawExpr RawPrimary RawRef RawCand RawCmp RawCond RawDiffer RawMask RawPrim RawSum RawTerm RawUnion → Co
  cond_layered y = s.condition (map-RawCond RawExpr RawPrimary RawRef RawCand RawCmp RawCond RawDiffer RawMask RawPrim RawSum RawTerm RawUnion E P R Ca Cm Co Di Ma Pr Su Te Un (of_expression s) (of_primary s) (of_reference s) (of_conjunction s) (of_comparison s) (of_condition s) (of_differ s) (of_mask s) (of_prim s) (of_sum s) (of_term s) (of_union s) y)

  abbrev pub differ_layered : RawDiffer-F RawExpr RawPrimary RawRef RawCand RawCmp RawCond RawDiffer RawMask RawPrim RawSum RawTerm RawUnion → Di
  differ_layered y = s.differ (map-RawDiffer RawExpr RawPrimary RawRef RawCand RawCmp RawCond RawDiffer RawMask RawPrim RawSum RawTerm RawUnion E P R Ca Cm Co Di Ma Pr Su Te Un (of_expression s) (of_primary s) (of_reference s) (of_conjunction s) (of_comparison s) (of_condition s) (of_differ s) (of_mask s) (of_prim s) (of_sum s) (of_term s) (of_union s) y)

  abbrev pub mask_layered : RawMask-F RawExpr RawPrimary RawRef RawCand RawCmp RawCond RawDiffer RawMask RawPrim RawSum RawTerm RawUnion → Ma
  mask_layered y = s.mask (map-RawMask RawExpr RawPrimary RawRef RawCand RawCmp RawCond RawDiffer RawMask RawPrim RawSum RawTerm RawUnion E P R Ca Cm Co Di Ma Pr Su Te Un (of_expression s) (of_primary s) (of_reference s) (of_conjunction s) (of_comparison s) (of_condition s) (of_differ s) (of_mask s) (of_prim s) (of_sum s) (of_term s) (of_union s) y)

  abbrev pub prim_layered : RawPrim-F RawExpr RawPrimary RawRef RawCand RawCmp RawCond RawDiffer RawMask RawPrim RawSum RawTerm RawUnion → Pr
  prim_layered y = s.prim (map-RawPrim RawExpr RawPrimary RawRef RawCand RawCmp RawCond RawDiffer RawMask RawPrim RawSum RawTerm RawUnion E P R Ca Cm Co Di Ma Pr Su Te Un (of_expression s) (of_primary s) (of_reference s) (of_conjunction s) (of_comparison s) (of_condition s) (of_differ s) (of_mask s) (of_prim s) (of_sum s) (of_term s) (of_union s) y)

  abbrev pub sum_layered : RawSum-F RawExpr RawPrimary RawRef RawCand RawCmp RawCond RawDiffer RawMask RawPrim RawSum RawTerm RawUnion → Su
  sum_layered y = s.sum (map-RawSum RawExpr RawPrimary RawRef RawCand RawCmp RawCond RawDiffer RawMask RawPrim RawSum RawTerm RawUnion E P R Ca Cm Co Di Ma Pr Su Te Un (of_expression s) (of_primary s) (of_reference s) (of_conjunction s) (of_comparison s) (of_condition s) (of_differ s) (of_mask s) (of_prim s) (of_sum s) (of_term s) (of_union s) y)

  abbrev pub term_layered : RawTerm-F RawExpr RawPrimary RawRef RawCand RawCmp RawCond RawDiffer RawMask RawPrim RawSum RawTerm RawUnion → Te
  term_layered y = s.term (map-RawTerm RawExpr RawPrimary RawRef RawCand RawCmp RawCond RawDiffer RawMask RawPrim RawSum RawTerm RawUnion E P R Ca Cm Co Di Ma Pr Su Te Un (of_expression s) (of_primary s) (of_reference s) (of_conjunction s) (of_comparison s) (of_condition s) (of_differ s) (of_mask s) (of_prim s) (of_sum s) (of_term s) (of_union s) y)

  abbrev pub union_layered : RawUnion-F RawExpr RawPrimary RawRef RawCand RawCmp RawCond RawDiffer RawMask RawPrim RawSum RawTerm RawUnion → Un
  union_layered y = s.union (map-RawUnion RawExpr RawPrimary RawRef RawCand RawCmp RawCond RawDiffer RawMask RawPrim RawSum RawTerm RawUnion E P R Ca Cm Co Di Ma Pr Su Te Un (of_expression s) (of_primary s) (of_reference s) (of_conjunction s) (of_comparison s) (of_condition s) (of_differ s) (of_mask s) (of_prim s) (of_sum s) (of_term s) (of_union s) y)

  -- what is made of a tree is what is made of its layer

  pub expr_rolled : (y : RawExpr-F RawExpr RawPrimary RawRef RawCand RawCmp RawCond RawDiffer RawMask RawPrim RawSum RawTerm RawUnion) → of_expression s (roll-RawExpr y) ≡ expr_layered y
  expr_rolled = fold-roll-RawExpr E P R Ca Cm Co Di Ma Pr Su Te Un s.expression s.primary s.reference s.conjunction s.comparison s.condition s.differ s.mask s.prim s.sum s.term s.union

  pub primary_rolled : (y : RawPrimary-F RawExpr RawPrimary RawRef RawCand RawCmp RawCond RawDiffer RawMask RawPrim RawSum RawTerm RawUnion) → of_primary s (roll-RawPrimary y) ≡ primary_layered y
  primary_rolled = fold-roll-RawPrimary E P R Ca Cm Co Di Ma Pr Su Te Un s.expression s.primary s.reference s.conjunction s.comparison s.condition s.differ s.mask s.prim s.sum s.term s.union

  pub ref_rolled : (y : RawRef-F RawExpr RawPrimary RawRef RawCand RawCmp RawCond RawDiffer RawMask RawPrim RawSum RawTerm RawUnion) → of_reference s (roll-RawRef y) ≡ ref_layered y
  ref_rolled = fold-roll-RawRef E P R Ca Cm Co Di Ma Pr Su Te Un s.expression s.primary s.reference s.conjunction s.comparison s.condition s.differ s.mask s.prim s.sum s.term s.union

  pub cand_rolled : (y : RawCand-F RawExpr RawPrimary RawRef RawCand RawCmp RawCond RawDiffer RawMask RawPrim RawSum RawTerm RawUnion) → of_conjunction s (roll-RawCand y) ≡ cand_layered y
  cand_rolled = fold-roll-RawCand E P R Ca Cm Co Di Ma Pr Su Te Un s.expression s.primary s.reference s.conjunction s.comparison s.condition s.differ s.mask s.prim s.sum s.term s.union

  pub cmp_rolled : (y : RawCmp-F RawExpr RawPrimary RawRef RawCand RawCmp RawCond RawDiffer RawMask RawPrim RawSum RawTerm RawUnion) → of_comparison s (roll-RawCmp y) ≡ cmp_layered y
  cmp_rolled = fold-roll-RawCmp E P R Ca Cm Co Di Ma Pr Su Te Un s.expression s.primary s.reference s.conjunction s.comparison s.condition s.differ s.mask s.prim s.sum s.term s.union

  pub cond_rolled : (y : RawCond-F RawExpr RawPrimary RawRef RawCand RawCmp RawCond RawDiffer RawMask RawPrim RawSum RawTerm RawUnion) → of_condition s (roll-RawCond y) ≡ cond_layered y
  cond_rolled = fold-roll-RawCond E P R Ca Cm Co Di Ma Pr Su Te Un s.expression s.primary s.reference s.conjunction s.comparison s.condition s.differ s.mask s.prim s.sum s.term s.union

  pub differ_rolled : (y : RawDiffer-F RawExpr RawPrimary RawRef RawCand RawCmp RawCond RawDiffer RawMask RawPrim RawSum RawTerm RawUnion) → of_differ s (roll-RawDiffer y) ≡ differ_layered y
  differ_rolled = fold-roll-RawDiffer E P R Ca Cm Co Di Ma Pr Su Te Un s.expression s.primary s.reference s.conjunction s.comparison s.condition s.differ s.mask s.prim s.sum s.term s.union

  pub mask_rolled : (y : RawMask-F RawExpr RawPrimary RawRef RawCand RawCmp RawCond RawDiffer RawMask RawPrim RawSum RawTerm RawUnion) → of_mask s (roll-RawMask y) ≡ mask_layered y
  mask_rolled = fold-roll-RawMask E P R Ca Cm Co Di Ma Pr Su Te Un s.expression s.primary s.reference s.conjunction s.comparison s.condition s.differ s.mask s.prim s.sum s.term s.union

  pub prim_rolled : (y : RawPrim-F RawExpr RawPrimary RawRef RawCand RawCmp RawCond RawDiffer RawMask RawPrim RawSum RawTerm RawUnion) → of_prim s (roll-RawPrim y) ≡ prim_layered y
  prim_rolled = fold-roll-RawPrim E P R Ca Cm Co Di Ma Pr Su Te Un s.expression s.primary s.reference s.conjunction s.comparison s.condition s.differ s.mask s.prim s.sum s.term s.union

  pub sum_rolled : (y : RawSum-F RawExpr RawPrimary RawRef RawCand RawCmp RawCond RawDiffer RawMask RawPrim RawSum RawTerm RawUnion) → of_sum s (roll-RawSum y) ≡ sum_layered y
  sum_rolled = fold-roll-RawSum E P R Ca Cm Co Di Ma Pr Su Te Un s.expression s.primary s.reference s.conjunction s.comparison s.condition s.differ s.mask s.prim s.sum s.term s.union

  pub term_rolled : (y : RawTerm-F RawExpr RawPrimary RawRef RawCand RawCmp RawCond RawDiffer RawMask RawPrim RawSum RawTerm RawUnion) → of_term s (roll-RawTerm y) ≡ term_layered y
  term_rolled = fold-roll-RawTerm E P R Ca Cm Co Di Ma Pr Su Te Un s.expression s.primary s.reference s.conjunction s.comparison s.condition s.differ s.mask s.prim s.sum s.term s.union

  pub union_rolled : (y : RawUnion-F RawExpr RawPrimary RawRef RawCand RawCmp RawCond RawDiffer RawMask RawPrim RawSum RawTerm RawUnion) → of_union s (roll-RawUnion y) ≡ union_layered y
  union_rolled = fold-roll-RawUnion E P R Ca Cm Co Di Ma Pr Su Te Un s.expression s.primary s.reference s.conjunction s.comparison s.condition s.differ s.mask s.prim s.sum s.term s.union

  pub expr_opened : (x : RawExpr) → of_expression s x ≡ expr_layered (out-RawExpr x)
  expr_opened = fold_out-RawExpr E P R Ca Cm Co Di Ma Pr Su Te Un s.expression s.primary s.reference s.conjunction s.comparison s.condition s.differ s.mask s.prim s.sum s.term s.union

  pub primary_opened : (x : RawPrimary) → of_primary s x ≡ primary_layered (out-RawPrimary x)
  primary_opened = fold_out-RawPrimary E P R Ca Cm Co Di Ma Pr Su Te Un s.expression s.primary s.reference s.conjunction s.comparison s.condition s.differ s.mask s.prim s.sum s.term s.union
