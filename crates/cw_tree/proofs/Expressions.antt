-- A fold over the trees of expressions and conditions, and what it is at each form of a part.
use Rattle.std.proofs.Common.{◌≡◌, ℕ, List, map, sym, ap, ◌∙◌}
use Rattle.cw_tree.specs.declared.leaf.Position.{Position}
use Rattle.cw_tree.specs.declared.leaf.RawLiteral.{RawLiteral}
use Rattle.cw_tree.specs.declared.leaf.RawName.{RawName}
use Rattle.cw_tree.specs.declared.leaf.RawNumber.{RawNumber}
use Rattle.cw_tree.specs.declared.leaf.RawOctal.{RawOctal}
use Rattle.cw_tree.specs.declared.leaf.RawType.{RawType}
use Rattle.cw_tree.specs.declared.expression.RawExpr.TheVariants as expression_tree
use Rattle.cw_tree.specs.declared.expression.RawPrimary.TheVariants as primary_tree
use Rattle.cw_tree.specs.declared.expression.RawRef.TheVariants as reference_tree
use Rattle.cw_tree.specs.declared.expression.RawExpr.TheOpen as layer
use Rattle.cw_tree.specs.declared.expression.RawExpr.TheOpen.{RawExpr-F, RawPrimary-F, RawRef-F, RawCand-F, RawCmp-F, RawCond-F, RawDiffer-F, RawMask-F, RawPrim-F, RawSum-F, RawTerm-F, RawUnion-F}
use Rattle.cw_tree.specs.declared.expression.RawExpr.{RawExpr, fold-RawExpr, roll-RawExpr, map-RawExpr, fold-roll-RawExpr}
use Rattle.cw_tree.specs.declared.expression.RawPrimary.{RawPrimary, fold-RawPrimary, roll-RawPrimary, map-RawPrimary, fold-roll-RawPrimary}
use Rattle.cw_tree.specs.declared.expression.RawRef.{RawRef, fold-RawRef, out-RawRef, roll-RawRef, map-RawRef, fold_out-RawRef, fold-roll-RawRef}
use Rattle.cw_tree.specs.declared.expression.RawCand.{RawCand, fold-RawCand, out-RawCand, map-RawCand, fold_out-RawCand}
use Rattle.cw_tree.specs.declared.expression.RawCmp.{RawCmp, fold-RawCmp, out-RawCmp, map-RawCmp, fold_out-RawCmp}
use Rattle.cw_tree.specs.declared.expression.RawCond.{RawCond, fold-RawCond, out-RawCond, map-RawCond, fold_out-RawCond}
use Rattle.cw_tree.specs.declared.expression.RawDiffer.{RawDiffer, fold-RawDiffer, out-RawDiffer, map-RawDiffer, fold_out-RawDiffer}
use Rattle.cw_tree.specs.declared.expression.RawMask.{RawMask, fold-RawMask, out-RawMask, map-RawMask, fold_out-RawMask}
use Rattle.cw_tree.specs.declared.expression.RawPrim.{RawPrim, fold-RawPrim, out-RawPrim, map-RawPrim, fold_out-RawPrim}
use Rattle.cw_tree.specs.declared.expression.RawSum.{RawSum, fold-RawSum, out-RawSum, map-RawSum, fold_out-RawSum}
use Rattle.cw_tree.specs.declared.expression.RawTerm.{RawTerm, fold-RawTerm, out-RawTerm, map-RawTerm, fold_out-RawTerm}
use Rattle.cw_tree.specs.declared.expression.RawUnion.{RawUnion, fold-RawUnion, out-RawUnion, map-RawUnion, fold_out-RawUnion}

-- what is made of each part, of what was made of its own parts
pub record ExpressionSteps (E P R Ca Cm Co Di Ma Pr Su Te Un : Type 0) : Type 0 where
  pub expression : RawExpr-F E P R Ca Cm Co Di Ma Pr Su Te Un → E
  pub primary : RawPrimary-F E P R Ca Cm Co Di Ma Pr Su Te Un → P
  pub reference : RawRef-F E P R Ca Cm Co Di Ma Pr Su Te Un → R
  pub conjunction : RawCand-F E P R Ca Cm Co Di Ma Pr Su Te Un → Ca
  pub comparison : RawCmp-F E P R Ca Cm Co Di Ma Pr Su Te Un → Cm
  pub condition : RawCond-F E P R Ca Cm Co Di Ma Pr Su Te Un → Co
  pub differ : RawDiffer-F E P R Ca Cm Co Di Ma Pr Su Te Un → Di
  pub mask : RawMask-F E P R Ca Cm Co Di Ma Pr Su Te Un → Ma
  pub prim : RawPrim-F E P R Ca Cm Co Di Ma Pr Su Te Un → Pr
  pub sum : RawSum-F E P R Ca Cm Co Di Ma Pr Su Te Un → Su
  pub term : RawTerm-F E P R Ca Cm Co Di Ma Pr Su Te Un → Te
  pub union : RawUnion-F E P R Ca Cm Co Di Ma Pr Su Te Un → Un

module _ {E P R Ca Cm Co Di Ma Pr Su Te Un : Type 0} (expression : RawExpr-F E P R Ca Cm Co Di Ma Pr Su Te Un → E) (primary : RawPrimary-F E P R Ca Cm Co Di Ma Pr Su Te Un → P) (reference : RawRef-F E P R Ca Cm Co Di Ma Pr Su Te Un → R) (conjunction : RawCand-F E P R Ca Cm Co Di Ma Pr Su Te Un → Ca) (comparison : RawCmp-F E P R Ca Cm Co Di Ma Pr Su Te Un → Cm) (condition : RawCond-F E P R Ca Cm Co Di Ma Pr Su Te Un → Co) (differ : RawDiffer-F E P R Ca Cm Co Di Ma Pr Su Te Un → Di) (mask : RawMask-F E P R Ca Cm Co Di Ma Pr Su Te Un → Ma) (prim : RawPrim-F E P R Ca Cm Co Di Ma Pr Su Te Un → Pr) (sum : RawSum-F E P R Ca Cm Co Di Ma Pr Su Te Un → Su) (term : RawTerm-F E P R Ca Cm Co Di Ma Pr Su Te Un → Te) (union : RawUnion-F E P R Ca Cm Co Di Ma Pr Su Te Un → Un) where
  abbrev pub expression_steps : ExpressionSteps E P R Ca Cm Co Di Ma Pr Su Te Un
  expression_steps = record { expression = expression; primary = primary; reference = reference; conjunction = conjunction; comparison = comparison; condition = condition; differ = differ; mask = mask; prim = prim; sum = sum; term = term; union = union }

module _ {E P R Ca Cm Co Di Ma Pr Su Te Un : Type 0} (s : ExpressionSteps E P R Ca Cm Co Di Ma Pr Su Te Un) where
  abbrev pub of_expression : RawExpr → E
  of_expression = fold-RawExpr E P R Ca Cm Co Di Ma Pr Su Te Un s.expression s.primary s.reference s.conjunction s.comparison s.condition s.differ s.mask s.prim s.sum s.term s.union

  abbrev pub of_primary : RawPrimary → P
  of_primary = fold-RawPrimary E P R Ca Cm Co Di Ma Pr Su Te Un s.expression s.primary s.reference s.conjunction s.comparison s.condition s.differ s.mask s.prim s.sum s.term s.union

  abbrev pub of_reference : RawRef → R
  of_reference = fold-RawRef E P R Ca Cm Co Di Ma Pr Su Te Un s.expression s.primary s.reference s.conjunction s.comparison s.condition s.differ s.mask s.prim s.sum s.term s.union

  abbrev pub of_conjunction : RawCand → Ca
  of_conjunction = fold-RawCand E P R Ca Cm Co Di Ma Pr Su Te Un s.expression s.primary s.reference s.conjunction s.comparison s.condition s.differ s.mask s.prim s.sum s.term s.union

  abbrev pub of_comparison : RawCmp → Cm
  of_comparison = fold-RawCmp E P R Ca Cm Co Di Ma Pr Su Te Un s.expression s.primary s.reference s.conjunction s.comparison s.condition s.differ s.mask s.prim s.sum s.term s.union

  abbrev pub of_condition : RawCond → Co
  of_condition = fold-RawCond E P R Ca Cm Co Di Ma Pr Su Te Un s.expression s.primary s.reference s.conjunction s.comparison s.condition s.differ s.mask s.prim s.sum s.term s.union

  abbrev pub of_differ : RawDiffer → Di
  of_differ = fold-RawDiffer E P R Ca Cm Co Di Ma Pr Su Te Un s.expression s.primary s.reference s.conjunction s.comparison s.condition s.differ s.mask s.prim s.sum s.term s.union

  abbrev pub of_mask : RawMask → Ma
  of_mask = fold-RawMask E P R Ca Cm Co Di Ma Pr Su Te Un s.expression s.primary s.reference s.conjunction s.comparison s.condition s.differ s.mask s.prim s.sum s.term s.union

  abbrev pub of_prim : RawPrim → Pr
  of_prim = fold-RawPrim E P R Ca Cm Co Di Ma Pr Su Te Un s.expression s.primary s.reference s.conjunction s.comparison s.condition s.differ s.mask s.prim s.sum s.term s.union

  abbrev pub of_sum : RawSum → Su
  of_sum = fold-RawSum E P R Ca Cm Co Di Ma Pr Su Te Un s.expression s.primary s.reference s.conjunction s.comparison s.condition s.differ s.mask s.prim s.sum s.term s.union

  abbrev pub of_term : RawTerm → Te
  of_term = fold-RawTerm E P R Ca Cm Co Di Ma Pr Su Te Un s.expression s.primary s.reference s.conjunction s.comparison s.condition s.differ s.mask s.prim s.sum s.term s.union

  abbrev pub of_union : RawUnion → Un
  of_union = fold-RawUnion E P R Ca Cm Co Di Ma Pr Su Te Un s.expression s.primary s.reference s.conjunction s.comparison s.condition s.differ s.mask s.prim s.sum s.term s.union

  rolled_expression : (x : RawExpr-F RawExpr RawPrimary RawRef RawCand RawCmp RawCond RawDiffer RawMask RawPrim RawSum RawTerm RawUnion) → of_expression (roll-RawExpr x) ≡ s.expression (map-RawExpr RawExpr RawPrimary RawRef RawCand RawCmp RawCond RawDiffer RawMask RawPrim RawSum RawTerm RawUnion E P R Ca Cm Co Di Ma Pr Su Te Un of_expression of_primary of_reference of_conjunction of_comparison of_condition of_differ of_mask of_prim of_sum of_term of_union x)
  rolled_expression = fold-roll-RawExpr E P R Ca Cm Co Di Ma Pr Su Te Un s.expression s.primary s.reference s.conjunction s.comparison s.condition s.differ s.mask s.prim s.sum s.term s.union

  pub of_expression-Choice : (at : Position) (t : RawCond) (a : RawExpr) (b : RawExpr) → of_expression (expression_tree.Choice at t a b) ≡ s.expression (layer.Choice at (of_condition t) (of_expression a) (of_expression b))
  of_expression-Choice at t a b = ap of_expression (sym (expression_tree.rolls-Choice at t a b)) ∙ rolled_expression (layer.Choice at t a b)

  pub of_expression-Sum : (e : RawSum) → of_expression (expression_tree.Sum e) ≡ s.expression (layer.Sum (of_sum e))
  of_expression-Sum e = ap of_expression (sym (expression_tree.rolls-Sum e)) ∙ rolled_expression (layer.Sum e)

  rolled_primary : (x : RawPrimary-F RawExpr RawPrimary RawRef RawCand RawCmp RawCond RawDiffer RawMask RawPrim RawSum RawTerm RawUnion) → of_primary (roll-RawPrimary x) ≡ s.primary (map-RawPrimary RawExpr RawPrimary RawRef RawCand RawCmp RawCond RawDiffer RawMask RawPrim RawSum RawTerm RawUnion E P R Ca Cm Co Di Ma Pr Su Te Un of_expression of_primary of_reference of_conjunction of_comparison of_condition of_differ of_mask of_prim of_sum of_term of_union x)
  rolled_primary = fold-roll-RawPrimary E P R Ca Cm Co Di Ma Pr Su Te Un s.expression s.primary s.reference s.conjunction s.comparison s.condition s.differ s.mask s.prim s.sum s.term s.union

  pub of_primary-Number : (n : RawNumber) → of_primary (primary_tree.Number n) ≡ s.primary (layer.Number n)
  of_primary-Number n = ap of_primary (sym (primary_tree.rolls-Number n)) ∙ rolled_primary (layer.Number n)

  pub of_primary-Octal : (n : RawOctal) → of_primary (primary_tree.Octal n) ≡ s.primary (layer.Octal n)
  of_primary-Octal n = ap of_primary (sym (primary_tree.rolls-Octal n)) ∙ rolled_primary (layer.Octal n)

  pub of_primary-Literal : (c : RawLiteral) → of_primary (primary_tree.Literal c) ≡ s.primary (layer.Literal c)
  of_primary-Literal c = ap of_primary (sym (primary_tree.rolls-Literal c)) ∙ rolled_primary (layer.Literal c)

  pub of_primary-Text : (at : Position) (cs : List ℕ) → of_primary (primary_tree.Text at cs) ≡ s.primary (layer.Text at cs)
  of_primary-Text at cs = ap of_primary (sym (primary_tree.rolls-Text at cs)) ∙ rolled_primary (layer.Text at cs)

  pub of_primary-Location : (at : Position) (r : RawRef) → of_primary (primary_tree.Location at r) ≡ s.primary (layer.Location at (of_reference r))
  of_primary-Location at r = ap of_primary (sym (primary_tree.rolls-Location at r)) ∙ rolled_primary (layer.Location at r)

  pub of_primary-Forced : (t : RawType) (e : RawExpr) → of_primary (primary_tree.Forced t e) ≡ s.primary (layer.Forced t (of_expression e))
  of_primary-Forced t e = ap of_primary (sym (primary_tree.rolls-Forced t e)) ∙ rolled_primary (layer.Forced t e)

  pub of_primary-Bracket : (at : Position) (e : RawExpr) → of_primary (primary_tree.Bracket at e) ≡ s.primary (layer.Bracket at (of_expression e))
  of_primary-Bracket at e = ap of_primary (sym (primary_tree.rolls-Bracket at e)) ∙ rolled_primary (layer.Bracket at e)

  pub of_primary-Ref : (r : RawRef) → of_primary (primary_tree.Ref r) ≡ s.primary (layer.Ref (of_reference r))
  of_primary-Ref r = ap of_primary (sym (primary_tree.rolls-Ref r)) ∙ rolled_primary (layer.Ref r)

  pub of_primary-Call : (n : RawName) (es : List RawExpr) → of_primary (primary_tree.Call n es) ≡ s.primary (layer.Call n (map of_expression es))
  of_primary-Call n es = ap of_primary (sym (primary_tree.rolls-Call n es)) ∙ rolled_primary (layer.Call n es)

  rolled_reference : (x : RawRef-F RawExpr RawPrimary RawRef RawCand RawCmp RawCond RawDiffer RawMask RawPrim RawSum RawTerm RawUnion) → of_reference (roll-RawRef x) ≡ s.reference (map-RawRef RawExpr RawPrimary RawRef RawCand RawCmp RawCond RawDiffer RawMask RawPrim RawSum RawTerm RawUnion E P R Ca Cm Co Di Ma Pr Su Te Un of_expression of_primary of_reference of_conjunction of_comparison of_condition of_differ of_mask of_prim of_sum of_term of_union x)
  rolled_reference = fold-roll-RawRef E P R Ca Cm Co Di Ma Pr Su Te Un s.expression s.primary s.reference s.conjunction s.comparison s.condition s.differ s.mask s.prim s.sum s.term s.union

  pub of_reference-Name : (n : RawName) → of_reference (reference_tree.Name n) ≡ s.reference (layer.Name n)
  of_reference-Name n = ap of_reference (sym (reference_tree.rolls-Name n)) ∙ rolled_reference (layer.Name n)

  pub of_reference-One : (n : RawName) (a : RawExpr) → of_reference (reference_tree.One n a) ≡ s.reference (layer.One n (of_expression a))
  of_reference-One n a = ap of_reference (sym (reference_tree.rolls-One n a)) ∙ rolled_reference (layer.One n a)

  pub of_reference-Two : (n : RawName) (a : RawExpr) (b : RawExpr) → of_reference (reference_tree.Two n a b) ≡ s.reference (layer.Two n (of_expression a) (of_expression b))
  of_reference-Two n a b = ap of_reference (sym (reference_tree.rolls-Two n a b)) ∙ rolled_reference (layer.Two n a b)

  pub of_reference-Bare : (at : Position) (a : RawExpr) → of_reference (reference_tree.Bare at a) ≡ s.reference (layer.Bare at (of_expression a))
  of_reference-Bare at a = ap of_reference (sym (reference_tree.rolls-Bare at a)) ∙ rolled_reference (layer.Bare at a)

  pub of_reference-out : (x : RawRef) → of_reference x ≡ s.reference (map-RawRef RawExpr RawPrimary RawRef RawCand RawCmp RawCond RawDiffer RawMask RawPrim RawSum RawTerm RawUnion E P R Ca Cm Co Di Ma Pr Su Te Un of_expression of_primary of_reference of_conjunction of_comparison of_condition of_differ of_mask of_prim of_sum of_term of_union (out-RawRef x))
  of_reference-out = fold_out-RawRef E P R Ca Cm Co Di Ma Pr Su Te Un s.expression s.primary s.reference s.conjunction s.comparison s.condition s.differ s.mask s.prim s.sum s.term s.union

  pub of_conjunction-out : (x : RawCand) → of_conjunction x ≡ s.conjunction (map-RawCand RawExpr RawPrimary RawRef RawCand RawCmp RawCond RawDiffer RawMask RawPrim RawSum RawTerm RawUnion E P R Ca Cm Co Di Ma Pr Su Te Un of_expression of_primary of_reference of_conjunction of_comparison of_condition of_differ of_mask of_prim of_sum of_term of_union (out-RawCand x))
  of_conjunction-out = fold_out-RawCand E P R Ca Cm Co Di Ma Pr Su Te Un s.expression s.primary s.reference s.conjunction s.comparison s.condition s.differ s.mask s.prim s.sum s.term s.union

  pub of_comparison-out : (x : RawCmp) → of_comparison x ≡ s.comparison (map-RawCmp RawExpr RawPrimary RawRef RawCand RawCmp RawCond RawDiffer RawMask RawPrim RawSum RawTerm RawUnion E P R Ca Cm Co Di Ma Pr Su Te Un of_expression of_primary of_reference of_conjunction of_comparison of_condition of_differ of_mask of_prim of_sum of_term of_union (out-RawCmp x))
  of_comparison-out = fold_out-RawCmp E P R Ca Cm Co Di Ma Pr Su Te Un s.expression s.primary s.reference s.conjunction s.comparison s.condition s.differ s.mask s.prim s.sum s.term s.union

  pub of_condition-out : (x : RawCond) → of_condition x ≡ s.condition (map-RawCond RawExpr RawPrimary RawRef RawCand RawCmp RawCond RawDiffer RawMask RawPrim RawSum RawTerm RawUnion E P R Ca Cm Co Di Ma Pr Su Te Un of_expression of_primary of_reference of_conjunction of_comparison of_condition of_differ of_mask of_prim of_sum of_term of_union (out-RawCond x))
  of_condition-out = fold_out-RawCond E P R Ca Cm Co Di Ma Pr Su Te Un s.expression s.primary s.reference s.conjunction s.comparison s.condition s.differ s.mask s.prim s.sum s.term s.union

  pub of_differ-out : (x : RawDiffer) → of_differ x ≡ s.differ (map-RawDiffer RawExpr RawPrimary RawRef RawCand RawCmp RawCond RawDiffer RawMask RawPrim RawSum RawTerm RawUnion E P R Ca Cm Co Di Ma Pr Su Te Un of_expression of_primary of_reference of_conjunction of_comparison of_condition of_differ of_mask of_prim of_sum of_term of_union (out-RawDiffer x))
  of_differ-out = fold_out-RawDiffer E P R Ca Cm Co Di Ma Pr Su Te Un s.expression s.primary s.reference s.conjunction s.comparison s.condition s.differ s.mask s.prim s.sum s.term s.union

  pub of_mask-out : (x : RawMask) → of_mask x ≡ s.mask (map-RawMask RawExpr RawPrimary RawRef RawCand RawCmp RawCond RawDiffer RawMask RawPrim RawSum RawTerm RawUnion E P R Ca Cm Co Di Ma Pr Su Te Un of_expression of_primary of_reference of_conjunction of_comparison of_condition of_differ of_mask of_prim of_sum of_term of_union (out-RawMask x))
  of_mask-out = fold_out-RawMask E P R Ca Cm Co Di Ma Pr Su Te Un s.expression s.primary s.reference s.conjunction s.comparison s.condition s.differ s.mask s.prim s.sum s.term s.union

  pub of_prim-out : (x : RawPrim) → of_prim x ≡ s.prim (map-RawPrim RawExpr RawPrimary RawRef RawCand RawCmp RawCond RawDiffer RawMask RawPrim RawSum RawTerm RawUnion E P R Ca Cm Co Di Ma Pr Su Te Un of_expression of_primary of_reference of_conjunction of_comparison of_condition of_differ of_mask of_prim of_sum of_term of_union (out-RawPrim x))
  of_prim-out = fold_out-RawPrim E P R Ca Cm Co Di Ma Pr Su Te Un s.expression s.primary s.reference s.conjunction s.comparison s.condition s.differ s.mask s.prim s.sum s.term s.union

  pub of_sum-out : (x : RawSum) → of_sum x ≡ s.sum (map-RawSum RawExpr RawPrimary RawRef RawCand RawCmp RawCond RawDiffer RawMask RawPrim RawSum RawTerm RawUnion E P R Ca Cm Co Di Ma Pr Su Te Un of_expression of_primary of_reference of_conjunction of_comparison of_condition of_differ of_mask of_prim of_sum of_term of_union (out-RawSum x))
  of_sum-out = fold_out-RawSum E P R Ca Cm Co Di Ma Pr Su Te Un s.expression s.primary s.reference s.conjunction s.comparison s.condition s.differ s.mask s.prim s.sum s.term s.union

  pub of_term-out : (x : RawTerm) → of_term x ≡ s.term (map-RawTerm RawExpr RawPrimary RawRef RawCand RawCmp RawCond RawDiffer RawMask RawPrim RawSum RawTerm RawUnion E P R Ca Cm Co Di Ma Pr Su Te Un of_expression of_primary of_reference of_conjunction of_comparison of_condition of_differ of_mask of_prim of_sum of_term of_union (out-RawTerm x))
  of_term-out = fold_out-RawTerm E P R Ca Cm Co Di Ma Pr Su Te Un s.expression s.primary s.reference s.conjunction s.comparison s.condition s.differ s.mask s.prim s.sum s.term s.union

  pub of_union-out : (x : RawUnion) → of_union x ≡ s.union (map-RawUnion RawExpr RawPrimary RawRef RawCand RawCmp RawCond RawDiffer RawMask RawPrim RawSum RawTerm RawUnion E P R Ca Cm Co Di Ma Pr Su Te Un of_expression of_primary of_reference of_conjunction of_comparison of_condition of_differ of_mask of_prim of_sum of_term of_union (out-RawUnion x))
  of_union-out = fold_out-RawUnion E P R Ca Cm Co Di Ma Pr Su Te Un s.expression s.primary s.reference s.conjunction s.comparison s.condition s.differ s.mask s.prim s.sum s.term s.union
