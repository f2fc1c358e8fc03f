-- Trees of expressions with all their positions as one.
use Rattle.std.specs.Prelude.{List, map, option_map}
use Rattle.cw_tree.specs.declared.leaf.Position.{Position}
use Rattle.cw_tree.specs.declared.leaf.RawName.{RawName}
use Rattle.cw_tree.specs.declared.leaf.RawNumber.{RawNumber}
use Rattle.cw_tree.specs.declared.leaf.RawOctal.{RawOctal}
use Rattle.cw_tree.specs.declared.leaf.RawLiteral.{RawLiteral}
use Rattle.cw_tree.specs.declared.leaf.RawInt.{RawInt}
use Rattle.cw_tree.specs.declared.leaf.RawInt.TheVariants as int_tree
use Rattle.cw_tree.specs.declared.leaf.RawSint.{RawSint}
use Rattle.cw_tree.specs.declared.leaf.RawSize.{RawSize}
use Rattle.cw_tree.specs.declared.leaf.RawType.{RawType}
use Rattle.cw_tree.specs.declared.leaf.RawType.TheVariants as type_tree
use Rattle.cw_tree.specs.declared.leaf.RawSign.{RawSign}
use Rattle.cw_tree.specs.declared.leaf.RawFactorSign.{RawFactorSign}
use Rattle.cw_tree.specs.declared.leaf.RawCompareSign.{RawCompareSign}
use Rattle.cw_tree.specs.declared.expression.RawBits.{RawBits}
use Rattle.cw_tree.specs.declared.expression.RawExpr.TheOpen as layer
use Rattle.cw_tree.specs.declared.expression.RawExpr.TheOpen.{RawExpr-F, RawPrimary-F, RawRef-F, RawCand-F, RawCmp-F, RawCond-F, RawDiffer-F}
use Rattle.cw_tree.specs.declared.expression.RawExpr.TheOpen.{RawMask-F, RawPrim-F, RawSum-F, RawTerm-F, RawUnion-F}
use Rattle.cw_tree.specs.declared.expression.RawExpr.{RawExpr, roll-RawExpr, fold-RawExpr}
use Rattle.cw_tree.specs.declared.expression.RawPrimary.{RawPrimary, roll-RawPrimary, fold-RawPrimary}
use Rattle.cw_tree.specs.declared.expression.RawRef.{RawRef, roll-RawRef, fold-RawRef}
use Rattle.cw_tree.specs.declared.expression.RawCand.{RawCand, roll-RawCand, fold-RawCand}
use Rattle.cw_tree.specs.declared.expression.RawCmp.{RawCmp, roll-RawCmp, fold-RawCmp}
use Rattle.cw_tree.specs.declared.expression.RawCond.{RawCond, roll-RawCond, fold-RawCond}
use Rattle.cw_tree.specs.declared.expression.RawDiffer.{RawDiffer, roll-RawDiffer, fold-RawDiffer}
use Rattle.cw_tree.specs.declared.expression.RawMask.{RawMask, roll-RawMask, fold-RawMask}
use Rattle.cw_tree.specs.declared.expression.RawPrim.{RawPrim, roll-RawPrim, fold-RawPrim}
use Rattle.cw_tree.specs.declared.expression.RawSum.{RawSum, roll-RawSum, fold-RawSum}
use Rattle.cw_tree.specs.declared.expression.RawTerm.{RawTerm, roll-RawTerm, fold-RawTerm}
use Rattle.cw_tree.specs.declared.expression.RawUnion.{RawUnion, roll-RawUnion, fold-RawUnion}

-- the position that stands for each
abbrev pub nowhere : Position
nowhere = record { line = 0; token = 0 }

abbrev pub unplaced_name : RawName → RawName
unplaced_name n = record { at = nowhere; name = n.name }

abbrev pub unplaced_number : RawNumber → RawNumber
unplaced_number n = record { at = nowhere; number = n.number }

abbrev pub unplaced_octal : RawOctal → RawOctal
unplaced_octal o = record { at = nowhere; number = unplaced_number o.number }

abbrev pub unplaced_literal : RawLiteral → RawLiteral
unplaced_literal c = record { at = nowhere; byte = c.byte }

abbrev pub unplaced_int : RawInt → RawInt
unplaced_int (int_tree.Number n) = int_tree.Number (unplaced_number n)
unplaced_int (int_tree.Octal o) = int_tree.Octal (unplaced_octal o)

abbrev pub unplaced_sign : RawSign → RawSign
unplaced_sign s = record { at = nowhere; op = s.op }

abbrev pub unplaced_sint : RawSint → RawSint
unplaced_sint s = record { sign = option_map unplaced_sign s.sign; value = unplaced_int s.value }

abbrev pub unplaced_size : RawSize → RawSize
unplaced_size s = record { first = unplaced_int s.first; second = unplaced_int s.second }

abbrev pub unplaced_type : RawType → RawType
unplaced_type (type_tree.Integer at) = type_tree.Integer nowhere
unplaced_type (type_tree.Fixed at t f) = type_tree.Fixed nowhere (unplaced_int t) (unplaced_sint f)

abbrev pub unplaced_factor : RawFactorSign → RawFactorSign
unplaced_factor s = record { at = nowhere; op = s.op }

abbrev pub unplaced_compare : RawCompareSign → RawCompareSign
unplaced_compare s = record { at = nowhere; op = s.op }

abbrev pub unplaced_bits : RawBits → RawBits
unplaced_bits b = record { at = nowhere; size = unplaced_size b.size }

abbrev pub unplaced_all : List Position → List Position
unplaced_all = map (λ p. nowhere)

abbrev pub unplaced_expr_step : RawExpr-F RawExpr RawPrimary RawRef RawCand RawCmp RawCond RawDiffer RawMask RawPrim RawSum RawTerm RawUnion → RawExpr
unplaced_expr_step (layer.Choice at c a b) = roll-RawExpr (layer.Choice nowhere c a b)
unplaced_expr_step (layer.Sum x) = roll-RawExpr (layer.Sum x)

abbrev pub unplaced_primary_step : RawPrimary-F RawExpr RawPrimary RawRef RawCand RawCmp RawCond RawDiffer RawMask RawPrim RawSum RawTerm RawUnion → RawPrimary
unplaced_primary_step (layer.Number n) = roll-RawPrimary (layer.Number (unplaced_number n))
unplaced_primary_step (layer.Octal o) = roll-RawPrimary (layer.Octal (unplaced_octal o))
unplaced_primary_step (layer.Literal c) = roll-RawPrimary (layer.Literal (unplaced_literal c))
unplaced_primary_step (layer.Text at characters) = roll-RawPrimary (layer.Text nowhere characters)
unplaced_primary_step (layer.Location at r) = roll-RawPrimary (layer.Location nowhere r)
unplaced_primary_step (layer.Forced t e) = roll-RawPrimary (layer.Forced (unplaced_type t) e)
unplaced_primary_step (layer.Bracket at e) = roll-RawPrimary (layer.Bracket nowhere e)
unplaced_primary_step (layer.Ref r) = roll-RawPrimary (layer.Ref r)
unplaced_primary_step (layer.Call f xs) = roll-RawPrimary (layer.Call (unplaced_name f) xs)

abbrev pub unplaced_ref_step : RawRef-F RawExpr RawPrimary RawRef RawCand RawCmp RawCond RawDiffer RawMask RawPrim RawSum RawTerm RawUnion → RawRef
unplaced_ref_step (layer.Name f) = roll-RawRef (layer.Name (unplaced_name f))
unplaced_ref_step (layer.One f e) = roll-RawRef (layer.One (unplaced_name f) e)
unplaced_ref_step (layer.Two f e d) = roll-RawRef (layer.Two (unplaced_name f) e d)
unplaced_ref_step (layer.Bare at e) = roll-RawRef (layer.Bare nowhere e)

abbrev pub unplaced_cand_step : RawCand-F RawExpr RawPrimary RawRef RawCand RawCmp RawCond RawDiffer RawMask RawPrim RawSum RawTerm RawUnion → RawCand
unplaced_cand_step x = roll-RawCand (record { operands = x.operands; operators = unplaced_all x.operators })

abbrev pub unplaced_cond_step : RawCond-F RawExpr RawPrimary RawRef RawCand RawCmp RawCond RawDiffer RawMask RawPrim RawSum RawTerm RawUnion → RawCond
unplaced_cond_step x = roll-RawCond (record { operands = x.operands; operators = unplaced_all x.operators })

abbrev pub unplaced_differ_step : RawDiffer-F RawExpr RawPrimary RawRef RawCand RawCmp RawCond RawDiffer RawMask RawPrim RawSum RawTerm RawUnion → RawDiffer
unplaced_differ_step x = roll-RawDiffer (record { operands = x.operands; operators = unplaced_all x.operators })

abbrev pub unplaced_mask_step : RawMask-F RawExpr RawPrimary RawRef RawCand RawCmp RawCond RawDiffer RawMask RawPrim RawSum RawTerm RawUnion → RawMask
unplaced_mask_step x = roll-RawMask (record { operands = x.operands; operators = unplaced_all x.operators })

abbrev pub unplaced_union_step : RawUnion-F RawExpr RawPrimary RawRef RawCand RawCmp RawCond RawDiffer RawMask RawPrim RawSum RawTerm RawUnion → RawUnion
unplaced_union_step x = roll-RawUnion (record { operands = x.operands; operators = unplaced_all x.operators })

abbrev pub unplaced_cmp_step : RawCmp-F RawExpr RawPrimary RawRef RawCand RawCmp RawCond RawDiffer RawMask RawPrim RawSum RawTerm RawUnion → RawCmp
unplaced_cmp_step x = roll-RawCmp (record { left = x.left; operator = unplaced_compare x.operator; right = x.right })

abbrev pub unplaced_prim_step : RawPrim-F RawExpr RawPrimary RawRef RawCand RawCmp RawCond RawDiffer RawMask RawPrim RawSum RawTerm RawUnion → RawPrim
unplaced_prim_step x = roll-RawPrim (record { bits = map unplaced_bits x.bits; primary = x.primary })

abbrev pub unplaced_sum_step : RawSum-F RawExpr RawPrimary RawRef RawCand RawCmp RawCond RawDiffer RawMask RawPrim RawSum RawTerm RawUnion → RawSum
unplaced_sum_step x = roll-RawSum (record { sign = option_map unplaced_sign x.sign; operands = x.operands; operators = map unplaced_sign x.operators })

abbrev pub unplaced_term_step : RawTerm-F RawExpr RawPrimary RawRef RawCand RawCmp RawCond RawDiffer RawMask RawPrim RawSum RawTerm RawUnion → RawTerm
unplaced_term_step x = roll-RawTerm (record { operands = x.operands; operators = map unplaced_factor x.operators })

-- the tree with all positions as one
abbrev pub unplaced_expr : RawExpr → RawExpr
unplaced_expr = fold-RawExpr RawExpr RawPrimary RawRef RawCand RawCmp RawCond RawDiffer RawMask RawPrim RawSum RawTerm RawUnion
    unplaced_expr_step unplaced_primary_step unplaced_ref_step unplaced_cand_step unplaced_cmp_step
    unplaced_cond_step unplaced_differ_step unplaced_mask_step unplaced_prim_step unplaced_sum_step
    unplaced_term_step unplaced_union_step

abbrev pub unplaced_primary : RawPrimary → RawPrimary
unplaced_primary = fold-RawPrimary RawExpr RawPrimary RawRef RawCand RawCmp RawCond RawDiffer RawMask RawPrim RawSum RawTerm RawUnion
    unplaced_expr_step unplaced_primary_step unplaced_ref_step unplaced_cand_step unplaced_cmp_step
    unplaced_cond_step unplaced_differ_step unplaced_mask_step unplaced_prim_step unplaced_sum_step
    unplaced_term_step unplaced_union_step

abbrev pub unplaced_ref : RawRef → RawRef
unplaced_ref = fold-RawRef RawExpr RawPrimary RawRef RawCand RawCmp RawCond RawDiffer RawMask RawPrim RawSum RawTerm RawUnion
    unplaced_expr_step unplaced_primary_step unplaced_ref_step unplaced_cand_step unplaced_cmp_step
    unplaced_cond_step unplaced_differ_step unplaced_mask_step unplaced_prim_step unplaced_sum_step
    unplaced_term_step unplaced_union_step

abbrev pub unplaced_cand : RawCand → RawCand
unplaced_cand = fold-RawCand RawExpr RawPrimary RawRef RawCand RawCmp RawCond RawDiffer RawMask RawPrim RawSum RawTerm RawUnion
    unplaced_expr_step unplaced_primary_step unplaced_ref_step unplaced_cand_step unplaced_cmp_step
    unplaced_cond_step unplaced_differ_step unplaced_mask_step unplaced_prim_step unplaced_sum_step
    unplaced_term_step unplaced_union_step

abbrev pub unplaced_cmp : RawCmp → RawCmp
unplaced_cmp = fold-RawCmp RawExpr RawPrimary RawRef RawCand RawCmp RawCond RawDiffer RawMask RawPrim RawSum RawTerm RawUnion
    unplaced_expr_step unplaced_primary_step unplaced_ref_step unplaced_cand_step unplaced_cmp_step
    unplaced_cond_step unplaced_differ_step unplaced_mask_step unplaced_prim_step unplaced_sum_step
    unplaced_term_step unplaced_union_step

abbrev pub unplaced_cond : RawCond → RawCond
unplaced_cond = fold-RawCond RawExpr RawPrimary RawRef RawCand RawCmp RawCond RawDiffer RawMask RawPrim RawSum RawTerm RawUnion
    unplaced_expr_step unplaced_primary_step unplaced_ref_step unplaced_cand_step unplaced_cmp_step
    unplaced_cond_step unplaced_differ_step unplaced_mask_step unplaced_prim_step unplaced_sum_step
    unplaced_term_step unplaced_union_step

abbrev pub unplaced_differ : RawDiffer → RawDiffer
unplaced_differ = fold-RawDiffer RawExpr RawPrimary RawRef RawCand RawCmp RawCond RawDiffer RawMask RawPrim RawSum RawTerm RawUnion
    unplaced_expr_step unplaced_primary_step unplaced_ref_step unplaced_cand_step unplaced_cmp_step
    unplaced_cond_step unplaced_differ_step unplaced_mask_step unplaced_prim_step unplaced_sum_step
    unplaced_term_step unplaced_union_step

abbrev pub unplaced_mask : RawMask → RawMask
unplaced_mask = fold-RawMask RawExpr RawPrimary RawRef RawCand RawCmp RawCond RawDiffer RawMask RawPrim RawSum RawTerm RawUnion
    unplaced_expr_step unplaced_primary_step unplaced_ref_step unplaced_cand_step unplaced_cmp_step
    unplaced_cond_step unplaced_differ_step unplaced_mask_step unplaced_prim_step unplaced_sum_step
    unplaced_term_step unplaced_union_step

abbrev pub unplaced_prim : RawPrim → RawPrim
unplaced_prim = fold-RawPrim RawExpr RawPrimary RawRef RawCand RawCmp RawCond RawDiffer RawMask RawPrim RawSum RawTerm RawUnion
    unplaced_expr_step unplaced_primary_step unplaced_ref_step unplaced_cand_step unplaced_cmp_step
    unplaced_cond_step unplaced_differ_step unplaced_mask_step unplaced_prim_step unplaced_sum_step
    unplaced_term_step unplaced_union_step

abbrev pub unplaced_sum : RawSum → RawSum
unplaced_sum = fold-RawSum RawExpr RawPrimary RawRef RawCand RawCmp RawCond RawDiffer RawMask RawPrim RawSum RawTerm RawUnion
    unplaced_expr_step unplaced_primary_step unplaced_ref_step unplaced_cand_step unplaced_cmp_step
    unplaced_cond_step unplaced_differ_step unplaced_mask_step unplaced_prim_step unplaced_sum_step
    unplaced_term_step unplaced_union_step

abbrev pub unplaced_term : RawTerm → RawTerm
unplaced_term = fold-RawTerm RawExpr RawPrimary RawRef RawCand RawCmp RawCond RawDiffer RawMask RawPrim RawSum RawTerm RawUnion
    unplaced_expr_step unplaced_primary_step unplaced_ref_step unplaced_cand_step unplaced_cmp_step
    unplaced_cond_step unplaced_differ_step unplaced_mask_step unplaced_prim_step unplaced_sum_step
    unplaced_term_step unplaced_union_step

abbrev pub unplaced_union : RawUnion → RawUnion
unplaced_union = fold-RawUnion RawExpr RawPrimary RawRef RawCand RawCmp RawCond RawDiffer RawMask RawPrim RawSum RawTerm RawUnion
    unplaced_expr_step unplaced_primary_step unplaced_ref_step unplaced_cand_step unplaced_cmp_step
    unplaced_cond_step unplaced_differ_step unplaced_mask_step unplaced_prim_step unplaced_sum_step
    unplaced_term_step unplaced_union_step
