-- Expressions by their first layers.
use Rattle.std.proofs.Common.{Option, Some, None}
use Rattle.cw_tree.specs.declared.expression.RawExpr.{RawExpr}
use Rattle.cw_tree.specs.declared.expression.RawPrimary.{RawPrimary}
use Rattle.cw_tree.specs.declared.expression.RawRef.{RawRef}
use Rattle.cw_tree.specs.declared.expression.RawCand.{RawCand}
use Rattle.cw_tree.specs.declared.expression.RawCmp.{RawCmp}
use Rattle.cw_tree.specs.declared.expression.RawCond.{RawCond}
use Rattle.cw_tree.specs.declared.expression.RawDiffer.{RawDiffer}
use Rattle.cw_tree.specs.declared.expression.RawMask.{RawMask}
use Rattle.cw_tree.specs.declared.expression.RawPrim.{RawPrim}
use Rattle.cw_tree.specs.declared.expression.RawSum.{RawSum}
use Rattle.cw_tree.specs.declared.expression.RawTerm.{RawTerm}
use Rattle.cw_tree.specs.declared.expression.RawUnion.{RawUnion}
use Rattle.cw_tree.specs.declared.expression.RawExpr.TheOpen as layer
use Rattle.cw_tree.specs.declared.expression.RawExpr.TheOpen.{RawExpr-F, RawPrimary-F, RawRef-F, RawCand-F, RawCmp-F, RawCond-F, RawDiffer-F, RawMask-F, RawPrim-F, RawSum-F, RawTerm-F, RawUnion-F}

-- a layer of trees

abbrev pub ExprLayer : Type 0
ExprLayer = RawExpr-F RawExpr RawPrimary RawRef RawCand RawCmp RawCond RawDiffer RawMask RawPrim RawSum RawTerm RawUnion

abbrev pub PrimaryLayer : Type 0
PrimaryLayer = RawPrimary-F RawExpr RawPrimary RawRef RawCand RawCmp RawCond RawDiffer RawMask RawPrim RawSum RawTerm RawUnion

abbrev pub RefLayer : Type 0
RefLayer = RawRef-F RawExpr RawPrimary RawRef RawCand RawCmp RawCond RawDiffer RawMask RawPrim RawSum RawTerm RawUnion

abbrev pub CandLayer : Type 0
CandLayer = RawCand-F RawExpr RawPrimary RawRef RawCand RawCmp RawCond RawDiffer RawMask RawPrim RawSum RawTerm RawUnion

abbrev pub CmpLayer : Type 0
CmpLayer = RawCmp-F RawExpr RawPrimary RawRef RawCand RawCmp RawCond RawDiffer RawMask RawPrim RawSum RawTerm RawUnion

abbrev pub CondLayer : Type 0
CondLayer = RawCond-F RawExpr RawPrimary RawRef RawCand RawCmp RawCond RawDiffer RawMask RawPrim RawSum RawTerm RawUnion

abbrev pub DifferLayer : Type 0
DifferLayer = RawDiffer-F RawExpr RawPrimary RawRef RawCand RawCmp RawCond RawDiffer RawMask RawPrim RawSum RawTerm RawUnion

abbrev pub MaskLayer : Type 0
MaskLayer = RawMask-F RawExpr RawPrimary RawRef RawCand RawCmp RawCond RawDiffer RawMask RawPrim RawSum RawTerm RawUnion

abbrev pub PrimLayer : Type 0
PrimLayer = RawPrim-F RawExpr RawPrimary RawRef RawCand RawCmp RawCond RawDiffer RawMask RawPrim RawSum RawTerm RawUnion

abbrev pub SumLayer : Type 0
SumLayer = RawSum-F RawExpr RawPrimary RawRef RawCand RawCmp RawCond RawDiffer RawMask RawPrim RawSum RawTerm RawUnion

abbrev pub TermLayer : Type 0
TermLayer = RawTerm-F RawExpr RawPrimary RawRef RawCand RawCmp RawCond RawDiffer RawMask RawPrim RawSum RawTerm RawUnion

abbrev pub UnionLayer : Type 0
UnionLayer = RawUnion-F RawExpr RawPrimary RawRef RawCand RawCmp RawCond RawDiffer RawMask RawPrim RawSum RawTerm RawUnion

-- what stands in the bracket, where the layer is one
abbrev pub held : PrimaryLayer → Option RawExpr
held (layer.Bracket at e) = Some e
held _ = None
