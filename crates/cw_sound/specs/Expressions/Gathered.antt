-- What is gathered over an expression: nothing of a leaf, and of each other part what its own parts give, together.
use Rattle.std.specs.Prelude.{List}
use Rattle.cw_tree.specs.declared.expression.RawExpr.{RawExpr, RawExpr-F, fold-RawExpr}
use Rattle.cw_tree.specs.declared.expression.RawExpr.TheOpen as layer
use Rattle.cw_tree.specs.declared.expression.RawExpr.TheOpen.{RawPrimary-F, RawRef-F, RawCand-F, RawCmp-F, RawCond-F, RawDiffer-F}
use Rattle.cw_tree.specs.declared.expression.RawExpr.TheOpen.{RawMask-F, RawPrim-F, RawSum-F, RawTerm-F, RawUnion-F}
use Rattle.cw_tree.specs.declared.expression.RawRef.{RawRef, fold-RawRef}
use Rattle.cw_tree.specs.declared.expression.RawCond.{RawCond, fold-RawCond}

-- nothing, two values together, and all of a list
pub record Gathering (A : Type 0) : Type 0 where
  pub nothing : A
  pub two : A → A → A
  pub all : List A → A

module _ {A : Type 0} (g : Gathering A) where
  abbrev pub primary_step : RawPrimary-F A A A A A A A A A A A A → A
  primary_step (layer.Location at r) = r
  primary_step (layer.Forced t e) = e
  primary_step (layer.Bracket at e) = e
  primary_step (layer.Ref r) = r
  primary_step (layer.Call n xs) = g.all xs
  primary_step _ = g.nothing

  abbrev pub reference_step : RawRef-F A A A A A A A A A A A A → A
  reference_step (layer.Name n) = g.nothing
  reference_step (layer.One n e) = e
  reference_step (layer.Two n e h) = g.two e h
  reference_step (layer.Bare at e) = e

  abbrev pub conjunction_step : RawCand-F A A A A A A A A A A A A → A
  conjunction_step e = g.all e.operands

  abbrev pub comparison_step : RawCmp-F A A A A A A A A A A A A → A
  comparison_step e = g.two e.left e.right

  abbrev pub condition_step : RawCond-F A A A A A A A A A A A A → A
  condition_step e = g.all e.operands

  abbrev pub differ_step : RawDiffer-F A A A A A A A A A A A A → A
  differ_step e = g.all e.operands

  abbrev pub mask_step : RawMask-F A A A A A A A A A A A A → A
  mask_step e = g.all e.operands

  abbrev pub prim_step : RawPrim-F A A A A A A A A A A A A → A
  prim_step e = e.primary

  abbrev pub sum_step : RawSum-F A A A A A A A A A A A A → A
  sum_step e = g.all e.operands

  abbrev pub term_step : RawTerm-F A A A A A A A A A A A A → A
  term_step e = g.all e.operands

  abbrev pub union_step : RawUnion-F A A A A A A A A A A A A → A
  union_step e = g.all e.operands

-- the folds, of which some steps may be others
module _ {A : Type 0} (g : Gathering A) (whole : RawExpr-F A A A A A A A A A A A A → A) (primary : RawPrimary-F A A A A A A A A A A A A → A) (sum : RawSum-F A A A A A A A A A A A A → A) (term : RawTerm-F A A A A A A A A A A A A → A) where
  abbrev pub expression_gathered : RawExpr → A
  expression_gathered = fold-RawExpr A A A A A A A A A A A A whole primary (reference_step g) (conjunction_step g) (comparison_step g) (condition_step g) (differ_step g) (mask_step g) (prim_step g) sum term (union_step g)

  abbrev pub reference_gathered : RawRef → A
  reference_gathered = fold-RawRef A A A A A A A A A A A A whole primary (reference_step g) (conjunction_step g) (comparison_step g) (condition_step g) (differ_step g) (mask_step g) (prim_step g) sum term (union_step g)

  abbrev pub condition_gathered : RawCond → A
  condition_gathered = fold-RawCond A A A A A A A A A A A A whole primary (reference_step g) (conjunction_step g) (comparison_step g) (condition_step g) (differ_step g) (mask_step g) (prim_step g) sum term (union_step g)
