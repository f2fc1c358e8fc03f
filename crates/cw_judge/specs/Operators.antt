-- The operators of an expression or condition, those inside its brackets, arguments and indexes among them, in order of the text: `+`, `-`,
-- `*`, `/`, comparisons, AND, OR, MASK, UNION, DIFFER and BITS. There are at most 1,024.
-- The limit is this project's profile.
use Rattle.std.specs.Prelude.{ℕ, zero, suc, List, [], ◌∷◌, ◌++◌, map, Option, Some, None, slice_get}
use Rattle.cw_tree.specs.declared.leaf.Position.{Position}
use Rattle.cw_tree.specs.declared.leaf.RawSign.{RawSign}
use Rattle.cw_tree.specs.declared.leaf.RawFactorSign.{RawFactorSign}
use Rattle.cw_tree.specs.declared.leaf.RawCompareSign.{RawCompareSign}
use Rattle.cw_tree.specs.declared.expression.RawBits.{RawBits}
use Rattle.cw_tree.specs.declared.expression.RawExpr.{RawExpr, RawExpr-F, fold-RawExpr}
use Rattle.cw_tree.specs.declared.expression.RawExpr.TheOpen as layer
use Rattle.cw_tree.specs.declared.expression.RawExpr.TheOpen.{RawPrimary-F, RawRef-F, RawCand-F, RawCmp-F, RawCond-F, RawDiffer-F}
use Rattle.cw_tree.specs.declared.expression.RawExpr.TheOpen.{RawMask-F, RawPrim-F, RawSum-F, RawTerm-F, RawUnion-F}
use Rattle.cw_tree.specs.declared.expression.RawPrimary.{RawPrimary, fold-RawPrimary}
use Rattle.cw_tree.specs.declared.expression.RawRef.{RawRef, fold-RawRef}
use Rattle.cw_tree.specs.declared.expression.RawCand.{RawCand, fold-RawCand}
use Rattle.cw_tree.specs.declared.expression.RawCmp.{RawCmp, fold-RawCmp}
use Rattle.cw_tree.specs.declared.expression.RawCond.{RawCond, fold-RawCond}
use Rattle.cw_tree.specs.declared.expression.RawDiffer.{RawDiffer, fold-RawDiffer}
use Rattle.cw_tree.specs.declared.expression.RawMask.{RawMask, fold-RawMask}
use Rattle.cw_tree.specs.declared.expression.RawPrim.{RawPrim, fold-RawPrim}
use Rattle.cw_tree.specs.declared.expression.RawSum.{RawSum, fold-RawSum}
use Rattle.cw_tree.specs.declared.expression.RawTerm.{RawTerm, fold-RawTerm}
use Rattle.cw_tree.specs.declared.expression.RawUnion.{RawUnion, fold-RawUnion}
use Rattle.cw_scale.specs.declared.fault.Rule.TheVariants as rule
use Rattle.cw_scale.specs.Faults.{Judgement, fine, wrong, both}
use Rattle.cw_judge.specs.declared.operators.Tally.{Tally}
use Rattle.cw_judge.specs.declared.operators.Tally.TheVariants as tally

abbrev pub Places : Type 0
Places = List Position

-- the operators of operands, with one operator behind each but the last
abbrev pub between : List Places → (operators : Places) → Places
between [] operators = []
between (x ∷ xs) [] = x ++ between xs []
between (x ∷ xs) (o ∷ os) = x ++ (o ∷ between xs os)

abbrev pub each : List Places → Places
each [] = []
each (x ∷ xs) = x ++ each xs

-- those of the indexes of a reference
abbrev pub together : List Places → Places
together [] = []
together (x ∷ []) = x
together (x ∷ y ∷ ys) = x ++ together (y ∷ ys)

abbrev pub sign_at : RawSign → Position
sign_at s = s.at

abbrev pub factor_sign_at : RawFactorSign → Position
factor_sign_at s = s.at

abbrev pub bits_at : RawBits → Position
bits_at b = b.at

abbrev pub sign_if : Option RawSign → Places
sign_if None = []
sign_if (Some s) = s.at ∷ []

abbrev pub expression_step : RawExpr-F Places Places (List Places) Places Places Places Places Places Places Places Places Places → Places
expression_step (layer.Choice at test a b) = test ++ (a ++ b)
expression_step (layer.Sum sum) = sum

abbrev pub primary_step : RawPrimary-F Places Places (List Places) Places Places Places Places Places Places Places Places Places → Places
primary_step (layer.Number n) = []
primary_step (layer.Octal n) = []
primary_step (layer.Literal c) = []
primary_step (layer.Text at cs) = []
primary_step (layer.Location at r) = together r
primary_step (layer.Forced t e) = e
primary_step (layer.Bracket at e) = e
primary_step (layer.Ref r) = together r
primary_step (layer.Call n xs) = each xs

-- those of each index
abbrev pub reference_step : RawRef-F Places Places (List Places) Places Places Places Places Places Places Places Places Places → List Places
reference_step (layer.Name n) = []
reference_step (layer.One n i) = i ∷ []
reference_step (layer.Two n i j) = i ∷ j ∷ []
reference_step (layer.Bare at e) = e ∷ []

abbrev pub conjunction_step : RawCand-F Places Places (List Places) Places Places Places Places Places Places Places Places Places → Places
conjunction_step c = between c.operands c.operators

abbrev pub comparison_step : RawCmp-F Places Places (List Places) Places Places Places Places Places Places Places Places Places → Places
comparison_step c = c.left ++ (c.operator.at ∷ c.right)

abbrev pub condition_step : RawCond-F Places Places (List Places) Places Places Places Places Places Places Places Places Places → Places
condition_step c = between c.operands c.operators

abbrev pub differ_step : RawDiffer-F Places Places (List Places) Places Places Places Places Places Places Places Places Places → Places
differ_step e = between e.operands e.operators

abbrev pub mask_step : RawMask-F Places Places (List Places) Places Places Places Places Places Places Places Places Places → Places
mask_step e = between e.operands e.operators

abbrev pub prim_step : RawPrim-F Places Places (List Places) Places Places Places Places Places Places Places Places Places → Places
prim_step e = map bits_at e.bits ++ e.primary

abbrev pub sum_step : RawSum-F Places Places (List Places) Places Places Places Places Places Places Places Places Places → Places
sum_step e = sign_if e.sign ++ between e.operands (map sign_at e.operators)

abbrev pub term_step : RawTerm-F Places Places (List Places) Places Places Places Places Places Places Places Places Places → Places
term_step e = between e.operands (map factor_sign_at e.operators)

abbrev pub union_step : RawUnion-F Places Places (List Places) Places Places Places Places Places Places Places Places Places → Places
union_step e = between e.operands e.operators

abbrev pub expression_operators : RawExpr → Places
expression_operators = fold-RawExpr Places Places (List Places) Places Places Places Places Places Places Places
    Places Places expression_step primary_step reference_step conjunction_step comparison_step condition_step
    differ_step mask_step prim_step sum_step term_step union_step

abbrev pub primary_operators : RawPrimary → Places
primary_operators = fold-RawPrimary Places Places (List Places) Places Places Places Places Places Places Places
    Places Places expression_step primary_step reference_step conjunction_step comparison_step condition_step
    differ_step mask_step prim_step sum_step term_step union_step

abbrev pub reference_operators : RawRef → List Places
reference_operators = fold-RawRef Places Places (List Places) Places Places Places Places Places Places Places Places
    Places expression_step primary_step reference_step conjunction_step comparison_step condition_step differ_step
    mask_step prim_step sum_step term_step union_step

abbrev pub conjunction_operators : RawCand → Places
conjunction_operators = fold-RawCand Places Places (List Places) Places Places Places Places Places Places Places
    Places Places expression_step primary_step reference_step conjunction_step comparison_step condition_step
    differ_step mask_step prim_step sum_step term_step union_step

abbrev pub comparison_operators : RawCmp → Places
comparison_operators = fold-RawCmp Places Places (List Places) Places Places Places Places Places Places Places
    Places Places expression_step primary_step reference_step conjunction_step comparison_step condition_step
    differ_step mask_step prim_step sum_step term_step union_step

abbrev pub condition_operators : RawCond → Places
condition_operators = fold-RawCond Places Places (List Places) Places Places Places Places Places Places Places
    Places Places expression_step primary_step reference_step conjunction_step comparison_step condition_step
    differ_step mask_step prim_step sum_step term_step union_step

abbrev pub differ_operators : RawDiffer → Places
differ_operators = fold-RawDiffer Places Places (List Places) Places Places Places Places Places Places Places Places
    Places expression_step primary_step reference_step conjunction_step comparison_step condition_step differ_step
    mask_step prim_step sum_step term_step union_step

abbrev pub mask_operators : RawMask → Places
mask_operators = fold-RawMask Places Places (List Places) Places Places Places Places Places Places Places Places
    Places expression_step primary_step reference_step conjunction_step comparison_step condition_step differ_step
    mask_step prim_step sum_step term_step union_step

abbrev pub prim_operators : RawPrim → Places
prim_operators = fold-RawPrim Places Places (List Places) Places Places Places Places Places Places Places Places
    Places expression_step primary_step reference_step conjunction_step comparison_step condition_step differ_step
    mask_step prim_step sum_step term_step union_step

abbrev pub sum_operators : RawSum → Places
sum_operators = fold-RawSum Places Places (List Places) Places Places Places Places Places Places Places Places
    Places expression_step primary_step reference_step conjunction_step comparison_step condition_step differ_step
    mask_step prim_step sum_step term_step union_step

abbrev pub term_operators : RawTerm → Places
term_operators = fold-RawTerm Places Places (List Places) Places Places Places Places Places Places Places Places
    Places expression_step primary_step reference_step conjunction_step comparison_step condition_step differ_step
    mask_step prim_step sum_step term_step union_step

abbrev pub union_operators : RawUnion → Places
union_operators = fold-RawUnion Places Places (List Places) Places Places Places Places Places Places Places Places
    Places expression_step primary_step reference_step conjunction_step comparison_step condition_step differ_step
    mask_step prim_step sum_step term_step union_step

-- ---- at most 1,024: the 1,025th is one too many

abbrev pub too_many_if : Option Position → Judgement
too_many_if None = fine
too_many_if (Some at) = wrong rule.TooMany at

abbrev pub few_operators : Places → Judgement
few_operators operators = too_many_if (slice_get operators 1024)

abbrev pub few_each : List Places → Judgement
few_each [] = fine
few_each (x ∷ xs) = both (few_operators x) (few_each xs)

-- ---- the same counted one by one: how many may still come, or the first that is one too many

abbrev pub one_counted : Position → Tally → Tally
one_counted at (tally.TooMany extra) = tally.TooMany extra
one_counted at (tally.Left zero) = tally.TooMany at
one_counted at (tally.Left (suc left)) = tally.Left left

abbrev pub counted : Places → Tally → Tally
counted [] t = t
counted (at ∷ rest) t = counted rest (one_counted at t)

-- the operator behind an operand, if there is one, and those behind it
abbrev pub first_if : Places → Places
first_if [] = []
first_if (o ∷ os) = o ∷ []

abbrev pub others : {A : Type 0} → List A → List A
others [] = []
others (x ∷ xs) = xs

abbrev pub tally_judged : Tally → Judgement
tally_judged (tally.Left left) = fine
tally_judged (tally.TooMany at) = wrong rule.TooMany at
