-- The strings of expressions, in order of the text: each holds its length and its characters.
-- Official Definition of CORAL 66, "Strings". The layout of a string is this project's profile.
use Rattle.std.specs.Prelude.{ℕ, min, List, [], ◌∷◌, ◌++◌, length, map}
use Rattle.cw_table.specs.declared.table.Row.{Row}
use Rattle.cw_tree.specs.declared.expression.RawExpr.{RawExpr, RawExpr-F, fold-RawExpr}
use Rattle.cw_tree.specs.declared.expression.RawExpr.TheOpen as layer
use Rattle.cw_tree.specs.declared.expression.RawExpr.TheOpen.{RawPrimary-F, RawRef-F, RawCand-F, RawCmp-F, RawCond-F, RawDiffer-F}
use Rattle.cw_tree.specs.declared.expression.RawExpr.TheOpen.{RawMask-F, RawPrim-F, RawSum-F, RawTerm-F, RawUnion-F}
use Rattle.cw_tree.specs.declared.expression.RawPrimary.{RawPrimary, fold-RawPrimary}
use Rattle.cw_tree.specs.declared.expression.RawRef.{RawRef, fold-RawRef}
use Rattle.cw_tree.specs.declared.expression.RawCand.{RawCand, fold-RawCand}
use Rattle.cw_tree.specs.declared.expression.RawCmp.{RawCmp, fold-RawCmp}
use Rattle.cw_tree.specs.declared.expression.RawCond.{RawCond, fold-RawCond}
use Rattle.cw_tree.specs.declared.expression.RawDiffer.{RawDiffer, fold-RawDiffer}
use Rattle.cw_tree.specs.declared.expression.RawMask.{RawMask, fold-RawMask}
use Rattle.cw_tree.specs.declared.expression.RawPrim.{RawPrim, fold-RawPrim}
use Rattle.cw_tree.specs.declared.expression.RawSum.{RawSum, fold-RawSum}
use Rattle.cw_tree.specs.declared.expression.RawTerm.{RawTerm, fold-RawTerm}
use Rattle.cw_tree.specs.declared.expression.RawUnion.{RawUnion, fold-RawUnion}
use Rattle.cw_make_items.specs.number.Numbers.{next_short}

-- words that are held at the start, each with its offset
abbrev pub Words : Type 0
Words = List (ℕ × ℕ)

-- those of items, by tokens
abbrev pub Rows : Type 0
Rows = List (Row Words)

abbrev pub joined : List Rows → Rows
joined [] = []
joined (r ∷ rs) = r ++ joined rs

abbrev pub characters_from : (offset : ℕ) → List ℕ → Words
characters_from o [] = []
characters_from o (c ∷ cs) = (o, c) ∷ characters_from (next_short o) cs

abbrev pub string_words : List ℕ → Words
string_words cs = (0, min (length cs) 65535) ∷ characters_from 1 cs

abbrev pub expression_step : RawExpr-F Rows Rows Rows Rows Rows Rows Rows Rows Rows Rows Rows Rows → Rows
expression_step (layer.Choice at test first second) = test ++ (first ++ second)
expression_step (layer.Sum sum) = sum

abbrev pub primary_step : RawPrimary-F Rows Rows Rows Rows Rows Rows Rows Rows Rows Rows Rows Rows → Rows
primary_step (layer.Number n) = []
primary_step (layer.Octal n) = []
primary_step (layer.Literal c) = []
primary_step (layer.Text at cs) = record { token = at.token; item = string_words cs } ∷ []
primary_step (layer.Location at reference) = reference
primary_step (layer.Forced type e) = e
primary_step (layer.Bracket at e) = e
primary_step (layer.Ref reference) = reference
primary_step (layer.Call name arguments) = joined arguments

abbrev pub reference_step : RawRef-F Rows Rows Rows Rows Rows Rows Rows Rows Rows Rows Rows Rows → Rows
reference_step (layer.Name name) = []
reference_step (layer.One name e) = e
reference_step (layer.Two name e g) = e ++ g
reference_step (layer.Bare at e) = e

abbrev pub conjunction_step : RawCand-F Rows Rows Rows Rows Rows Rows Rows Rows Rows Rows Rows Rows → Rows
conjunction_step c = joined c.operands

abbrev pub comparison_step : RawCmp-F Rows Rows Rows Rows Rows Rows Rows Rows Rows Rows Rows Rows → Rows
comparison_step c = c.left ++ c.right

abbrev pub condition_step : RawCond-F Rows Rows Rows Rows Rows Rows Rows Rows Rows Rows Rows Rows → Rows
condition_step c = joined c.operands

abbrev pub differ_step : RawDiffer-F Rows Rows Rows Rows Rows Rows Rows Rows Rows Rows Rows Rows → Rows
differ_step e = joined e.operands

abbrev pub mask_step : RawMask-F Rows Rows Rows Rows Rows Rows Rows Rows Rows Rows Rows Rows → Rows
mask_step e = joined e.operands

abbrev pub prim_step : RawPrim-F Rows Rows Rows Rows Rows Rows Rows Rows Rows Rows Rows Rows → Rows
prim_step e = e.primary

abbrev pub sum_step : RawSum-F Rows Rows Rows Rows Rows Rows Rows Rows Rows Rows Rows Rows → Rows
sum_step e = joined e.operands

abbrev pub term_step : RawTerm-F Rows Rows Rows Rows Rows Rows Rows Rows Rows Rows Rows Rows → Rows
term_step e = joined e.operands

abbrev pub union_step : RawUnion-F Rows Rows Rows Rows Rows Rows Rows Rows Rows Rows Rows Rows → Rows
union_step e = joined e.operands

abbrev pub expression_rows : RawExpr → Rows
expression_rows =
    fold-RawExpr Rows Rows Rows Rows Rows Rows Rows Rows Rows Rows Rows Rows expression_step primary_step
    reference_step conjunction_step comparison_step condition_step differ_step mask_step prim_step sum_step
    term_step union_step

abbrev pub primary_rows : RawPrimary → Rows
primary_rows =
    fold-RawPrimary Rows Rows Rows Rows Rows Rows Rows Rows Rows Rows Rows Rows expression_step primary_step
    reference_step conjunction_step comparison_step condition_step differ_step mask_step prim_step sum_step
    term_step union_step

abbrev pub reference_rows : RawRef → Rows
reference_rows =
    fold-RawRef Rows Rows Rows Rows Rows Rows Rows Rows Rows Rows Rows Rows expression_step primary_step
    reference_step conjunction_step comparison_step condition_step differ_step mask_step prim_step sum_step
    term_step union_step

abbrev pub conjunction_rows : RawCand → Rows
conjunction_rows =
    fold-RawCand Rows Rows Rows Rows Rows Rows Rows Rows Rows Rows Rows Rows expression_step primary_step
    reference_step conjunction_step comparison_step condition_step differ_step mask_step prim_step sum_step
    term_step union_step

abbrev pub comparison_rows : RawCmp → Rows
comparison_rows =
    fold-RawCmp Rows Rows Rows Rows Rows Rows Rows Rows Rows Rows Rows Rows expression_step primary_step
    reference_step conjunction_step comparison_step condition_step differ_step mask_step prim_step sum_step
    term_step union_step

abbrev pub condition_rows : RawCond → Rows
condition_rows =
    fold-RawCond Rows Rows Rows Rows Rows Rows Rows Rows Rows Rows Rows Rows expression_step primary_step
    reference_step conjunction_step comparison_step condition_step differ_step mask_step prim_step sum_step
    term_step union_step

abbrev pub differ_rows : RawDiffer → Rows
differ_rows =
    fold-RawDiffer Rows Rows Rows Rows Rows Rows Rows Rows Rows Rows Rows Rows expression_step primary_step
    reference_step conjunction_step comparison_step condition_step differ_step mask_step prim_step sum_step
    term_step union_step

abbrev pub mask_rows : RawMask → Rows
mask_rows =
    fold-RawMask Rows Rows Rows Rows Rows Rows Rows Rows Rows Rows Rows Rows expression_step primary_step
    reference_step conjunction_step comparison_step condition_step differ_step mask_step prim_step sum_step
    term_step union_step

abbrev pub prim_rows : RawPrim → Rows
prim_rows =
    fold-RawPrim Rows Rows Rows Rows Rows Rows Rows Rows Rows Rows Rows Rows expression_step primary_step
    reference_step conjunction_step comparison_step condition_step differ_step mask_step prim_step sum_step
    term_step union_step

abbrev pub sum_rows : RawSum → Rows
sum_rows =
    fold-RawSum Rows Rows Rows Rows Rows Rows Rows Rows Rows Rows Rows Rows expression_step primary_step
    reference_step conjunction_step comparison_step condition_step differ_step mask_step prim_step sum_step
    term_step union_step

abbrev pub term_rows : RawTerm → Rows
term_rows =
    fold-RawTerm Rows Rows Rows Rows Rows Rows Rows Rows Rows Rows Rows Rows expression_step primary_step
    reference_step conjunction_step comparison_step condition_step differ_step mask_step prim_step sum_step
    term_step union_step

abbrev pub union_rows : RawUnion → Rows
union_rows =
    fold-RawUnion Rows Rows Rows Rows Rows Rows Rows Rows Rows Rows Rows Rows expression_step primary_step
    reference_step conjunction_step comparison_step condition_step differ_step mask_step prim_step sum_step
    term_step union_step

abbrev pub argument_rows : List RawExpr → Rows
argument_rows es = joined (map expression_rows es)
