-- The uses of names in an expression, each with how the name is used, and its strings, in order of the text.
use Rattle.std.specs.Prelude.{◌==◌, List, [], ◌∷◌, ◌++◌, length, map, Bool, true, false, ◌&&◌, is_none}
use Rattle.cw_tree.specs.declared.leaf.RawName.{RawName}
use Rattle.cw_tree.specs.declared.expression.RawExpr.{RawExpr, RawExpr-F, fold-RawExpr}
use Rattle.cw_tree.specs.declared.expression.RawExpr.TheOpen as layer
use Rattle.cw_tree.specs.declared.expression.RawExpr.TheOpen.{RawPrimary-F, RawRef-F, RawCand-F, RawCmp-F, RawCond-F, RawDiffer-F}
use Rattle.cw_tree.specs.declared.expression.RawExpr.TheOpen.{RawMask-F, RawPrim-F, RawSum-F, RawTerm-F, RawUnion-F}
use Rattle.cw_tree.specs.declared.expression.RawPrimary.{RawPrimary, fold-RawPrimary}
use Rattle.cw_tree.specs.declared.expression.RawRef.{RawRef, fold-RawRef}
use Rattle.cw_tree.specs.declared.expression.RawCand.{RawCand, fold-RawCand}
use Rattle.cw_tree.specs.declared.expression.RawCmp.{RawCmp, fold-RawCmp}
use Rattle.cw_tree.specs.declared.expression.RawCond.{RawCond, fold-RawCond}
use Rattle.cw_tree.specs.declared.expression.RawDiffer.{RawDiffer, fold-RawDiffer}
use Rattle.cw_tree.specs.declared.expression.RawMask.{RawMask, fold-RawMask}
use Rattle.cw_tree.specs.declared.expression.RawPrim.{RawPrim, fold-RawPrim}
use Rattle.cw_tree.specs.declared.expression.RawSum.{RawSum, fold-RawSum}
use Rattle.cw_tree.specs.declared.expression.RawTerm.{RawTerm, fold-RawTerm}
use Rattle.cw_tree.specs.declared.expression.RawUnion.{RawUnion, fold-RawUnion}
use Rattle.cw_facts.specs.declared.fact.Fact.{Fact}
use Rattle.cw_facts.specs.declared.fact.Fact.TheVariants as fact
use Rattle.cw_facts.specs.declared.fact.Form.{Form}
use Rattle.cw_facts.specs.declared.fact.Form.TheVariants as form
use Rattle.cw_facts.specs.declared.fact.Reading.{Reading}
use Rattle.cw_facts.specs.declared.fact.Reading.TheVariants as reading

-- the uses of a part, by what it is wanted for
abbrev pub Uses : Type 0
Uses = Reading → List Fact

abbrev pub uses_of : RawName → Form → List Fact
uses_of n f = fact.Uses (record { name = n; form = f }) ∷ []

-- an operand that stands alone is wanted for what the whole is, others for their values
abbrev pub reading_of : Reading → (alone : Bool) → Reading
reading_of r true = r
reading_of r false = reading.Value

-- a name with an index is no whole argument
abbrev pub indexed : Reading → Reading
indexed reading.Argument = reading.Value
indexed reading.Value = reading.Value
indexed reading.Target = reading.Target
indexed reading.Whole = reading.Whole

-- the uses of parts that are all wanted for the same
abbrev pub each_for : Reading → List Uses → List Fact
each_for r [] = []
each_for r (part ∷ parts) = part r ++ each_for r parts

abbrev pub operands_for : Reading → List Uses → List Fact
operands_for r parts = each_for (reading_of r (length parts == 1)) parts

abbrev pub expression_step : RawExpr-F Uses Uses Uses Uses Uses Uses Uses Uses Uses Uses Uses Uses → Uses
expression_step (layer.Choice at test first second) r = test reading.Value ++ (first reading.Value ++ second reading.Value)
expression_step (layer.Sum sum) r = sum r

abbrev pub primary_step : RawPrimary-F Uses Uses Uses Uses Uses Uses Uses Uses Uses Uses Uses Uses → Uses
primary_step (layer.Number n) r = []
primary_step (layer.Octal n) r = []
primary_step (layer.Literal c) r = []
primary_step (layer.Text at cs) r = fact.Text at (length cs) ∷ []
primary_step (layer.Location at reference) r = reference reading.Whole
primary_step (layer.Forced type e) r = e reading.Value
primary_step (layer.Bracket at e) r = e reading.Value
primary_step (layer.Ref reference) r = reference r
primary_step (layer.Call name arguments) r = uses_of name form.CallValue ++ each_for reading.Argument arguments

abbrev pub reference_step : RawRef-F Uses Uses Uses Uses Uses Uses Uses Uses Uses Uses Uses Uses → Uses
reference_step (layer.Name name) r = uses_of name (form.Reference r 0)
reference_step (layer.One name e) r = uses_of name (form.Reference (indexed r) 1) ++ e reading.Value
reference_step (layer.Two name e g) r = uses_of name (form.Reference (indexed r) 2) ++ (e reading.Value ++ g reading.Value)
reference_step (layer.Bare at e) r = e reading.Value

abbrev pub conjunction_step : RawCand-F Uses Uses Uses Uses Uses Uses Uses Uses Uses Uses Uses Uses → Uses
conjunction_step c r = each_for reading.Value c.operands

abbrev pub comparison_step : RawCmp-F Uses Uses Uses Uses Uses Uses Uses Uses Uses Uses Uses Uses → Uses
comparison_step c r = c.left reading.Value ++ c.right reading.Value

abbrev pub condition_step : RawCond-F Uses Uses Uses Uses Uses Uses Uses Uses Uses Uses Uses Uses → Uses
condition_step c r = each_for reading.Value c.operands

abbrev pub differ_step : RawDiffer-F Uses Uses Uses Uses Uses Uses Uses Uses Uses Uses Uses Uses → Uses
differ_step e r = operands_for r e.operands

abbrev pub mask_step : RawMask-F Uses Uses Uses Uses Uses Uses Uses Uses Uses Uses Uses Uses → Uses
mask_step e r = operands_for r e.operands

abbrev pub prim_step : RawPrim-F Uses Uses Uses Uses Uses Uses Uses Uses Uses Uses Uses Uses → Uses
prim_step e r = e.primary (reading_of r (length e.bits == 0))

-- a sign makes a value
abbrev pub sum_step : RawSum-F Uses Uses Uses Uses Uses Uses Uses Uses Uses Uses Uses Uses → Uses
sum_step e r = each_for (reading_of r (length e.operands == 1 && is_none e.sign)) e.operands

abbrev pub term_step : RawTerm-F Uses Uses Uses Uses Uses Uses Uses Uses Uses Uses Uses Uses → Uses
term_step e r = operands_for r e.operands

abbrev pub union_step : RawUnion-F Uses Uses Uses Uses Uses Uses Uses Uses Uses Uses Uses Uses → Uses
union_step e r = operands_for r e.operands

abbrev pub expression_uses : RawExpr → Uses
expression_uses =
    fold-RawExpr Uses Uses Uses Uses Uses Uses Uses Uses Uses Uses Uses Uses expression_step primary_step
    reference_step conjunction_step comparison_step condition_step differ_step mask_step prim_step sum_step
    term_step union_step

abbrev pub primary_uses : RawPrimary → Uses
primary_uses =
    fold-RawPrimary Uses Uses Uses Uses Uses Uses Uses Uses Uses Uses Uses Uses expression_step primary_step
    reference_step conjunction_step comparison_step condition_step differ_step mask_step prim_step sum_step
    term_step union_step

abbrev pub reference_uses : RawRef → Uses
reference_uses =
    fold-RawRef Uses Uses Uses Uses Uses Uses Uses Uses Uses Uses Uses Uses expression_step primary_step
    reference_step conjunction_step comparison_step condition_step differ_step mask_step prim_step sum_step
    term_step union_step

abbrev pub conjunction_uses : RawCand → Uses
conjunction_uses =
    fold-RawCand Uses Uses Uses Uses Uses Uses Uses Uses Uses Uses Uses Uses expression_step primary_step
    reference_step conjunction_step comparison_step condition_step differ_step mask_step prim_step sum_step
    term_step union_step

abbrev pub comparison_uses : RawCmp → Uses
comparison_uses =
    fold-RawCmp Uses Uses Uses Uses Uses Uses Uses Uses Uses Uses Uses Uses expression_step primary_step
    reference_step conjunction_step comparison_step condition_step differ_step mask_step prim_step sum_step
    term_step union_step

abbrev pub condition_uses : RawCond → Uses
condition_uses =
    fold-RawCond Uses Uses Uses Uses Uses Uses Uses Uses Uses Uses Uses Uses expression_step primary_step
    reference_step conjunction_step comparison_step condition_step differ_step mask_step prim_step sum_step
    term_step union_step

abbrev pub differ_uses : RawDiffer → Uses
differ_uses =
    fold-RawDiffer Uses Uses Uses Uses Uses Uses Uses Uses Uses Uses Uses Uses expression_step primary_step
    reference_step conjunction_step comparison_step condition_step differ_step mask_step prim_step sum_step
    term_step union_step

abbrev pub mask_uses : RawMask → Uses
mask_uses =
    fold-RawMask Uses Uses Uses Uses Uses Uses Uses Uses Uses Uses Uses Uses expression_step primary_step
    reference_step conjunction_step comparison_step condition_step differ_step mask_step prim_step sum_step
    term_step union_step

abbrev pub prim_uses : RawPrim → Uses
prim_uses =
    fold-RawPrim Uses Uses Uses Uses Uses Uses Uses Uses Uses Uses Uses Uses expression_step primary_step
    reference_step conjunction_step comparison_step condition_step differ_step mask_step prim_step sum_step
    term_step union_step

abbrev pub sum_uses : RawSum → Uses
sum_uses =
    fold-RawSum Uses Uses Uses Uses Uses Uses Uses Uses Uses Uses Uses Uses expression_step primary_step
    reference_step conjunction_step comparison_step condition_step differ_step mask_step prim_step sum_step
    term_step union_step

abbrev pub term_uses : RawTerm → Uses
term_uses =
    fold-RawTerm Uses Uses Uses Uses Uses Uses Uses Uses Uses Uses Uses Uses expression_step primary_step
    reference_step conjunction_step comparison_step condition_step differ_step mask_step prim_step sum_step
    term_step union_step

abbrev pub union_uses : RawUnion → Uses
union_uses =
    fold-RawUnion Uses Uses Uses Uses Uses Uses Uses Uses Uses Uses Uses Uses expression_step primary_step
    reference_step conjunction_step comparison_step condition_step differ_step mask_step prim_step sum_step
    term_step union_step

abbrev pub argument_uses : List RawExpr → List Fact
argument_uses es = each_for reading.Argument (map expression_uses es)
