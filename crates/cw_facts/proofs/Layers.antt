-- The uses of a part of an expression, by what the part consists of.
use Rattle.std.proofs.Common.{◌≡◌, ◌==◌, ◌&&◌, is_none, ℕ, List, [], ◌∷◌, ◌++◌, length, map, ap}
use Rattle.cw_tree.specs.declared.leaf.Position.{Position}
use Rattle.cw_tree.specs.declared.leaf.RawLiteral.{RawLiteral}
use Rattle.cw_tree.specs.declared.leaf.RawName.{RawName}
use Rattle.cw_tree.specs.declared.leaf.RawNumber.{RawNumber}
use Rattle.cw_tree.specs.declared.leaf.RawOctal.{RawOctal}
use Rattle.cw_tree.specs.declared.leaf.RawType.{RawType}
use Rattle.cw_tree.specs.declared.expression.RawExpr.TheVariants as expr
use Rattle.cw_tree.specs.declared.expression.RawPrimary.TheVariants as primary
use Rattle.cw_tree.specs.declared.expression.RawRef.TheVariants as ref
use Rattle.cw_tree.specs.declared.expression.RawExpr.{RawExpr}
use Rattle.cw_tree.specs.declared.expression.RawRef.{RawRef}
use Rattle.cw_tree.specs.declared.expression.RawCand.{RawCand, out-RawCand}
use Rattle.cw_tree.specs.declared.expression.RawCmp.{RawCmp, out-RawCmp}
use Rattle.cw_tree.specs.declared.expression.RawCond.{RawCond, out-RawCond}
use Rattle.cw_tree.specs.declared.expression.RawDiffer.{RawDiffer, out-RawDiffer}
use Rattle.cw_tree.specs.declared.expression.RawMask.{RawMask, out-RawMask}
use Rattle.cw_tree.specs.declared.expression.RawPrim.{RawPrim, out-RawPrim}
use Rattle.cw_tree.specs.declared.expression.RawSum.{RawSum, out-RawSum}
use Rattle.cw_tree.specs.declared.expression.RawTerm.{RawTerm, out-RawTerm}
use Rattle.cw_tree.specs.declared.expression.RawUnion.{RawUnion, out-RawUnion}
use Rattle.cw_tree.proofs.Expressions.{ExpressionSteps, expression_steps, of_expression-Choice, of_expression-Sum, of_primary-Number, of_primary-Octal, of_primary-Literal, of_primary-Text, of_primary-Location, of_primary-Forced, of_primary-Bracket, of_primary-Ref, of_primary-Call, of_reference-Name, of_reference-One, of_reference-Two, of_reference-Bare}
use Rattle.cw_tree.proofs.Expressions.{of_conjunction-out, of_comparison-out, of_condition-out, of_differ-out, of_mask-out, of_prim-out, of_sum-out, of_term-out, of_union-out}
use Rattle.cw_facts.specs.declared.fact.Fact.TheVariants as fact
use Rattle.cw_facts.specs.declared.fact.Form.TheVariants as form
use Rattle.cw_facts.specs.declared.fact.Reading.{Reading}
use Rattle.cw_facts.specs.declared.fact.Reading.TheVariants as reading
use Rattle.cw_facts.specs.Uses.{Uses, uses_of, reading_of, each_for, operands_for, indexed, argument_uses}
use Rattle.cw_facts.specs.Uses.{expression_step, primary_step, reference_step, conjunction_step, comparison_step, condition_step}
use Rattle.cw_facts.specs.Uses.{differ_step, mask_step, prim_step, sum_step, term_step, union_step}
use Rattle.cw_facts.specs.Uses.{expression_uses, primary_uses, reference_uses, conjunction_uses, comparison_uses, condition_uses}
use Rattle.cw_facts.specs.Uses.{differ_uses, mask_uses, prim_uses, sum_uses, term_uses, union_uses}

abbrev steps : ExpressionSteps Uses Uses Uses Uses Uses Uses Uses Uses Uses Uses Uses Uses
steps = expression_steps expression_step primary_step reference_step conjunction_step comparison_step condition_step differ_step mask_step prim_step sum_step term_step union_step

pub of_choice : (at : Position) (test : RawCond) (a : RawExpr) (b : RawExpr) (r : Reading)
    → expression_uses (expr.Choice at test a b) r ≡ condition_uses test reading.Value ++ (expression_uses a reading.Value ++ expression_uses b reading.Value)
of_choice at test a b r = ap (λ (f : Uses). f r) (of_expression-Choice steps at test a b)

pub of_sum : (s : RawSum) (r : Reading) → expression_uses (expr.Sum s) r ≡ sum_uses s r
of_sum s r = ap (λ (f : Uses). f r) (of_expression-Sum steps s)

pub of_number : (n : RawNumber) (r : Reading) → primary_uses (primary.Number n) r ≡ []
of_number n r = ap (λ (f : Uses). f r) (of_primary-Number steps n)

pub of_octal : (n : RawOctal) (r : Reading) → primary_uses (primary.Octal n) r ≡ []
of_octal n r = ap (λ (f : Uses). f r) (of_primary-Octal steps n)

pub of_literal : (c : RawLiteral) (r : Reading) → primary_uses (primary.Literal c) r ≡ []
of_literal c r = ap (λ (f : Uses). f r) (of_primary-Literal steps c)

pub of_text : (at : Position) (cs : List ℕ) (r : Reading) → primary_uses (primary.Text at cs) r ≡ fact.Text at (length cs) ∷ []
of_text at cs r = ap (λ (f : Uses). f r) (of_primary-Text steps at cs)

pub of_location : (at : Position) (x : RawRef) (r : Reading) → primary_uses (primary.Location at x) r ≡ reference_uses x reading.Whole
of_location at x r = ap (λ (f : Uses). f r) (of_primary-Location steps at x)

pub of_forced : (t : RawType) (e : RawExpr) (r : Reading) → primary_uses (primary.Forced t e) r ≡ expression_uses e reading.Value
of_forced t e r = ap (λ (f : Uses). f r) (of_primary-Forced steps t e)

pub of_bracket : (at : Position) (e : RawExpr) (r : Reading) → primary_uses (primary.Bracket at e) r ≡ expression_uses e reading.Value
of_bracket at e r = ap (λ (f : Uses). f r) (of_primary-Bracket steps at e)

pub of_ref : (x : RawRef) (r : Reading) → primary_uses (primary.Ref x) r ≡ reference_uses x r
of_ref x r = ap (λ (f : Uses). f r) (of_primary-Ref steps x)

pub of_call : (n : RawName) (es : List RawExpr) (r : Reading) → primary_uses (primary.Call n es) r ≡ uses_of n form.CallValue ++ argument_uses es
of_call n es r = ap (λ (f : Uses). f r) (of_primary-Call steps n es)

pub of_name : (n : RawName) (r : Reading) → reference_uses (ref.Name n) r ≡ uses_of n (form.Reference r 0)
of_name n r = ap (λ (f : Uses). f r) (of_reference-Name steps n)

pub of_one : (n : RawName) (e : RawExpr) (r : Reading) → reference_uses (ref.One n e) r ≡ uses_of n (form.Reference (indexed r) 1) ++ expression_uses e reading.Value
of_one n e r = ap (λ (f : Uses). f r) (of_reference-One steps n e)

pub of_two : (n : RawName) (e : RawExpr) (g : RawExpr) (r : Reading)
    → reference_uses (ref.Two n e g) r ≡ uses_of n (form.Reference (indexed r) 2) ++ (expression_uses e reading.Value ++ expression_uses g reading.Value)
of_two n e g r = ap (λ (f : Uses). f r) (of_reference-Two steps n e g)

pub of_bare : (at : Position) (e : RawExpr) (r : Reading) → reference_uses (ref.Bare at e) r ≡ expression_uses e reading.Value
of_bare at e r = ap (λ (f : Uses). f r) (of_reference-Bare steps at e)

pub of_comparison : (e : RawCmp) (r : Reading) → comparison_uses e r ≡ sum_uses (out-RawCmp e).left reading.Value ++ sum_uses (out-RawCmp e).right reading.Value
of_comparison e r = ap (λ (f : Uses). f r) (of_comparison-out steps e)

pub of_condition : (e : RawCond) (r : Reading) → condition_uses e r ≡ each_for reading.Value (map conjunction_uses (out-RawCond e).operands)
of_condition e r = ap (λ (f : Uses). f r) (of_condition-out steps e)

pub of_conjunction : (e : RawCand) (r : Reading) → conjunction_uses e r ≡ each_for reading.Value (map comparison_uses (out-RawCand e).operands)
of_conjunction e r = ap (λ (f : Uses). f r) (of_conjunction-out steps e)

pub of_operands : (e : RawSum) (r : Reading)
    → sum_uses e r ≡ each_for (reading_of r (length (map term_uses (out-RawSum e).operands) == 1 && is_none (out-RawSum e).sign)) (map term_uses (out-RawSum e).operands)
of_operands e r = ap (λ (f : Uses). f r) (of_sum-out steps e)

pub of_term : (e : RawTerm) (r : Reading) → term_uses e r ≡ operands_for r (map differ_uses (out-RawTerm e).operands)
of_term e r = ap (λ (f : Uses). f r) (of_term-out steps e)

pub of_differ : (e : RawDiffer) (r : Reading) → differ_uses e r ≡ operands_for r (map union_uses (out-RawDiffer e).operands)
of_differ e r = ap (λ (f : Uses). f r) (of_differ-out steps e)

pub of_union : (e : RawUnion) (r : Reading) → union_uses e r ≡ operands_for r (map mask_uses (out-RawUnion e).operands)
of_union e r = ap (λ (f : Uses). f r) (of_union-out steps e)

pub of_mask : (e : RawMask) (r : Reading) → mask_uses e r ≡ operands_for r (map prim_uses (out-RawMask e).operands)
of_mask e r = ap (λ (f : Uses). f r) (of_mask-out steps e)

pub of_prim : (e : RawPrim) (r : Reading) → prim_uses e r ≡ primary_uses (out-RawPrim e).primary (reading_of r (length (out-RawPrim e).bits == 0))
of_prim e r = ap (λ (f : Uses). f r) (of_prim-out steps e)
