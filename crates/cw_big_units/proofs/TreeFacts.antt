-- The facts of the trees written out, by an equation for each form of tree in them.
use Rattle.std.proofs.Common.{◌≡◌, ℕ, Bool, true, false, List, refl, Option, ap, map}
use Rattle.cw_tree.specs.declared.leaf.Position.{Position}
use Rattle.cw_tree.specs.declared.leaf.RawName.{RawName}
use Rattle.cw_tree.specs.declared.leaf.RawNumber.{RawNumber}
use Rattle.cw_tree.specs.declared.leaf.RawSign.{RawSign}
use Rattle.cw_tree.specs.declared.leaf.RawFactorSign.{RawFactorSign}
use Rattle.cw_tree.specs.declared.expression.RawBits.{RawBits}
use Rattle.cw_tree.specs.declared.expression.RawExpr.TheOpen as layer
use Rattle.cw_tree.specs.declared.expression.RawExpr.{RawExpr}
use Rattle.cw_tree.specs.declared.expression.RawExpr.TheVariants as expr_tree
use Rattle.cw_tree.specs.declared.expression.RawPrimary.{RawPrimary}
use Rattle.cw_tree.specs.declared.expression.RawPrimary.TheVariants as primary_tree
use Rattle.cw_tree.specs.declared.expression.RawRef.{RawRef}
use Rattle.cw_tree.specs.declared.expression.RawRef.TheVariants as ref_tree
use Rattle.cw_tree.specs.declared.expression.RawSum.{RawSum, roll-RawSum}
use Rattle.cw_tree.specs.declared.expression.RawTerm.{RawTerm, roll-RawTerm}
use Rattle.cw_tree.specs.declared.expression.RawDiffer.{RawDiffer, roll-RawDiffer}
use Rattle.cw_tree.specs.declared.expression.RawUnion.{RawUnion, roll-RawUnion}
use Rattle.cw_tree.specs.declared.expression.RawMask.{RawMask, roll-RawMask}
use Rattle.cw_tree.specs.declared.expression.RawPrim.{RawPrim, roll-RawPrim}
use Rattle.cw_tree.specs.declared.items.RawData.{RawData}
use Rattle.cw_tree.specs.declared.statement.RawFelem.{RawFelem}
use Rattle.cw_tree.specs.declared.statement.RawDecl.TheOpen as behind
use Rattle.cw_tree.specs.declared.statement.RawDecl.{RawDecl}
use Rattle.cw_tree.specs.declared.statement.RawDecl.TheVariants as decl_tree
use Rattle.cw_tree.specs.declared.statement.RawForm.{RawForm}
use Rattle.cw_tree.specs.declared.statement.RawForm.TheVariants as form_tree
use Rattle.cw_tree.specs.declared.statement.RawSimple.{RawSimple}
use Rattle.cw_tree.specs.declared.statement.RawSimple.TheVariants as simple_tree
use Rattle.cw_tree.specs.declared.statement.RawBlock.{roll-RawBlock, fold-roll-RawBlock}
use Rattle.cw_tree.specs.declared.statement.RawStmt.{RawStmt, roll-RawStmt, fold-roll-RawStmt}
use Rattle.cw_tree.proofs.Expressions.{expression_steps, of_expression-Sum, of_primary-Bracket, of_primary-Number, of_primary-Ref, of_reference-Name, of_reference-One}
use Rattle.cw_tree.proofs.Statements.{StatementSteps, statement_steps, of_declaration-Data, of_form-For, of_form-Simple, of_simple-Assign, of_simple-Call}
use Rattle.cw_facts.specs.declared.fact.Fact.{Fact}
use Rattle.cw_facts.specs.declared.fact.Reading.{Reading}
use Rattle.cw_facts.specs.Uses.{Uses, expression_step, primary_step, reference_step, conjunction_step, comparison_step, condition_step, differ_step, mask_step, prim_step, sum_step, term_step, union_step, expression_uses, primary_uses, reference_uses, sum_uses, term_uses, differ_uses, union_uses, mask_uses, prim_uses}
use Rattle.cw_facts.specs.Facts.{BlockFacts, declaration_step, form_step, simple_step, block_step, procedure_step, statement_step, declaration_facts, form_facts, simple_facts, block_facts, statement_facts}
use Rattle.cw_facts.specs.Text.{text_facts}
use Rattle.cw_tokens.proofs.Passes.{Pass, differ_rolled, mask_rolled, prim_rolled, sum_rolled, term_rolled, union_rolled}
use Rattle.cw_big_units.proofs.TreeText.{tree_text}
use Rattle.cw_big_units.proofs.FactsText.{facts_text}

abbrev uses_pass : Pass Uses
uses_pass = expression_steps expression_step primary_step reference_step conjunction_step comparison_step condition_step differ_step mask_step prim_step sum_step term_step union_step

abbrev facts_pass : StatementSteps (List Fact) (List Fact) (List Fact) BlockFacts (List Fact) (List Fact)
facts_pass = statement_steps declaration_step form_step simple_step block_step procedure_step statement_step

-- ---- expressions

pub sum-expression : (s : RawSum) (r : Reading) → expression_uses (expr_tree.Sum s) r ≡ expression_step (layer.Sum (sum_uses s)) r
sum-expression s r = ap (λ f. f r) (of_expression-Sum uses_pass s)

pub number-primary : (n : RawNumber) (r : Reading) → primary_uses (primary_tree.Number n) r ≡ primary_step (layer.Number n) r
number-primary n r = ap (λ f. f r) (of_primary-Number uses_pass n)

pub bracket-primary : (p : Position) (e : RawExpr) (r : Reading) → primary_uses (primary_tree.Bracket p e) r ≡ primary_step (layer.Bracket p (expression_uses e)) r
bracket-primary p e r = ap (λ f. f r) (of_primary-Bracket uses_pass p e)

pub reference-primary : (x : RawRef) (r : Reading) → primary_uses (primary_tree.Ref x) r ≡ primary_step (layer.Ref (reference_uses x)) r
reference-primary x r = ap (λ f. f r) (of_primary-Ref uses_pass x)

pub name-reference : (n : RawName) (r : Reading) → reference_uses (ref_tree.Name n) r ≡ reference_step (layer.Name n) r
name-reference n r = ap (λ f. f r) (of_reference-Name uses_pass n)

pub element-reference : (n : RawName) (e : RawExpr) (r : Reading) → reference_uses (ref_tree.One n e) r ≡ reference_step (layer.One n (expression_uses e)) r
element-reference n e r = ap (λ f. f r) (of_reference-One uses_pass n e)

pub terms : (sign : Option RawSign) (operands : List RawTerm) (operators : List RawSign) (r : Reading) → sum_uses (roll-RawSum (record { sign = sign; operands = operands; operators = operators })) r ≡ sum_step (record { sign = sign; operands = map term_uses operands; operators = operators }) r
terms sign operands operators r = ap (λ f. f r) (sum_rolled uses_pass (record { sign = sign; operands = operands; operators = operators }))

pub factors : (operands : List RawDiffer) (operators : List RawFactorSign) (r : Reading) → term_uses (roll-RawTerm (record { operands = operands; operators = operators })) r ≡ term_step (record { operands = map differ_uses operands; operators = operators }) r
factors operands operators r = ap (λ f. f r) (term_rolled uses_pass (record { operands = operands; operators = operators }))

pub differs : (operands : List RawUnion) (operators : List Position) (r : Reading) → differ_uses (roll-RawDiffer (record { operands = operands; operators = operators })) r ≡ differ_step (record { operands = map union_uses operands; operators = operators }) r
differs operands operators r = ap (λ f. f r) (differ_rolled uses_pass (record { operands = operands; operators = operators }))

pub unions : (operands : List RawMask) (operators : List Position) (r : Reading) → union_uses (roll-RawUnion (record { operands = operands; operators = operators })) r ≡ union_step (record { operands = map mask_uses operands; operators = operators }) r
unions operands operators r = ap (λ f. f r) (union_rolled uses_pass (record { operands = operands; operators = operators }))

pub masks : (operands : List RawPrim) (operators : List Position) (r : Reading) → mask_uses (roll-RawMask (record { operands = operands; operators = operators })) r ≡ mask_step (record { operands = map prim_uses operands; operators = operators }) r
masks operands operators r = ap (λ f. f r) (mask_rolled uses_pass (record { operands = operands; operators = operators }))

pub primaries : (bits : List RawBits) (primary : RawPrimary) (r : Reading) → prim_uses (roll-RawPrim (record { bits = bits; primary = primary })) r ≡ prim_step (record { bits = bits; primary = primary_uses primary }) r
primaries bits primary r = ap (λ f. f r) (prim_rolled uses_pass (record { bits = bits; primary = primary }))

pub ruleset uses_steps = (sum-expression, number-primary, bracket-primary, reference-primary, name-reference, element-reference, terms, factors, differs, unions, masks, primaries)

-- ---- statements

data-declaration : (d : RawData) → declaration_facts (decl_tree.Data d) ≡ declaration_step (behind.Data d)
data-declaration d = of_declaration-Data facts_pass d

simple-form : (s : RawSimple) → form_facts (form_tree.Simple s) ≡ form_step (behind.Simple (simple_facts s))
simple-form s = of_form-Simple facts_pass s

for-form : (p : Position) (r : RawRef) (es : List RawFelem) (body : RawStmt) → form_facts (form_tree.For p r es body) ≡ form_step (behind.For p r es (statement_facts body))
for-form p r es body = of_form-For facts_pass p r es body

assignment : (r : RawRef) (e : RawExpr) → simple_facts (simple_tree.Assign r e) ≡ simple_step (behind.Assign r e)
assignment r e = of_simple-Assign facts_pass r e

call-statement : (n : RawName) (es : List RawExpr) → simple_facts (simple_tree.Call n es) ≡ simple_step (behind.Call n es)
call-statement n es = of_simple-Call facts_pass n es

block-layer : (at : Position) (decls : List RawDecl) (stmts : List RawStmt) (outermost : Bool) → block_facts (roll-RawBlock (record { at = at; decls = decls; stmts = stmts })) outermost ≡ block_step (record { at = at; decls = map declaration_facts decls; stmts = map statement_facts stmts }) outermost
block-layer at decls stmts outermost =
    ap (λ f. f outermost) (fold-roll-RawBlock (List Fact) (List Fact) (List Fact) BlockFacts (List Fact) (List Fact)
    declaration_step form_step simple_step block_step procedure_step statement_step (record { at = at; decls = decls; stmts = stmts }))

statement-layer : (labels : List RawName) (form : RawForm) → statement_facts (roll-RawStmt (record { labels = labels; form = form })) ≡ statement_step (record { labels = labels; form = form_facts form })
statement-layer labels form =
    fold-roll-RawStmt (List Fact) (List Fact) (List Fact) BlockFacts (List Fact) (List Fact)
    declaration_step form_step simple_step block_step procedure_step statement_step (record { labels = labels; form = form })

-- ---- the texts

pub facts_are : (is_last : Bool) (w : List ℕ) → text_facts (tree_text is_last w) ≡ facts_text is_last
facts_are true w =
    simp (uses_steps, data-declaration, simple-form, for-form, assignment, call-statement, block-layer, statement-layer)
    refl
facts_are false w =
    simp (uses_steps, data-declaration, simple-form, for-form, assignment, block-layer, statement-layer)
    refl
