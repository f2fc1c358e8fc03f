-- The rules of types and what is stored, by an equation for each form of tree in the texts.
use Rattle.std.proofs.Common.{◌≡◌, List, [], ◌∷◌, Option, None, ap, ◌∙◌, map}
use Rattle.cw_table.specs.declared.table.Row.{Row}
use Rattle.cw_tree.specs.declared.leaf.Position.{Position}
use Rattle.cw_tree.specs.declared.leaf.RawName.{RawName}
use Rattle.cw_tree.specs.declared.leaf.RawNumber.{RawNumber}
use Rattle.cw_tree.specs.declared.leaf.RawSign.{RawSign}
use Rattle.cw_tree.specs.declared.leaf.RawFactorSign.{RawFactorSign}
use Rattle.cw_tree.specs.declared.expression.RawExpr.TheOpen as layer
use Rattle.cw_tree.specs.declared.expression.RawExpr.{RawExpr}
use Rattle.cw_tree.specs.declared.expression.RawSum.{RawSum, roll-RawSum}
use Rattle.cw_tree.specs.declared.expression.RawTerm.{RawTerm, roll-RawTerm}
use Rattle.cw_tree.specs.declared.expression.RawDiffer.{RawDiffer}
use Rattle.cw_tree.specs.declared.expression.RawUnion.{RawUnion, roll-RawUnion}
use Rattle.cw_tree.specs.declared.expression.RawMask.{RawMask, roll-RawMask}
use Rattle.cw_tree.specs.declared.expression.RawPrim.{RawPrim}
use Rattle.cw_tree.specs.declared.expression.RawPrimary.{RawPrimary}
use Rattle.cw_tree.specs.declared.expression.RawPrimary.TheVariants as primary_tree
use Rattle.cw_tree.specs.declared.expression.RawRef.{RawRef}
use Rattle.cw_tree.specs.declared.expression.RawRef.TheVariants as ref_tree
use Rattle.cw_tree.specs.declared.items.RawData.{RawData}
use Rattle.cw_tree.specs.declared.statement.RawFelem.{RawFelem}
use Rattle.cw_tree.specs.declared.statement.RawDecl.TheOpen as stmt_layer
use Rattle.cw_tree.specs.declared.statement.RawDecl.TheVariants as decl_tree
use Rattle.cw_tree.specs.declared.statement.RawDecl.{RawDecl}
use Rattle.cw_tree.specs.declared.statement.RawForm.TheVariants as form_tree
use Rattle.cw_tree.specs.declared.statement.RawSimple.{RawSimple}
use Rattle.cw_tree.specs.declared.statement.RawSimple.TheVariants as simple_tree
use Rattle.cw_tree.specs.declared.statement.RawStmt.{RawStmt, roll-RawStmt, fold-roll-RawStmt}
use Rattle.cw_tree.specs.declared.statement.RawBlock.{roll-RawBlock, fold-roll-RawBlock}
use Rattle.cw_tree.proofs.Expressions.{ExpressionSteps, expression_steps, of_expression-Sum, of_primary-Bracket, of_primary-Number, of_primary-Ref, of_reference-Name, of_reference-One}
use Rattle.cw_tree.proofs.Statements.{StatementSteps, statement_steps, of_declaration-Data, of_form-For, of_form-Simple, of_simple-Assign, of_simple-Call}
use Rattle.cw_scope.specs.declared.resolve.Named.{Named}
use Rattle.cw_scale.specs.declared.fault.Fault.{Fault}
use Rattle.cw_items.specs.declared.thing.Owner.{Owner}
use Rattle.cw_scale.specs.Faults.{Judgement}
use Rattle.cw_scale.specs.Kinds.{kind_of, fraction_of_kind}
use Rattle.cw_scale.specs.TypeRules as types
use Rattle.cw_items.specs.declared.families.Site.{Site}
use Rattle.cw_items.specs.Things as things
use Rattle.cw_judge.specs.Operators as operators
use Rattle.cw_judge.specs.Judged as judge
use Rattle.cw_tokens.proofs.Passes.{Pass, differ_rolled, mask_rolled, prim_rolled, sum_rolled, term_rolled, union_rolled}
use Rattle.cw_big_units.proofs.TreeText.{sum_of, prim, unmasked}

-- ---- the folds

abbrev judged_pass : Named → Pass types.Judged
judged_pass named = expression_steps (types.expression_step named) (types.primary_step named) (types.reference_step named) (types.conjunction_step named) (types.comparison_step named) (types.condition_step named) (types.differ_step named) (types.mask_step named) (types.prim_step named) (types.sum_step named) (types.term_step named) (types.union_step named)

abbrev operators_pass : ExpressionSteps operators.Places operators.Places (List operators.Places) operators.Places operators.Places operators.Places operators.Places operators.Places operators.Places operators.Places operators.Places operators.Places
operators_pass = expression_steps operators.expression_step operators.primary_step operators.reference_step operators.conjunction_step operators.comparison_step operators.condition_step operators.differ_step operators.mask_step operators.prim_step operators.sum_step operators.term_step operators.union_step

abbrev judging_pass : Named → List (Row Site) → StatementSteps Judgement Judgement Judgement Judgement Judgement Judgement
judging_pass named sites = statement_steps (judge.declaration_step named sites) (judge.form_step named sites) (judge.simple_step named sites) (judge.block_step named sites) (judge.procedure_step named sites) (judge.statement_step named sites)

abbrev things_pass : Named → StatementSteps things.Things things.Things things.Things things.Things things.Things things.Things
things_pass named = statement_steps (things.declaration_step named) (things.form_step named) (things.simple_step named) (things.block_step named) (things.procedure_step named) (things.statement_step named)

-- ---- the rules of types

pub sum-judged : (named : Named) (xs : List RawTerm) (ops : List RawSign) → types.expression named (sum_of xs ops) ≡ types.expression_step named (layer.Sum (types.sum_step named (record { sign = None; operands = map (types.term named) xs; operators = ops })))
sum-judged named xs ops =
    let s : RawSum = roll-RawSum (record { sign = None; operands = xs; operators = ops }) in
    of_expression-Sum (judged_pass named) s
    ∙ ap (λ (x : types.Judged). types.expression_step named (layer.Sum x)) (sum_rolled (judged_pass named) (record { sign = None; operands = xs; operators = ops }))

pub term-judged : (named : Named) (xs : List RawDiffer) (ops : List RawFactorSign) → types.term named (roll-RawTerm (record { operands = xs; operators = ops })) ≡ types.term_step named (record { operands = map (types.differ named) xs; operators = ops })
term-judged named xs ops = term_rolled (judged_pass named) (record { operands = xs; operators = ops })

pub prim-judged : (named : Named) (p : RawPrimary) → types.prim named (prim p) ≡ types.prim_step named (record { bits = []; primary = types.primary named p })
prim-judged named p = prim_rolled (judged_pass named) (record { bits = []; primary = p })

pub unmasked-judged : (named : Named) (m : RawMask) → types.differ named (unmasked m) ≡ types.differ_step named (record { operands = types.union_step named (record { operands = types.mask named m ∷ []; operators = [] }) ∷ []; operators = [] })
unmasked-judged named m =
    let u : RawUnion = roll-RawUnion (record { operands = m ∷ []; operators = [] }) in
    differ_rolled (judged_pass named) (record { operands = u ∷ []; operators = [] })
    ∙ ap (λ (x : types.Judged). types.differ_step named (record { operands = x ∷ []; operators = [] })) (union_rolled (judged_pass named) (record { operands = m ∷ []; operators = [] }))

pub mask-judged : (named : Named) (ps : List RawPrim) (ats : List Position) → types.mask named (roll-RawMask (record { operands = ps; operators = ats })) ≡ types.mask_step named (record { operands = map (types.prim named) ps; operators = ats })
mask-judged named ps ats = mask_rolled (judged_pass named) (record { operands = ps; operators = ats })

pub number-judged : (named : Named) (n : RawNumber) → types.primary named (primary_tree.Number n) ≡ types.primary_step named (layer.Number n)
number-judged named n = of_primary-Number (judged_pass named) n

pub ref-judged : (named : Named) (r : RawRef) → types.primary named (primary_tree.Ref r) ≡ types.primary_step named (layer.Ref (types.reference named r))
ref-judged named r = of_primary-Ref (judged_pass named) r

pub bracket-judged : (named : Named) (at : Position) (e : RawExpr) → types.primary named (primary_tree.Bracket at e) ≡ types.primary_step named (layer.Bracket at (types.expression named e))
bracket-judged named at e = of_primary-Bracket (judged_pass named) at e

pub name-judged : (named : Named) (n : RawName) → types.reference named (ref_tree.Name n) ≡ types.reference_step named (layer.Name n)
name-judged named n = of_reference-Name (judged_pass named) n

pub one-judged : (named : Named) (n : RawName) (e : RawExpr) → types.reference named (ref_tree.One n e) ≡ types.reference_step named (layer.One n (types.expression named e))
one-judged named n e = of_reference-One (judged_pass named) n e

pub simple-judged : (named : Named) (sites : List (Row Site)) (s : RawSimple) (first : Option Fault) → judge.statement_judged named sites (roll-RawStmt (record { labels = []; form = form_tree.Simple s })) first ≡ judge.statement_step named sites (record { labels = []; form = judge.form_step named sites (stmt_layer.Simple (judge.simple_judged named sites s)) }) first
simple-judged named sites s first =
    ap (λ (h : Judgement). h first) (fold-roll-RawStmt Judgement Judgement Judgement Judgement Judgement Judgement
    (judge.declaration_step named sites) (judge.form_step named sites) (judge.simple_step named sites) (judge.block_step named sites) (judge.procedure_step named sites) (judge.statement_step named sites) (record { labels = []; form = form_tree.Simple s })
    ∙ ap (λ (x : Judgement). judge.statement_step named sites (record { labels = []; form = x })) (of_form-Simple (judging_pass named sites) s))

pub for-judged : (named : Named) (sites : List (Row Site)) (at : Position) (variable : RawRef) (elem : RawFelem) (body : RawStmt) (first : Option Fault) → judge.statement_judged named sites (roll-RawStmt (record { labels = []; form = form_tree.For at variable (elem ∷ []) body })) first ≡ judge.statement_step named sites (record { labels = []; form = judge.form_step named sites (stmt_layer.For at variable (elem ∷ []) (judge.statement_judged named sites body)) }) first
for-judged named sites at variable elem body first =
    ap (λ (h : Judgement). h first) (fold-roll-RawStmt Judgement Judgement Judgement Judgement Judgement Judgement
    (judge.declaration_step named sites) (judge.form_step named sites) (judge.simple_step named sites) (judge.block_step named sites) (judge.procedure_step named sites) (judge.statement_step named sites) (record { labels = []; form = form_tree.For at variable (elem ∷ []) body })
    ∙ ap (λ (x : Judgement). judge.statement_step named sites (record { labels = []; form = x })) (of_form-For (judging_pass named sites) at variable (elem ∷ []) body))

pub assign-judged : (named : Named) (sites : List (Row Site)) (r : RawRef) (e : RawExpr) (first : Option Fault) → judge.simple_judged named sites (simple_tree.Assign r e) first ≡ judge.simple_step named sites (stmt_layer.Assign r e) first
assign-judged named sites r e first = ap (λ (h : Judgement). h first) (of_simple-Assign (judging_pass named sites) r e)

pub call-judged : (named : Named) (sites : List (Row Site)) (n : RawName) (es : List RawExpr) (first : Option Fault) → judge.simple_judged named sites (simple_tree.Call n es) first ≡ judge.simple_step named sites (stmt_layer.Call n es) first
call-judged named sites n es first = ap (λ (h : Judgement). h first) (of_simple-Call (judging_pass named sites) n es)

pub data-judged : (named : Named) (sites : List (Row Site)) (d : RawData) (first : Option Fault) → judge.declaration_judged named sites (decl_tree.Data d) first ≡ judge.declaration_step named sites (stmt_layer.Data d) first
data-judged named sites d first = ap (λ (h : Judgement). h first) (of_declaration-Data (judging_pass named sites) d)

pub block-judged : (named : Named) (sites : List (Row Site)) (at : Position) (ds : List RawDecl) (ss : List RawStmt) (first : Option Fault) → judge.block_judged named sites (roll-RawBlock (record { at = at; decls = ds; stmts = ss })) first ≡ judge.block_step named sites (record { at = at; decls = map (judge.declaration_judged named sites) ds; stmts = map (judge.statement_judged named sites) ss }) first
block-judged named sites at ds ss first =
    ap (λ (h : Judgement). h first) (fold-roll-RawBlock Judgement Judgement Judgement Judgement Judgement Judgement
    (judge.declaration_step named sites) (judge.form_step named sites) (judge.simple_step named sites) (judge.block_step named sites) (judge.procedure_step named sites) (judge.statement_step named sites) (record { at = at; decls = ds; stmts = ss }))

-- the scale at which a reference is assigned to
pub name-scale : (named : Named) (n : RawName) → (types.reference named (ref_tree.Name n)).shape.natural ≡ fraction_of_kind (kind_of named n)
name-scale named n = ap (λ (x : types.Judged). x.shape.natural) (name-judged named n)

pub one-scale : (named : Named) (n : RawName) (e : RawExpr) → (types.reference named (ref_tree.One n e)).shape.natural ≡ fraction_of_kind (kind_of named n)
one-scale named n e = ap (λ (x : types.Judged). x.shape.natural) (one-judged named n e)

-- ---- operators

pub sum-operators : (xs : List RawTerm) (ops : List RawSign) → operators.expression_operators (sum_of xs ops) ≡ operators.expression_step (layer.Sum (operators.sum_step (record { sign = None; operands = map operators.term_operators xs; operators = ops })))
sum-operators xs ops =
    let s : RawSum = roll-RawSum (record { sign = None; operands = xs; operators = ops }) in
    of_expression-Sum operators_pass s
    ∙ ap (λ (x : operators.Places). operators.expression_step (layer.Sum x)) (sum_rolled operators_pass (record { sign = None; operands = xs; operators = ops }))

pub term-operators : (xs : List RawDiffer) (ops : List RawFactorSign) → operators.term_operators (roll-RawTerm (record { operands = xs; operators = ops })) ≡ operators.term_step (record { operands = map operators.differ_operators xs; operators = ops })
term-operators xs ops = term_rolled operators_pass (record { operands = xs; operators = ops })

pub prim-operators : (p : RawPrimary) → operators.prim_operators (prim p) ≡ operators.prim_step (record { bits = []; primary = operators.primary_operators p })
prim-operators p = prim_rolled operators_pass (record { bits = []; primary = p })

pub unmasked-operators : (m : RawMask) → operators.differ_operators (unmasked m) ≡ operators.differ_step (record { operands = operators.union_step (record { operands = operators.mask_operators m ∷ []; operators = [] }) ∷ []; operators = [] })
unmasked-operators m =
    let u : RawUnion = roll-RawUnion (record { operands = m ∷ []; operators = [] }) in
    differ_rolled operators_pass (record { operands = u ∷ []; operators = [] })
    ∙ ap (λ (x : operators.Places). operators.differ_step (record { operands = x ∷ []; operators = [] })) (union_rolled operators_pass (record { operands = m ∷ []; operators = [] }))

pub mask-operators : (ps : List RawPrim) (ats : List Position) → operators.mask_operators (roll-RawMask (record { operands = ps; operators = ats })) ≡ operators.mask_step (record { operands = map operators.prim_operators ps; operators = ats })
mask-operators ps ats = mask_rolled operators_pass (record { operands = ps; operators = ats })

pub number-operators : (n : RawNumber) → operators.primary_operators (primary_tree.Number n) ≡ operators.primary_step (layer.Number n)
number-operators n = of_primary-Number operators_pass n

pub ref-operators : (r : RawRef) → operators.primary_operators (primary_tree.Ref r) ≡ operators.primary_step (layer.Ref (operators.reference_operators r))
ref-operators r = of_primary-Ref operators_pass r

pub bracket-operators : (at : Position) (e : RawExpr) → operators.primary_operators (primary_tree.Bracket at e) ≡ operators.primary_step (layer.Bracket at (operators.expression_operators e))
bracket-operators at e = of_primary-Bracket operators_pass at e

pub name-operators : (n : RawName) → operators.reference_operators (ref_tree.Name n) ≡ operators.reference_step (layer.Name n)
name-operators n = of_reference-Name operators_pass n

pub one-operators : (n : RawName) (e : RawExpr) → operators.reference_operators (ref_tree.One n e) ≡ operators.reference_step (layer.One n (operators.expression_operators e))
one-operators n e = of_reference-One operators_pass n e

-- ---- what is stored

pub simple-stored : (named : Named) (s : RawSimple) (owner : Option Owner) → things.statement_things named (roll-RawStmt (record { labels = []; form = form_tree.Simple s })) owner ≡ things.statement_step named (record { labels = []; form = things.form_step named (stmt_layer.Simple (things.simple_things named s)) }) owner
simple-stored named s owner =
    ap (λ (h : things.Things). h owner) (fold-roll-RawStmt things.Things things.Things things.Things things.Things things.Things things.Things
    (things.declaration_step named) (things.form_step named) (things.simple_step named) (things.block_step named) (things.procedure_step named) (things.statement_step named) (record { labels = []; form = form_tree.Simple s })
    ∙ ap (λ (x : things.Things). things.statement_step named (record { labels = []; form = x })) (of_form-Simple (things_pass named) s))

pub for-stored : (named : Named) (at : Position) (variable : RawRef) (elem : RawFelem) (body : RawStmt) (owner : Option Owner) → things.statement_things named (roll-RawStmt (record { labels = []; form = form_tree.For at variable (elem ∷ []) body })) owner ≡ things.statement_step named (record { labels = []; form = things.form_step named (stmt_layer.For at variable (elem ∷ []) (things.statement_things named body)) }) owner
for-stored named at variable elem body owner =
    ap (λ (h : things.Things). h owner) (fold-roll-RawStmt things.Things things.Things things.Things things.Things things.Things things.Things
    (things.declaration_step named) (things.form_step named) (things.simple_step named) (things.block_step named) (things.procedure_step named) (things.statement_step named) (record { labels = []; form = form_tree.For at variable (elem ∷ []) body })
    ∙ ap (λ (x : things.Things). things.statement_step named (record { labels = []; form = x })) (of_form-For (things_pass named) at variable (elem ∷ []) body))

pub assign-stored : (named : Named) (r : RawRef) (e : RawExpr) (owner : Option Owner) → things.simple_things named (simple_tree.Assign r e) owner ≡ things.simple_step named (stmt_layer.Assign r e) owner
assign-stored named r e owner = ap (λ (h : things.Things). h owner) (of_simple-Assign (things_pass named) r e)

pub call-stored : (named : Named) (n : RawName) (es : List RawExpr) (owner : Option Owner) → things.simple_things named (simple_tree.Call n es) owner ≡ things.simple_step named (stmt_layer.Call n es) owner
call-stored named n es owner = ap (λ (h : things.Things). h owner) (of_simple-Call (things_pass named) n es)

pub data-stored : (named : Named) (d : RawData) (owner : Option Owner) → things.declaration_things named (decl_tree.Data d) owner ≡ things.declaration_step named (stmt_layer.Data d) owner
data-stored named d owner = ap (λ (h : things.Things). h owner) (of_declaration-Data (things_pass named) d)

pub block-stored : (named : Named) (at : Position) (ds : List RawDecl) (ss : List RawStmt) (owner : Option Owner) → things.block_things named (roll-RawBlock (record { at = at; decls = ds; stmts = ss })) owner ≡ things.block_step named (record { at = at; decls = map (things.declaration_things named) ds; stmts = map (things.statement_things named) ss }) owner
block-stored named at ds ss owner =
    ap (λ (h : things.Things). h owner) (fold-roll-RawBlock things.Things things.Things things.Things things.Things things.Things things.Things
    (things.declaration_step named) (things.form_step named) (things.simple_step named) (things.block_step named) (things.procedure_step named) (things.statement_step named) (record { at = at; decls = ds; stmts = ss }))

-- ---- all of them

pub ruleset type_steps = (simple-judged, for-judged, assign-judged, call-judged, name-scale, one-scale, sum-judged, term-judged, prim-judged, unmasked-judged, mask-judged, number-judged, ref-judged, bracket-judged, name-judged, one-judged, sum-operators, term-operators, prim-operators, unmasked-operators, mask-operators, number-operators, ref-operators, bracket-operators, name-operators, one-operators)

pub ruleset stored_steps = (simple-stored, for-stored, assign-stored, call-stored, data-stored, block-stored)
