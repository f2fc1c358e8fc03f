-- The counts of trees by their first layer.
use Rattle.std.proofs.Common.{◌≡◌, ℕ, suc, ◌+◌, ◌*◌, List, length, map, Option, Some, None}
use Rattle.cw_tree.specs.declared.leaf.Position.{Position}
use Rattle.cw_tree.specs.declared.leaf.RawName.{RawName}
use Rattle.cw_tree.specs.declared.leaf.RawNumber.{RawNumber}
use Rattle.cw_tree.specs.declared.leaf.RawOctal.{RawOctal}
use Rattle.cw_tree.specs.declared.leaf.RawLiteral.{RawLiteral}
use Rattle.cw_tree.specs.declared.leaf.RawType.{RawType}
use Rattle.cw_tree.specs.declared.leaf.RawSign.{RawSign}
use Rattle.cw_tree.specs.declared.leaf.RawCompareSign.{RawCompareSign}
use Rattle.cw_tree.specs.declared.expression.RawBits.{RawBits}
use Rattle.cw_tree.specs.declared.expression.RawExpr.TheVariants as expr_tree
use Rattle.cw_tree.specs.declared.expression.RawPrimary.TheVariants as primary_tree
use Rattle.cw_tree.specs.declared.expression.RawRef.TheVariants as ref_tree
use Rattle.cw_tree.specs.declared.expression.RawExpr.TheOpen as layer
use Rattle.cw_tree.specs.declared.expression.RawExpr.{RawExpr}
use Rattle.cw_tree.specs.declared.expression.RawPrimary.{RawPrimary}
use Rattle.cw_tree.specs.declared.expression.RawRef.{RawRef}
use Rattle.cw_tree.specs.declared.expression.RawCand.{RawCand, roll-RawCand}
use Rattle.cw_tree.specs.declared.expression.RawCmp.{RawCmp, roll-RawCmp}
use Rattle.cw_tree.specs.declared.expression.RawCond.{RawCond, roll-RawCond}
use Rattle.cw_tree.specs.declared.expression.RawDiffer.{RawDiffer, out-RawDiffer}
use Rattle.cw_tree.specs.declared.expression.RawMask.{RawMask, out-RawMask}
use Rattle.cw_tree.specs.declared.expression.RawPrim.{RawPrim, out-RawPrim, roll-RawPrim}
use Rattle.cw_tree.specs.declared.expression.RawSum.{RawSum, out-RawSum, roll-RawSum}
use Rattle.cw_tree.specs.declared.expression.RawTerm.{RawTerm, out-RawTerm}
use Rattle.cw_tree.specs.declared.expression.RawUnion.{RawUnion, out-RawUnion}
use Rattle.cw_tree.specs.declared.items.RawBase.{RawBase}
use Rattle.cw_tree.specs.declared.items.RawData.{RawData}
use Rattle.cw_tree.specs.declared.statement.RawFelem.{RawFelem}
use Rattle.cw_tree.specs.declared.statement.RawParam.{RawParam}
use Rattle.cw_tree.specs.declared.statement.RawPtag.{RawPtag}
use Rattle.cw_tree.specs.declared.statement.RawDecl.TheVariants as decl_tree
use Rattle.cw_tree.specs.declared.statement.RawForm.TheVariants as form_tree
use Rattle.cw_tree.specs.declared.statement.RawSimple.TheVariants as simple_tree
use Rattle.cw_tree.specs.declared.statement.RawDecl.{RawDecl}
use Rattle.cw_tree.specs.declared.statement.RawForm.{RawForm}
use Rattle.cw_tree.specs.declared.statement.RawSimple.{RawSimple}
use Rattle.cw_tree.specs.declared.statement.RawBlock.{RawBlock, roll-RawBlock, fold-roll-RawBlock}
use Rattle.cw_tree.specs.declared.statement.RawProc.{RawProc, roll-RawProc, fold-roll-RawProc}
use Rattle.cw_tree.specs.declared.statement.RawStmt.{RawStmt, out-RawStmt, roll-RawStmt, fold-roll-RawStmt}
use Rattle.cw_tree.proofs.Expressions.{expression_steps, of_differ-out, of_expression-Choice, of_expression-Sum, of_mask-out, of_prim-out, of_primary-Bracket, of_primary-Call, of_primary-Forced, of_primary-Literal, of_primary-Location, of_primary-Number, of_primary-Octal, of_primary-Ref, of_primary-Text, of_reference-Bare, of_reference-Name, of_reference-One, of_reference-Two, of_sum-out, of_term-out, of_union-out}
use Rattle.cw_tree.proofs.Statements.{StatementSteps, statement_steps, of_declaration-Data, of_declaration-Overlay, of_declaration-Proc, of_declaration-Switch, of_form-For, of_form-If-None, of_form-If-Some, of_form-Simple, of_simple-Answer, of_simple-Assign, of_simple-AssignBits, of_simple-Block, of_simple-Call, of_simple-Empty, of_simple-Goto, of_simple-GotoSwitch, of_statement-out}
use Rattle.cw_tokens.specs.LeastTokens.{separated, arguments}
use Rattle.cw_tokens.specs.TreeTokens.{between, total, sign, expr_step, primary_step, ref_step, cand_step, cmp_step, cond_step, differ_step, mask_step, prim_step, sum_step, term_step, union_step, expr_tokens, primary_tokens, ref_tokens, cand_tokens, cmp_tokens, cond_tokens, differ_tokens, mask_tokens, prim_tokens, sum_tokens, term_tokens, union_tokens, felem_tokens, param_tokens, decl_step, form_step, simple_step, block_step, proc_step, stmt_step, decl_tokens, form_tokens, simple_tokens, block_tokens, proc_tokens, stmt_tokens}
use Rattle.cw_tokens.proofs.Passes.{Pass, cand_rolled, cmp_rolled, cond_rolled, prim_rolled, sum_rolled}

abbrev pub expression_counts : Pass ℕ
expression_counts = expression_steps expr_step primary_step ref_step cand_step cmp_step cond_step differ_step mask_step prim_step sum_step term_step union_step

abbrev statement_counts : StatementSteps ℕ ℕ ℕ ℕ ℕ ℕ
statement_counts = statement_steps decl_step form_step simple_step block_step proc_step stmt_step

-- ---- lists of operands

pub differ-layer : (x : RawDiffer) → differ_tokens x ≡ between (map union_tokens (out-RawDiffer x).operands)
differ-layer = of_differ-out expression_counts

pub mask-layer : (x : RawMask) → mask_tokens x ≡ between (map prim_tokens (out-RawMask x).operands)
mask-layer = of_mask-out expression_counts

pub union-layer : (x : RawUnion) → union_tokens x ≡ between (map mask_tokens (out-RawUnion x).operands)
union-layer = of_union-out expression_counts

pub term-layer : (x : RawTerm) → term_tokens x ≡ between (map differ_tokens (out-RawTerm x).operands)
term-layer = of_term-out expression_counts

pub prim-layer : (x : RawPrim) → prim_tokens x ≡ 6 * length (out-RawPrim x).bits + primary_tokens (out-RawPrim x).primary
prim-layer = of_prim-out expression_counts

pub sum-layer : (x : RawSum) → sum_tokens x ≡ sign (out-RawSum x).sign + between (map term_tokens (out-RawSum x).operands)
sum-layer = of_sum-out expression_counts

-- ---- the same of trees that are made

pub cond-made : (xs : List RawCand) (os : List Position) → cond_tokens (roll-RawCond (record { operands = xs; operators = os })) ≡ between (map cand_tokens xs)
cond-made xs os = cond_rolled expression_counts (record { operands = xs; operators = os })

pub cand-made : (xs : List RawCmp) (os : List Position) → cand_tokens (roll-RawCand (record { operands = xs; operators = os })) ≡ between (map cmp_tokens xs)
cand-made xs os = cand_rolled expression_counts (record { operands = xs; operators = os })

pub cmp-made : (a : RawSum) (op : RawCompareSign) (b : RawSum) → cmp_tokens (roll-RawCmp (record { left = a; operator = op; right = b })) ≡ suc (sum_tokens a + sum_tokens b)
cmp-made a op b = cmp_rolled expression_counts (record { left = a; operator = op; right = b })

pub prim-made : (bits : List RawBits) (x : RawPrimary) → prim_tokens (roll-RawPrim (record { bits = bits; primary = x })) ≡ 6 * length bits + primary_tokens x
prim-made bits x = prim_rolled expression_counts (record { bits = bits; primary = x })

pub sum-made : (o : Option RawSign) (xs : List RawTerm) (os : List RawSign) → sum_tokens (roll-RawSum (record { sign = o; operands = xs; operators = os })) ≡ sign o + between (map term_tokens xs)
sum-made o xs os = sum_rolled expression_counts (record { sign = o; operands = xs; operators = os })

-- ---- variants of expressions

pub expr-Choice : (at : Position) (c : RawCond) (a : RawExpr) (b : RawExpr) → expr_tokens (expr_tree.Choice at c a b) ≡ 3 + (cond_tokens c + (expr_tokens a + expr_tokens b))
expr-Choice at c a b = of_expression-Choice expression_counts at c a b

pub expr-Sum : (s : RawSum) → expr_tokens (expr_tree.Sum s) ≡ sum_tokens s
expr-Sum s = of_expression-Sum expression_counts s

pub primary-Number : (n : RawNumber) → primary_tokens (primary_tree.Number n) ≡ 1
primary-Number n = of_primary-Number expression_counts n

pub primary-Octal : (n : RawOctal) → primary_tokens (primary_tree.Octal n) ≡ 1
primary-Octal n = of_primary-Octal expression_counts n

pub primary-Literal : (c : RawLiteral) → primary_tokens (primary_tree.Literal c) ≡ 1
primary-Literal c = of_primary-Literal expression_counts c

pub primary-Text : (at : Position) (characters : List ℕ) → primary_tokens (primary_tree.Text at characters) ≡ 1
primary-Text at characters = of_primary-Text expression_counts at characters

pub primary-Location : (at : Position) (r : RawRef) → primary_tokens (primary_tree.Location at r) ≡ 3 + ref_tokens r
primary-Location at r = of_primary-Location expression_counts at r

pub primary-Forced : (t : RawType) (e : RawExpr) → primary_tokens (primary_tree.Forced t e) ≡ 3 + expr_tokens e
primary-Forced t e = of_primary-Forced expression_counts t e

pub primary-Bracket : (at : Position) (e : RawExpr) → primary_tokens (primary_tree.Bracket at e) ≡ expr_tokens e
primary-Bracket at e = of_primary-Bracket expression_counts at e

pub primary-Ref : (r : RawRef) → primary_tokens (primary_tree.Ref r) ≡ ref_tokens r
primary-Ref r = of_primary-Ref expression_counts r

pub primary-Call : (f : RawName) (xs : List RawExpr) → primary_tokens (primary_tree.Call f xs) ≡ suc (arguments (map expr_tokens xs))
primary-Call f xs = of_primary-Call expression_counts f xs

pub ref-Name : (n : RawName) → ref_tokens (ref_tree.Name n) ≡ 1
ref-Name n = of_reference-Name expression_counts n

pub ref-One : (n : RawName) (e : RawExpr) → ref_tokens (ref_tree.One n e) ≡ 3 + expr_tokens e
ref-One n e = of_reference-One expression_counts n e

pub ref-Two : (n : RawName) (e : RawExpr) (d : RawExpr) → ref_tokens (ref_tree.Two n e d) ≡ 4 + (expr_tokens e + expr_tokens d)
ref-Two n e d = of_reference-Two expression_counts n e d

pub ref-Bare : (at : Position) (e : RawExpr) → ref_tokens (ref_tree.Bare at e) ≡ 2 + expr_tokens e
ref-Bare at e = of_reference-Bare expression_counts at e

-- ---- statements

pub decl-Data : (d : RawData) → decl_tokens (decl_tree.Data d) ≡ 0
decl-Data d = of_declaration-Data statement_counts d

pub decl-Overlay : (at : Position) (b : RawBase) (d : RawData) → decl_tokens (decl_tree.Overlay at b d) ≡ 0
decl-Overlay at b d = of_declaration-Overlay statement_counts at b d

pub decl-Switch : (at : Position) (n : RawName) (ns : List RawName) → decl_tokens (decl_tree.Switch at n ns) ≡ 3 + 2 * length ns
decl-Switch at n ns = of_declaration-Switch statement_counts at n ns

pub decl-Proc : (p : RawProc) → decl_tokens (decl_tree.Proc p) ≡ proc_tokens p
decl-Proc p = of_declaration-Proc statement_counts p

pub form-Simple : (s : RawSimple) → form_tokens (form_tree.Simple s) ≡ simple_tokens s
form-Simple s = of_form-Simple statement_counts s

pub if_alone : (at : Position) (c : RawCond) (ls : List RawName) (a : RawSimple) → form_tokens (form_tree.If at c ls a None) ≡ 2 + (cond_tokens c + ((2 * length ls + simple_tokens a) + 0))
if_alone at c ls a = of_form-If-None statement_counts at c ls a

pub if_else : (at : Position) (c : RawCond) (ls : List RawName) (a : RawSimple) (b : RawStmt) → form_tokens (form_tree.If at c ls a (Some b)) ≡ 2 + (cond_tokens c + ((2 * length ls + simple_tokens a) + stmt_tokens b))
if_else at c ls a b = of_form-If-Some statement_counts at c ls a b

pub form-For : (at : Position) (r : RawRef) (es : List RawFelem) (body : RawStmt) → form_tokens (form_tree.For at r es body) ≡ 2 + (ref_tokens r + (separated (map felem_tokens es) + stmt_tokens body))
form-For at r es body = of_form-For statement_counts at r es body

pub simple-Empty : simple_tokens (simple_tree.Empty) ≡ 0
simple-Empty = of_simple-Empty statement_counts

pub simple-Assign : (r : RawRef) (e : RawExpr) → simple_tokens (simple_tree.Assign r e) ≡ suc (ref_tokens r + expr_tokens e)
simple-Assign r e = of_simple-Assign statement_counts r e

pub simple-AssignBits : (b : RawBits) (r : RawRef) (e : RawExpr) → simple_tokens (simple_tree.AssignBits b r e) ≡ 7 + (ref_tokens r + expr_tokens e)
simple-AssignBits b r e = of_simple-AssignBits statement_counts b r e

pub simple-Goto : (at : Position) (n : RawName) → simple_tokens (simple_tree.Goto at n) ≡ 2
simple-Goto at n = of_simple-Goto statement_counts at n

pub simple-GotoSwitch : (at : Position) (n : RawName) (e : RawExpr) → simple_tokens (simple_tree.GotoSwitch at n e) ≡ 4 + expr_tokens e
simple-GotoSwitch at n e = of_simple-GotoSwitch statement_counts at n e

pub simple-Call : (f : RawName) (xs : List RawExpr) → simple_tokens (simple_tree.Call f xs) ≡ suc (arguments (map expr_tokens xs))
simple-Call f xs = of_simple-Call statement_counts f xs

pub simple-Answer : (at : Position) (e : RawExpr) → simple_tokens (simple_tree.Answer at e) ≡ suc (expr_tokens e)
simple-Answer at e = of_simple-Answer statement_counts at e

pub simple-Block : (b : RawBlock) → simple_tokens (simple_tree.Block b) ≡ block_tokens b
simple-Block b = of_simple-Block statement_counts b

pub block-made : (at : Position) (ds : List RawDecl) (ss : List RawStmt) → block_tokens (roll-RawBlock (record { at = at; decls = ds; stmts = ss })) ≡ suc (total (map decl_tokens ds) + separated (map stmt_tokens ss))
block-made at ds ss = fold-roll-RawBlock ℕ ℕ ℕ ℕ ℕ ℕ decl_step form_step simple_step block_step proc_step stmt_step (record { at = at; decls = ds; stmts = ss })

pub proc-made : (o : Option RawType) (t : RawPtag) (n : RawName) (ps : List RawParam) (s : RawStmt) → proc_tokens (roll-RawProc (record { answer = o; tag = t; name = n; params = ps; body = s })) ≡ 4 + (total (map param_tokens ps) + stmt_tokens s)
proc-made o t n ps s = fold-roll-RawProc ℕ ℕ ℕ ℕ ℕ ℕ decl_step form_step simple_step block_step proc_step stmt_step (record { answer = o; tag = t; name = n; params = ps; body = s })

pub stmt-made : (ls : List RawName) (x : RawForm) → stmt_tokens (roll-RawStmt (record { labels = ls; form = x })) ≡ 2 * length ls + form_tokens x
stmt-made ls x = fold-roll-RawStmt ℕ ℕ ℕ ℕ ℕ ℕ decl_step form_step simple_step block_step proc_step stmt_step (record { labels = ls; form = x })

pub stmt-layer : (x : RawStmt) → stmt_tokens x ≡ 2 * length (out-RawStmt x).labels + form_tokens (out-RawStmt x).form
stmt-layer = of_statement-out statement_counts
