-- The canonical tokens of expressions by their first layer.
use Rattle.std.proofs.Common.{◌≡◌, ◌+◌, ◌∷◌, ◌++◌, sym, map}
use Rattle.cw_lex.specs.declared.token.Word.TheVariants as words
use Rattle.cw_tree.specs.declared.leaf.Position.{Position}
use Rattle.cw_tree.specs.declared.expression.RawExpr.{RawExpr}
use Rattle.cw_tree.specs.declared.expression.RawPrimary.{RawPrimary}
use Rattle.cw_tree.specs.declared.expression.RawPrimary.TheVariants as primary_tree
use Rattle.cw_tree.specs.declared.expression.RawCand.{RawCand, out-RawCand}
use Rattle.cw_tree.specs.declared.expression.RawCmp.{RawCmp, out-RawCmp}
use Rattle.cw_tree.specs.declared.expression.RawCond.{RawCond, out-RawCond}
use Rattle.cw_tree.specs.declared.expression.RawDiffer.{RawDiffer, out-RawDiffer}
use Rattle.cw_tree.specs.declared.expression.RawMask.{RawMask, out-RawMask}
use Rattle.cw_tree.specs.declared.expression.RawPrim.{RawPrim, out-RawPrim}
use Rattle.cw_tree.specs.declared.expression.RawSum.{RawSum, out-RawSum}
use Rattle.cw_tree.specs.declared.expression.RawTerm.{RawTerm, out-RawTerm}
use Rattle.cw_tree.specs.declared.expression.RawUnion.{RawUnion, out-RawUnion}
use Rattle.cw_tree.proofs.Expressions.{ExpressionSteps, expression_steps, of_comparison-out, of_condition-out, of_conjunction-out, of_differ-out, of_mask-out, of_prim-out, of_primary-Bracket, of_sum-out, of_term-out, of_union-out}
use Rattle.cw_show.specs.declared.written.Text.{Text}
use Rattle.cw_show.specs.Adding.{Adds}
use Rattle.cw_show.specs.Spelling.{word}
use Rattle.cw_show.specs.Canonical.{Tokens, add_symbol, multiply_symbol, compare_symbol, sign_tokens, bracketed, between, operation, joined}
use Rattle.cw_show.specs.ExpressionTokens.{bits_tokens, expr_step, primary_step, ref_step, cand_step, cmp_step, cond_step, differ_step, mask_step, prim_step, sum_step, term_step, union_step, expr_tokens, primary_tokens, cand_tokens, cmp_tokens, cond_tokens, differ_tokens, mask_tokens, prim_tokens, sum_tokens, term_tokens, union_tokens}
use Rattle.cw_show.proofs.Adding.{becomes}

abbrev pub steps : ExpressionSteps Tokens Tokens Tokens Tokens Tokens Tokens Tokens Tokens Tokens Tokens Tokens Tokens
steps = expression_steps expr_step primary_step ref_step cand_step cmp_step cond_step differ_step mask_step prim_step sum_step term_step union_step

pub cond-layer : (x : RawCond) → cond_tokens x ≡ between (word words.Or) (map cand_tokens (out-RawCond x).operands)
cond-layer = of_condition-out steps

pub cand-layer : (x : RawCand) → cand_tokens x ≡ between (word words.And) (map cmp_tokens (out-RawCand x).operands)
cand-layer = of_conjunction-out steps

pub differ-layer : (x : RawDiffer) → differ_tokens x ≡ between (word words.Differ) (map union_tokens (out-RawDiffer x).operands)
differ-layer = of_differ-out steps

pub union-layer : (x : RawUnion) → union_tokens x ≡ between (word words.Union) (map mask_tokens (out-RawUnion x).operands)
union-layer = of_union-out steps

pub mask-layer : (x : RawMask) → mask_tokens x ≡ between (word words.Mask) (map prim_tokens (out-RawMask x).operands)
mask-layer = of_mask-out steps

pub cmp-layer : (x : RawCmp) → cmp_tokens x ≡ sum_tokens (out-RawCmp x).left ++ compare_symbol (out-RawCmp x).operator.op ∷ sum_tokens (out-RawCmp x).right
cmp-layer = of_comparison-out steps

pub prim-layer : (x : RawPrim) → prim_tokens x ≡ joined (map bits_tokens (out-RawPrim x).bits) ++ primary_tokens (out-RawPrim x).primary
prim-layer = of_prim-out steps

pub sum-layer : (x : RawSum) → sum_tokens x ≡ sign_tokens (out-RawSum x).sign ++ operation (map (λ s. add_symbol s.op) (out-RawSum x).operators) (map term_tokens (out-RawSum x).operands)
sum-layer = of_sum-out steps

pub term-layer : (x : RawTerm) → term_tokens x ≡ operation (map (λ s. multiply_symbol s.op) (out-RawTerm x).operators) (map differ_tokens (out-RawTerm x).operands)
term-layer = of_term-out steps

-- A bracket, told of its tokens alone: what is proved by it cites no call.
pub bracket_added : {a b : Text} (p : RawPrimary) (at : Position) (e e' : RawExpr) → Adds a b (bracketed (expr_tokens e')) → p ≡ primary_tree.Bracket at e → e' ≡ e
    → Adds a b (primary_tokens p)
bracket_added p at e e' added is same = becomes added (rw (is, same) (sym (of_primary-Bracket steps at e)))
