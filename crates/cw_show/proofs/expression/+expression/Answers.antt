use Rattle.std.proofs.Common.{refl, sym, rules}
use Rattle.cw_lex.specs.declared.token.Word.TheVariants as words
use Rattle.cw_tree.specs.declared.expression.RawCand.{out-RawCand}
use Rattle.cw_tree.specs.declared.expression.RawCond.{out-RawCond}
use Rattle.cw_tree.specs.declared.expression.RawDiffer.{out-RawDiffer}
use Rattle.cw_tree.specs.declared.expression.RawMask.{out-RawMask}
use Rattle.cw_tree.specs.declared.expression.RawUnion.{out-RawUnion}
use Rattle.cw_tree.proofs.Expressions.{of_expression-Choice, of_expression-Sum, of_primary-Call, of_primary-Forced, of_primary-Literal, of_primary-Location, of_primary-Number, of_primary-Octal, of_primary-Ref, of_primary-Text, of_reference-Bare, of_reference-Name, of_reference-One, of_reference-Two}
use Rattle.cw_show.specs.Spelling.{word}
use Rattle.cw_show.specs.Canonical.{comma, add_symbol, multiply_symbol}
use Rattle.cw_show.specs.ExpressionTokens.{expr_tokens, cand_tokens, cmp_tokens, differ_tokens, mask_tokens, prim_tokens, term_tokens, union_tokens}
use Rattle.cw_show.proofs.Adding.{in_order, becomes, begun, one_more_behind, none_between, all_between, one_more_operated, none_operated, all_operated, behind_first}
use Rattle.cw_show.proofs.ExpressionLayers.{steps, bracket_added, cand-layer, cmp-layer, cond-layer, differ-layer, mask-layer, prim-layer, sum-layer, term-layer, union-layer}
use Rattle.cw_show.proofs.expression.+expression.Goals as goal

pub put_expr-returns-in-Choice : goal.put_expr-returns-in-Choice
put_expr-returns-in-Choice t c = becomes (in_order c.put_word.ensures (in_order c.put_cond.ensures
    (in_order c.put_word-in-Choice.ensures (in_order c.put_expr.ensures (in_order c.put_word-in-Choice-2.ensures c.put_expr-in-Choice.ensures)))))
    (rw (c.in-Choice.is, c.get.ensures, c.get-in-Choice.ensures, c.get-in-Choice-2.ensures)
    (sym (of_expression-Choice steps c.in-Choice.field-0 c.in-Choice.test c.in-Choice.first c.in-Choice.second)))

pub put_expr-returns-in-Sum : goal.put_expr-returns-in-Sum
put_expr-returns-in-Sum t c = becomes c.put_sum.ensures (rw (c.in-Sum.is, c.get-in-Sum.ensures) (sym (of_expression-Sum steps c.in-Sum.sum)))

pub put_cmp-returns : goal.put_cmp-returns
put_cmp-returns t c = becomes (in_order c.put_sum.ensures (in_order c.put_compare_op.ensures c.put_sum-2.ensures))
    (rw (c.get.ensures, c.get-2.ensures) (sym (cmp-layer c.args.cmp.now)))

pub put_prim-returns : goal.put_prim-returns
put_prim-returns t c = becomes (in_order c.put_all_bits.ensures c.put_primary.ensures) (rw c.as_slice.ensures (sym (prim-layer c.args.prim.now)))

pub put_primary-returns-in-Number : goal.put_primary-returns-in-Number
put_primary-returns-in-Number t c = becomes c.put_number.ensures (rw c.in-Number.is (sym (of_primary-Number steps c.in-Number.number)))

pub put_primary-returns-in-Octal : goal.put_primary-returns-in-Octal
put_primary-returns-in-Octal t c = becomes c.put_octal.ensures (rw c.in-Octal.is (sym (of_primary-Octal steps c.in-Octal.octal)))

pub put_primary-returns-in-Literal : goal.put_primary-returns-in-Literal
put_primary-returns-in-Literal t c = becomes c.put_literal.ensures (rw c.in-Literal.is (sym (of_primary-Literal steps c.in-Literal.literal)))

pub put_primary-returns-in-Text : goal.put_primary-returns-in-Text
put_primary-returns-in-Text t c = becomes c.put_string.ensures (rw (c.in-Text.is, c.as_slice.ensures) (sym (of_primary-Text steps c.in-Text.field-0 c.in-Text.characters)))

pub put_primary-returns-in-Location : goal.put_primary-returns-in-Location
put_primary-returns-in-Location t c = becomes (in_order c.put_word.ensures c.put_located.ensures)
    (rw (c.in-Location.is, c.get.ensures) (sym (of_primary-Location steps c.in-Location.field-0 c.in-Location.place)))

pub put_primary-returns-in-Forced : goal.put_primary-returns-in-Forced
put_primary-returns-in-Forced t c = becomes (in_order c.put_type.ensures c.put_bracketed.ensures)
    (rw (c.in-Forced.is, c.get-in-Forced.ensures, c.get-in-Forced-2.ensures) (sym (of_primary-Forced steps c.in-Forced.number_type c.in-Forced.value)))

pub put_primary-returns-in-Bracket : goal.put_primary-returns-in-Bracket
put_primary-returns-in-Bracket t c = search (rules, bracket_added)

pub put_primary-returns-in-Ref : goal.put_primary-returns-in-Ref
put_primary-returns-in-Ref t c = becomes c.put_ref.ensures (rw c.in-Ref.is (sym (of_primary-Ref steps c.in-Ref.place)))

pub put_primary-returns-in-Call : goal.put_primary-returns-in-Call
put_primary-returns-in-Call t c = becomes (in_order c.put_name.ensures c.put_arguments.ensures)
    (rw (c.in-Call.is, c.get-in-Call.ensures, c.as_slice-in-Call.ensures) (sym (of_primary-Call steps c.in-Call.name c.in-Call.arguments)))

pub put_ref-returns-in-Name : goal.put_ref-returns-in-Name
put_ref-returns-in-Name t c = becomes c.put_name.ensures (rw c.in-Name.is (sym (of_reference-Name steps c.in-Name.name)))

pub put_ref-returns-in-One : goal.put_ref-returns-in-One
put_ref-returns-in-One t c = becomes (in_order c.put_name-in-One.ensures c.put_index.ensures)
    (rw (c.in-One.is, c.get.ensures) (sym (of_reference-One steps c.in-One.name c.in-One.index)))

pub put_ref-returns-in-Two : goal.put_ref-returns-in-Two
put_ref-returns-in-Two t c = becomes (in_order c.put_name-in-Two.ensures
    (in_order c.put_symbol.ensures (in_order c.put_expr.ensures (in_order c.put_symbol-in-Two.ensures (in_order c.put_expr-in-Two.ensures c.put_symbol-in-Two-2.ensures)))))
    (rw (c.in-Two.is, c.get-in-Two.ensures, c.get-in-Two-2.ensures, c.get-in-Two-3.ensures)
    (sym (of_reference-Two steps c.in-Two.name c.in-Two.first c.in-Two.second)))

pub put_ref-returns-in-Bare : goal.put_ref-returns-in-Bare
put_ref-returns-in-Bare t c = becomes c.put_index-in-Bare.ensures (rw (c.in-Bare.is, c.get-in-Bare.ensures) (sym (of_reference-Bare steps c.in-Bare.field-0 c.in-Bare.index)))

pub put_bracketed-returns : goal.put_bracketed-returns
put_bracketed-returns t c = in_order c.put_symbol.ensures (in_order c.put_expr.ensures c.put_symbol-2.ensures)

pub put_located-returns : goal.put_located-returns
put_located-returns t c = in_order c.put_symbol.ensures (in_order c.put_ref.ensures c.put_symbol-2.ensures)

pub put_index-returns : goal.put_index-returns
put_index-returns t c = in_order c.put_symbol.ensures (in_order c.put_expr.ensures c.put_symbol-2.ensures)

pub put_arguments-returns : goal.put_arguments-returns
put_arguments-returns t c = in_order c.put_symbol.ensures (in_order c.put_exprs.ensures c.put_symbol-2.ensures)

pub put_cond-returns-in-empty : goal.put_cond-returns-in-empty
put_cond-returns-in-empty t c = none_between (word words.Or) cand_tokens (out-RawCond c.args.cond.now).operands c.as_slice.result.now c.args.out.now (cond-layer c.args.cond.now)
    c.as_slice.ensures c.in-empty.len_below

pub put_cond-loop-operand-init : goal.put_cond-loop-operand-init
put_cond-loop-operand-init t c = begun _ _

pub put_cond-loop-operand-preserved : goal.put_cond-loop-operand-preserved
put_cond-loop-operand-preserved t c =
    one_more_behind (word words.Or) cand_tokens (behind_first c.as_slice.result.now) c.loop-operand.operand-index c.operand-item.result
    c.loop-operand-test.true c.operand-item.is c.loop-operand.invariant c.put_word.ensures c.put_cand-in-loop-operand.ensures

pub put_cond-returns-after-loop-operand : goal.put_cond-returns-after-loop-operand
put_cond-returns-after-loop-operand t c =
    all_between (word words.Or) cand_tokens (out-RawCond c.args.cond.now).operands c.as_slice.result.now c.first-item.result c.loop-operand.operand-index
    (cond-layer c.args.cond.now) c.as_slice.ensures c.in-len1-up.len_at_least c.first-item.is c.loop-operand-test.false c.put_cand.ensures c.loop-operand.invariant

pub put_cand-returns-in-empty : goal.put_cand-returns-in-empty
put_cand-returns-in-empty t c = none_between (word words.And) cmp_tokens (out-RawCand c.args.cand.now).operands c.as_slice.result.now c.args.out.now (cand-layer c.args.cand.now)
    c.as_slice.ensures c.in-empty.len_below

pub put_cand-loop-operand-init : goal.put_cand-loop-operand-init
put_cand-loop-operand-init t c = begun _ _

pub put_cand-loop-operand-preserved : goal.put_cand-loop-operand-preserved
put_cand-loop-operand-preserved t c =
    one_more_behind (word words.And) cmp_tokens (behind_first c.as_slice.result.now) c.loop-operand.operand-index c.operand-item.result
    c.loop-operand-test.true c.operand-item.is c.loop-operand.invariant c.put_word.ensures c.put_cmp-in-loop-operand.ensures

pub put_cand-returns-after-loop-operand : goal.put_cand-returns-after-loop-operand
put_cand-returns-after-loop-operand t c =
    all_between (word words.And) cmp_tokens (out-RawCand c.args.cand.now).operands c.as_slice.result.now c.first-item.result c.loop-operand.operand-index
    (cand-layer c.args.cand.now) c.as_slice.ensures c.in-len1-up.len_at_least c.first-item.is c.loop-operand-test.false c.put_cmp.ensures c.loop-operand.invariant

pub put_differ-returns-in-empty : goal.put_differ-returns-in-empty
put_differ-returns-in-empty t c = none_between (word words.Differ) union_tokens (out-RawDiffer c.args.differ.now).operands c.as_slice.result.now c.args.out.now
    (differ-layer c.args.differ.now) c.as_slice.ensures c.in-empty.len_below

pub put_differ-loop-operand-init : goal.put_differ-loop-operand-init
put_differ-loop-operand-init t c = begun _ _

pub put_differ-loop-operand-preserved : goal.put_differ-loop-operand-preserved
put_differ-loop-operand-preserved t c =
    one_more_behind (word words.Differ) union_tokens (behind_first c.as_slice.result.now) c.loop-operand.operand-index c.operand-item.result
    c.loop-operand-test.true c.operand-item.is c.loop-operand.invariant c.put_word.ensures c.put_union-in-loop-operand.ensures

pub put_differ-returns-after-loop-operand : goal.put_differ-returns-after-loop-operand
put_differ-returns-after-loop-operand t c =
    all_between (word words.Differ) union_tokens (out-RawDiffer c.args.differ.now).operands c.as_slice.result.now c.first-item.result c.loop-operand.operand-index
    (differ-layer c.args.differ.now) c.as_slice.ensures c.in-len1-up.len_at_least c.first-item.is c.loop-operand-test.false c.put_union.ensures c.loop-operand.invariant

pub put_union-returns-in-empty : goal.put_union-returns-in-empty
put_union-returns-in-empty t c = none_between (word words.Union) mask_tokens (out-RawUnion c.args.union.now).operands c.as_slice.result.now c.args.out.now
    (union-layer c.args.union.now) c.as_slice.ensures c.in-empty.len_below

pub put_union-loop-operand-init : goal.put_union-loop-operand-init
put_union-loop-operand-init t c = begun _ _

pub put_union-loop-operand-preserved : goal.put_union-loop-operand-preserved
put_union-loop-operand-preserved t c =
    one_more_behind (word words.Union) mask_tokens (behind_first c.as_slice.result.now) c.loop-operand.operand-index c.operand-item.result
    c.loop-operand-test.true c.operand-item.is c.loop-operand.invariant c.put_word.ensures c.put_mask-in-loop-operand.ensures

pub put_union-returns-after-loop-operand : goal.put_union-returns-after-loop-operand
put_union-returns-after-loop-operand t c =
    all_between (word words.Union) mask_tokens (out-RawUnion c.args.union.now).operands c.as_slice.result.now c.first-item.result c.loop-operand.operand-index
    (union-layer c.args.union.now) c.as_slice.ensures c.in-len1-up.len_at_least c.first-item.is c.loop-operand-test.false c.put_mask.ensures c.loop-operand.invariant

pub put_mask-returns-in-empty : goal.put_mask-returns-in-empty
put_mask-returns-in-empty t c = none_between (word words.Mask) prim_tokens (out-RawMask c.args.mask.now).operands c.as_slice.result.now c.args.out.now
    (mask-layer c.args.mask.now) c.as_slice.ensures c.in-empty.len_below

pub put_mask-loop-operand-init : goal.put_mask-loop-operand-init
put_mask-loop-operand-init t c = begun _ _

pub put_mask-loop-operand-preserved : goal.put_mask-loop-operand-preserved
put_mask-loop-operand-preserved t c =
    one_more_behind (word words.Mask) prim_tokens (behind_first c.as_slice.result.now) c.loop-operand.operand-index c.operand-item.result
    c.loop-operand-test.true c.operand-item.is c.loop-operand.invariant c.put_word.ensures c.put_prim-in-loop-operand.ensures

pub put_mask-returns-after-loop-operand : goal.put_mask-returns-after-loop-operand
put_mask-returns-after-loop-operand t c =
    all_between (word words.Mask) prim_tokens (out-RawMask c.args.mask.now).operands c.as_slice.result.now c.first-item.result c.loop-operand.operand-index
    (mask-layer c.args.mask.now) c.as_slice.ensures c.in-len1-up.len_at_least c.first-item.is c.loop-operand-test.false c.put_prim.ensures c.loop-operand.invariant

pub put_exprs-returns-in-empty : goal.put_exprs-returns-in-empty
put_exprs-returns-in-empty t c = none_between comma expr_tokens c.args.exprs.now c.args.exprs.now c.args.out.now refl refl c.in-empty.len_below

pub put_exprs-loop-expr-init : goal.put_exprs-loop-expr-init
put_exprs-loop-expr-init t c = begun _ _

pub put_exprs-loop-expr-preserved : goal.put_exprs-loop-expr-preserved
put_exprs-loop-expr-preserved t c =
    one_more_behind comma expr_tokens (behind_first c.args.exprs.now) c.loop-expr.expr-index c.expr-item.result
    c.loop-expr-test.true c.expr-item.is c.loop-expr.invariant c.put_symbol.ensures c.put_expr-in-loop-expr.ensures

pub put_exprs-returns-after-loop-expr : goal.put_exprs-returns-after-loop-expr
put_exprs-returns-after-loop-expr t c =
    all_between comma expr_tokens c.args.exprs.now c.args.exprs.now c.first-item.result c.loop-expr.expr-index
    refl refl c.in-len1-up.len_at_least c.first-item.is c.loop-expr-test.false c.put_expr.ensures c.loop-expr.invariant

pub put_sum-returns-in-empty : goal.put_sum-returns-in-empty
put_sum-returns-in-empty t c = becomes (in_order c.put_sign.ensures (none_operated (λ s. add_symbol s.op) term_tokens c.as_slice-signs.result.now c.as_slice.result.now
    c.put_sign.new.out c.in-empty.len_below)) (rw (c.as_slice-signs.ensures, c.as_slice.ensures) (sym (sum-layer c.args.sum.now)))

pub put_sum-loop-i-init : goal.put_sum-loop-i-init
put_sum-loop-i-init t c = begun _ _

pub put_sum-loop-i-preserved : goal.put_sum-loop-i-preserved
put_sum-loop-i-preserved t c =
    one_more_operated (λ s. add_symbol s.op) term_tokens c.as_slice-signs.result.now (behind_first c.as_slice.result.now) c.loop-i.i c.index-rest-i.result
    c.loop-i-test.true c.index-rest-i.is c.loop-i.invariant c.put_add_at.ensures c.put_term-in-loop-i.ensures

pub put_sum-returns-after-loop-i : goal.put_sum-returns-after-loop-i
put_sum-returns-after-loop-i t c =
    becomes (in_order c.put_sign.ensures (all_operated (λ s. add_symbol s.op) term_tokens c.as_slice-signs.result.now c.as_slice.result.now c.first-item.result c.loop-i.i
    c.in-len1-up.len_at_least c.first-item.is c.loop-i-test.false c.put_term.ensures c.loop-i.invariant))
    (rw (c.as_slice-signs.ensures, c.as_slice.ensures) (sym (sum-layer c.args.sum.now)))

pub put_term-returns-in-empty : goal.put_term-returns-in-empty
put_term-returns-in-empty t c = becomes (none_operated (λ s. multiply_symbol s.op) differ_tokens c.as_slice-signs.result.now c.as_slice.result.now c.args.out.now
    c.in-empty.len_below) (rw (c.as_slice-signs.ensures, c.as_slice.ensures) (sym (term-layer c.args.term.now)))

pub put_term-loop-i-init : goal.put_term-loop-i-init
put_term-loop-i-init t c = begun _ _

pub put_term-loop-i-preserved : goal.put_term-loop-i-preserved
put_term-loop-i-preserved t c =
    one_more_operated (λ s. multiply_symbol s.op) differ_tokens c.as_slice-signs.result.now (behind_first c.as_slice.result.now) c.loop-i.i c.index-rest-i.result
    c.loop-i-test.true c.index-rest-i.is c.loop-i.invariant c.put_mul_at.ensures c.put_differ-in-loop-i.ensures

pub put_term-returns-after-loop-i : goal.put_term-returns-after-loop-i
put_term-returns-after-loop-i t c =
    becomes (all_operated (λ s. multiply_symbol s.op) differ_tokens c.as_slice-signs.result.now c.as_slice.result.now c.first-item.result c.loop-i.i c.in-len1-up.len_at_least
    c.first-item.is c.loop-i-test.false c.put_differ.ensures c.loop-i.invariant)
    (rw (c.as_slice-signs.ensures, c.as_slice.ensures) (sym (term-layer c.args.term.now)))
