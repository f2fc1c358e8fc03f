use Rattle.std.proofs.Common.{map, drop}
use Rattle.cw_lex.specs.declared.token.Word.TheVariants as words
use Rattle.cw_show.specs.Spelling.{word}
use Rattle.cw_show.specs.Canonical.{add_symbol, multiply_symbol, behind_each, behind_operators, comma}
use Rattle.cw_show.specs.ExpressionTokens.{expr_tokens, cand_tokens, cmp_tokens, differ_tokens, mask_tokens, prim_tokens, term_tokens, union_tokens}
use Rattle.cw_show.proofs.Adding.{Keeps}
use Rattle.cw_show.proofs.expression.+expression.Given as goal

abbrev pub invariant-put_cond-loop-operand : goal.invariant-put_cond-loop-operand
invariant-put_cond-loop-operand l = Keeps l.initial.out l.out (behind_each (word words.Or) (map cand_tokens l.rest))
    (behind_each (word words.Or) (map cand_tokens (drop l.operand-index l.rest)))

abbrev pub invariant-put_cand-loop-operand : goal.invariant-put_cand-loop-operand
invariant-put_cand-loop-operand l = Keeps l.initial.out l.out (behind_each (word words.And) (map cmp_tokens l.rest))
    (behind_each (word words.And) (map cmp_tokens (drop l.operand-index l.rest)))

abbrev pub invariant-put_differ-loop-operand : goal.invariant-put_differ-loop-operand
invariant-put_differ-loop-operand l = Keeps l.initial.out l.out (behind_each (word words.Differ) (map union_tokens l.rest))
    (behind_each (word words.Differ) (map union_tokens (drop l.operand-index l.rest)))

abbrev pub invariant-put_union-loop-operand : goal.invariant-put_union-loop-operand
invariant-put_union-loop-operand l = Keeps l.initial.out l.out (behind_each (word words.Union) (map mask_tokens l.rest))
    (behind_each (word words.Union) (map mask_tokens (drop l.operand-index l.rest)))

abbrev pub invariant-put_mask-loop-operand : goal.invariant-put_mask-loop-operand
invariant-put_mask-loop-operand l = Keeps l.initial.out l.out (behind_each (word words.Mask) (map prim_tokens l.rest))
    (behind_each (word words.Mask) (map prim_tokens (drop l.operand-index l.rest)))

abbrev pub invariant-put_exprs-loop-expr : goal.invariant-put_exprs-loop-expr
invariant-put_exprs-loop-expr l = Keeps l.initial.out l.out (behind_each comma (map expr_tokens l.rest)) (behind_each comma (map expr_tokens (drop l.expr-index l.rest)))

abbrev pub invariant-put_sum-loop-i : goal.invariant-put_sum-loop-i
invariant-put_sum-loop-i l = Keeps l.initial.out l.out (behind_operators (map (λ s. add_symbol s.op) l.signs) (map term_tokens l.rest))
    (behind_operators (map (λ s. add_symbol s.op) (drop l.i l.signs)) (map term_tokens (drop l.i l.rest)))

abbrev pub invariant-put_term-loop-i : goal.invariant-put_term-loop-i
invariant-put_term-loop-i l = Keeps l.initial.out l.out (behind_operators (map (λ s. multiply_symbol s.op) l.signs) (map differ_tokens l.rest))
    (behind_operators (map (λ s. multiply_symbol s.op) (drop l.i l.signs)) (map differ_tokens (drop l.i l.rest)))
