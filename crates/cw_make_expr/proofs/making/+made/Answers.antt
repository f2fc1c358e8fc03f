use Rattle.std.proofs.Common.{true, refl, ap, ap₂, sym, ◌∙◌, List, [], ◌∷◌, ◌++◌, map, false, append_assoc, append-nil}
use Rattle.std.specs.Prelude.{◌==◌}
use Rattle.std.proofs.lemmas.Result.{IfOk-weaker}
use Rattle.cw_tree.specs.declared.expression.RawCmp.{out-RawCmp}
use Rattle.cw_tree.specs.declared.expression.RawSum.{out-RawSum}
use Rattle.cw_tree.specs.declared.expression.RawTerm.{out-RawTerm}
use Rattle.cw_tree.specs.declared.expression.RawPrim.{out-RawPrim}
use Rattle.cw_tree.specs.declared.segment.RawPs.{RawPs}
use Rattle.cw_unit.specs.declared.unit.Arg.{Arg}
use Rattle.cw_unit.specs.declared.unit.LogicOp.TheVariants as logic_op
use Rattle.cw_make_expr.specs.Nodes.{both, either, logic, comparison, comparator, added, multiplied}
use Rattle.cw_make_expr.specs.Made.{Made, argument_for, arguments_for, expression_made}
use Rattle.cw_make_expr.specs.Made.{any_from, any_of, all_from, all_of, logic_from, logic_of, factors_from, term_of, terms_from, sum_of, prim_of, operand_for, bits_around, conjunction_made, comparison_made, sum_made, term_made, differ_made, union_made, mask_made, prim_made, primary_made}
use Rattle.cw_make_expr.proofs.Arms.{choice_made, alone_made, number_made, text_made, location_made, forced_made, bracket_made, value_made, call_made, place_made, named_made, indexed_made, twice_indexed_made, bare_made, value_taken, place_taken}
use Rattle.cw_scale.specs.Kinds.{fraction_of}
use Rattle.cw_scale.proofs.Turns.{behind_first}
use Rattle.cw_make_expr.proofs.Loops.{one_more_made, one_more_signed, no_more_signed, no_more_signs}
use Rattle.cw_make_expr.proofs.Layers.{condition-layer, conjunction-layer, comparison-layer, sum-layer, term-layer, differ-layer, union-layer, mask-layer, prim-layer, logic_none, logic_end, conditions_none, conditions_end, term_none, term_whole, sum_none, sum_alone, sum_whole}
use Rattle.cw_make_expr.proofs.making.+made.Goals as goal

pub make_condition-loop-operand-init : goal.make_condition-loop-operand-init
make_condition-loop-operand-init t c =
    λ first h. h

pub make_condition-loop-operand-preserved : goal.make_condition-loop-operand-preserved
make_condition-loop-operand-preserved t c =
    λ first h. one_more_made any_from either (λ s b bs. refl) (λ s. refl) (conjunction_made c.args.text.named.now c.args.text.numbers.now) (behind_first c.as_slice.result.now)
    c.loop-operand.operand-index c.operand-item.result first c.either-so_far.result
    c.loop-operand-test.true c.operand-item.is (c.either-so_far.ensures _ _ (c.loop-operand.invariant first h) c.make_conjunction.ensures)

pub make_condition-returns-after-loop-operand : goal.make_condition-returns-after-loop-operand
make_condition-returns-after-loop-operand t c =
    IfOk-weaker c.loop-operand.so_far _ _ (λ z h. h ∙ conditions_end any_from any_of (λ _ _. refl) refl (conjunction_made c.args.text.named.now c.args.text.numbers.now)
    c.as_slice.result.now c.first-item.result c.loop-operand.operand-index c.in-len1-up.len_at_least c.first-item.is c.loop-operand-test.false
    ∙ ap (λ l. any_of (map (conjunction_made c.args.text.named.now c.args.text.numbers.now) l)) c.as_slice.ensures
    ∙ sym (condition-layer c.args.text.named.now c.args.text.numbers.now c.args.c.now)) (c.loop-operand.invariant _ c.make_conjunction-so_far.ensures)

pub make_condition-returns-in-empty : goal.make_condition-returns-in-empty
make_condition-returns-in-empty t c =
    IfOk-weaker c.new.result _ _ (λ x h. h ∙ c.no_condition.ensures ∙ conditions_none any_from any_of (λ _ _. refl) refl
    (conjunction_made c.args.text.named.now c.args.text.numbers.now) c.as_slice.result.now c.in-empty.len_below
    ∙ ap (λ l. any_of (map (conjunction_made c.args.text.named.now c.args.text.numbers.now) l)) c.as_slice.ensures
    ∙ sym (condition-layer c.args.text.named.now c.args.text.numbers.now c.args.c.now)) c.new.ensures

pub make_conjunction-loop-operand-init : goal.make_conjunction-loop-operand-init
make_conjunction-loop-operand-init t c =
    λ first h. h

pub make_conjunction-loop-operand-preserved : goal.make_conjunction-loop-operand-preserved
make_conjunction-loop-operand-preserved t c =
    λ first h. one_more_made all_from both (λ s b bs. refl) (λ s. refl) (comparison_made c.args.text.named.now c.args.text.numbers.now) (behind_first c.as_slice.result.now)
    c.loop-operand.operand-index c.operand-item.result first c.both-so_far.result
    c.loop-operand-test.true c.operand-item.is (c.both-so_far.ensures _ _ (c.loop-operand.invariant first h) c.make_comparison.ensures)

pub make_conjunction-returns-after-loop-operand : goal.make_conjunction-returns-after-loop-operand
make_conjunction-returns-after-loop-operand t c =
    IfOk-weaker c.loop-operand.so_far _ _ (λ z h. h ∙ conditions_end all_from all_of (λ _ _. refl) refl (comparison_made c.args.text.named.now c.args.text.numbers.now)
    c.as_slice.result.now c.first-item.result c.loop-operand.operand-index c.in-len1-up.len_at_least c.first-item.is c.loop-operand-test.false
    ∙ ap (λ l. all_of (map (comparison_made c.args.text.named.now c.args.text.numbers.now) l)) c.as_slice.ensures
    ∙ sym (conjunction-layer c.args.text.named.now c.args.text.numbers.now c.args.c.now)) (c.loop-operand.invariant _ c.make_comparison-so_far.ensures)

pub make_conjunction-returns-in-empty : goal.make_conjunction-returns-in-empty
make_conjunction-returns-in-empty t c =
    IfOk-weaker c.new.result _ _ (λ x h. h ∙ c.no_condition.ensures ∙ conditions_none all_from all_of (λ _ _. refl) refl
    (comparison_made c.args.text.named.now c.args.text.numbers.now) c.as_slice.result.now c.in-empty.len_below
    ∙ ap (λ l. all_of (map (comparison_made c.args.text.named.now c.args.text.numbers.now) l)) c.as_slice.ensures
    ∙ sym (conjunction-layer c.args.text.named.now c.args.text.numbers.now c.args.c.now)) c.new.ensures

pub make_differ-loop-other-init : goal.make_differ-loop-other-init
make_differ-loop-other-init t c =
    λ first h. h

pub make_differ-loop-other-preserved : goal.make_differ-loop-other-preserved
make_differ-loop-other-preserved t c =
    λ first h. one_more_made (logic_from logic_op.Differ) (λ s b. logic logic_op.Differ s (b.made true)) (λ s b bs. refl) (λ s. refl)
    (union_made c.args.text.named.now c.args.text.numbers.now) (behind_first c.as_slice.result.now) c.loop-other.other-index c.other-item.result first c.logic-so_far.result
    c.loop-other-test.true c.other-item.is (c.logic-so_far.ensures _ _ (c.loop-other.invariant first h) c.make_union-next.ensures)

pub make_differ-returns-after-loop-other : goal.make_differ-returns-after-loop-other
make_differ-returns-after-loop-other t c =
    IfOk-weaker c.loop-other.so_far _ _ (λ z h. h ∙ logic_end logic_op.Differ (union_made c.args.text.named.now c.args.text.numbers.now) c.as_slice.result.now c.first-item.result
    c.args.operand c.operand_for-inside.result c.loop-other.other-index
    c.in-len1-up.len_at_least c.first-item.is c.loop-other-test.false c.operand_for-inside.ensures
    ∙ ap (λ l. (logic_of logic_op.Differ (map (union_made c.args.text.named.now c.args.text.numbers.now) l)).made c.args.operand) c.as_slice.ensures
    ∙ ap (λ m. m.made c.args.operand) (sym (differ-layer c.args.text.named.now c.args.text.numbers.now c.args.e.now))) (c.loop-other.invariant _ c.make_union-so_far.ensures)

pub make_differ-returns-in-empty : goal.make_differ-returns-in-empty
make_differ-returns-in-empty t c =
    IfOk-weaker c.new.result _ _ (λ x h. h ∙ c.nothing.ensures ∙ logic_none logic_op.Differ (union_made c.args.text.named.now c.args.text.numbers.now) c.as_slice.result.now
    c.args.operand c.in-empty.len_below
    ∙ ap (λ l. (logic_of logic_op.Differ (map (union_made c.args.text.named.now c.args.text.numbers.now) l)).made c.args.operand) c.as_slice.ensures
    ∙ ap (λ m. m.made c.args.operand) (sym (differ-layer c.args.text.named.now c.args.text.numbers.now c.args.e.now))) c.new.ensures

pub make_union-loop-other-init : goal.make_union-loop-other-init
make_union-loop-other-init t c =
    λ first h. h

pub make_union-loop-other-preserved : goal.make_union-loop-other-preserved
make_union-loop-other-preserved t c =
    λ first h. one_more_made (logic_from logic_op.Union) (λ s b. logic logic_op.Union s (b.made true)) (λ s b bs. refl) (λ s. refl)
    (mask_made c.args.text.named.now c.args.text.numbers.now) (behind_first c.as_slice.result.now) c.loop-other.other-index c.other-item.result first c.logic-so_far.result
    c.loop-other-test.true c.other-item.is (c.logic-so_far.ensures _ _ (c.loop-other.invariant first h) c.make_mask-next.ensures)

pub make_union-returns-after-loop-other : goal.make_union-returns-after-loop-other
make_union-returns-after-loop-other t c =
    IfOk-weaker c.loop-other.so_far _ _ (λ z h. h ∙ logic_end logic_op.Union (mask_made c.args.text.named.now c.args.text.numbers.now) c.as_slice.result.now c.first-item.result
    c.args.operand c.operand_for-inside.result c.loop-other.other-index
    c.in-len1-up.len_at_least c.first-item.is c.loop-other-test.false c.operand_for-inside.ensures
    ∙ ap (λ l. (logic_of logic_op.Union (map (mask_made c.args.text.named.now c.args.text.numbers.now) l)).made c.args.operand) c.as_slice.ensures
    ∙ ap (λ m. m.made c.args.operand) (sym (union-layer c.args.text.named.now c.args.text.numbers.now c.args.e.now))) (c.loop-other.invariant _ c.make_mask-so_far.ensures)

pub make_union-returns-in-empty : goal.make_union-returns-in-empty
make_union-returns-in-empty t c =
    IfOk-weaker c.new.result _ _ (λ x h. h ∙ c.nothing.ensures ∙ logic_none logic_op.Union (mask_made c.args.text.named.now c.args.text.numbers.now) c.as_slice.result.now
    c.args.operand c.in-empty.len_below
    ∙ ap (λ l. (logic_of logic_op.Union (map (mask_made c.args.text.named.now c.args.text.numbers.now) l)).made c.args.operand) c.as_slice.ensures
    ∙ ap (λ m. m.made c.args.operand) (sym (union-layer c.args.text.named.now c.args.text.numbers.now c.args.e.now))) c.new.ensures

pub make_mask-loop-other-init : goal.make_mask-loop-other-init
make_mask-loop-other-init t c =
    λ first h. h

pub make_mask-loop-other-preserved : goal.make_mask-loop-other-preserved
make_mask-loop-other-preserved t c =
    λ first h. one_more_made (logic_from logic_op.Mask) (λ s b. logic logic_op.Mask s (b.made true)) (λ s b bs. refl) (λ s. refl)
    (prim_made c.args.text.named.now c.args.text.numbers.now) (behind_first c.as_slice.result.now) c.loop-other.other-index c.other-item.result first c.logic-so_far.result
    c.loop-other-test.true c.other-item.is (c.logic-so_far.ensures _ _ (c.loop-other.invariant first h) c.make_prim-next.ensures)

pub make_mask-returns-after-loop-other : goal.make_mask-returns-after-loop-other
make_mask-returns-after-loop-other t c =
    IfOk-weaker c.loop-other.so_far _ _ (λ z h. h ∙ logic_end logic_op.Mask (prim_made c.args.text.named.now c.args.text.numbers.now) c.as_slice.result.now c.first-item.result
    c.args.operand c.operand_for-inside.result c.loop-other.other-index
    c.in-len1-up.len_at_least c.first-item.is c.loop-other-test.false c.operand_for-inside.ensures
    ∙ ap (λ l. (logic_of logic_op.Mask (map (prim_made c.args.text.named.now c.args.text.numbers.now) l)).made c.args.operand) c.as_slice.ensures
    ∙ ap (λ m. m.made c.args.operand) (sym (mask-layer c.args.text.named.now c.args.text.numbers.now c.args.e.now))) (c.loop-other.invariant _ c.make_prim-so_far.ensures)

pub make_mask-returns-in-empty : goal.make_mask-returns-in-empty
make_mask-returns-in-empty t c =
    IfOk-weaker c.new.result _ _ (λ x h. h ∙ c.nothing.ensures ∙ logic_none logic_op.Mask (prim_made c.args.text.named.now c.args.text.numbers.now) c.as_slice.result.now
    c.args.operand c.in-empty.len_below
    ∙ ap (λ l. (logic_of logic_op.Mask (map (prim_made c.args.text.named.now c.args.text.numbers.now) l)).made c.args.operand) c.as_slice.ensures
    ∙ ap (λ m. m.made c.args.operand) (sym (mask-layer c.args.text.named.now c.args.text.numbers.now c.args.e.now))) c.new.ensures

pub make_term-loop-other-init : goal.make_term-loop-other-init
make_term-loop-other-init t c =
    refl

pub make_term-returns-after-loop-other : goal.make_term-returns-after-loop-other
make_term-returns-after-loop-other t c =
    term_whole (differ_made c.args.text.named.now c.args.text.numbers.now) c.as_slice.result.now c.as_slice-signs.result.now c.first-item.result c.args.operand
    c.operand_for-inside.result c.in_ok-so_far-in-len1-up.so_far c.loop-other.so_far c.in-len1-up.len_at_least c.first-item.is
    c.operand_for-inside.ensures c.in_ok-so_far-in-len1-up.ensures
    (no_more_signed factors_from (λ s os. refl) (differ_made c.args.text.named.now c.args.text.numbers.now) (behind_first c.as_slice.result.now) c.loop-other.signs.now
    c.loop-other.other-index c.loop-other.so_far _ c.loop-other-test.false c.loop-other.invariant)
    ∙ ap (λ l. (term_of (map (differ_made c.args.text.named.now c.args.text.numbers.now) l) c.as_slice-signs.result.now).made c.args.operand) c.as_slice.ensures
    ∙ ap (λ l. (term_of (map (differ_made c.args.text.named.now c.args.text.numbers.now) (out-RawTerm c.args.e.now).operands) l).made c.args.operand) c.as_slice-signs.ensures
    ∙ ap (λ m. m.made c.args.operand) (sym (term-layer c.args.text.named.now c.args.text.numbers.now c.args.e.now))

pub make_term-returns-in-empty-signs : goal.make_term-returns-in-empty-signs
make_term-returns-in-empty-signs t c =
    term_whole (differ_made c.args.text.named.now c.args.text.numbers.now) c.as_slice.result.now c.as_slice-signs.result.now c.first-item.result c.args.operand
    c.operand_for-inside.result c.in_ok-so_far-in-len1-up.so_far c.loop-other.so_far c.in-len1-up.len_at_least c.first-item.is
    c.operand_for-inside.ensures c.in_ok-so_far-in-len1-up.ensures
    (no_more_signs factors_from (λ s b bs. refl) (differ_made c.args.text.named.now c.args.text.numbers.now) (behind_first c.as_slice.result.now) c.loop-other.signs.now
    c.loop-other.other-index c.other-item.result c.loop-other.so_far _ c.loop-other-test.true c.other-item.is c.in-empty-signs.len_below c.loop-other.invariant)
    ∙ ap (λ l. (term_of (map (differ_made c.args.text.named.now c.args.text.numbers.now) l) c.as_slice-signs.result.now).made c.args.operand) c.as_slice.ensures
    ∙ ap (λ l. (term_of (map (differ_made c.args.text.named.now c.args.text.numbers.now) (out-RawTerm c.args.e.now).operands) l).made c.args.operand) c.as_slice-signs.ensures
    ∙ ap (λ m. m.made c.args.operand) (sym (term-layer c.args.text.named.now c.args.text.numbers.now c.args.e.now))

pub make_term-returns-in-empty : goal.make_term-returns-in-empty
make_term-returns-in-empty t c =
    IfOk-weaker c.new.result _ _ (λ x h. h ∙ c.nothing.ensures ∙ term_none (differ_made c.args.text.named.now c.args.text.numbers.now) c.as_slice.result.now
    (out-RawTerm c.args.e.now).operators c.args.operand c.in-empty.len_below
    ∙ ap (λ l. (term_of (map (differ_made c.args.text.named.now c.args.text.numbers.now) l) (out-RawTerm c.args.e.now).operators).made c.args.operand) c.as_slice.ensures
    ∙ ap (λ m. m.made c.args.operand) (sym (term-layer c.args.text.named.now c.args.text.numbers.now c.args.e.now))) c.new.ensures

pub make_sum-loop-other-init : goal.make_sum-loop-other-init
make_sum-loop-other-init t c =
    refl

pub make_sum-returns-in_ok-whole-in-len1-up : goal.make_sum-returns-in_ok-whole-in-len1-up
make_sum-returns-in_ok-whole-in-len1-up t c =
    c.in_ok-whole-in-len1-up.ensures ∙ sum_whole (term_made c.args.text.named.now c.args.text.numbers.now) (out-RawSum c.args.e.now).sign c.as_slice.result.now
    c.as_slice-signs.result.now c.first-item.result c.args.operand c.is_alone.result c.in_ok-head-in-len1-up.head c.in_ok-so_far-in-len1-up.so_far c.loop-other.so_far
    c.in-len1-up.len_at_least c.first-item.is c.is_alone.ensures c.if-is_alone.false c.in_ok-head-in-len1-up.ensures c.in_ok-so_far-in-len1-up.ensures
    (no_more_signed terms_from (λ s os. refl) (term_made c.args.text.named.now c.args.text.numbers.now) (behind_first c.as_slice.result.now) c.loop-other.signs.now
    c.loop-other.other-index c.loop-other.so_far _ c.loop-other-test.false c.loop-other.invariant)
    ∙ ap (λ l. (sum_of (out-RawSum c.args.e.now).sign (map (term_made c.args.text.named.now c.args.text.numbers.now) l) c.as_slice-signs.result.now).made c.args.operand)
    c.as_slice.ensures
    ∙ ap (λ l. (sum_of (out-RawSum c.args.e.now).sign (map (term_made c.args.text.named.now c.args.text.numbers.now) (out-RawSum c.args.e.now).operands) l).made c.args.operand)
    c.as_slice-signs.ensures ∙ ap (λ m. m.made c.args.operand) (sym (sum-layer c.args.text.named.now c.args.text.numbers.now c.args.e.now))

pub make_sum-returns-in-empty-signs : goal.make_sum-returns-in-empty-signs
make_sum-returns-in-empty-signs t c =
    IfOk-weaker c.whole_part_if.result _ _ (λ x h. h ∙ sum_whole (term_made c.args.text.named.now c.args.text.numbers.now) (out-RawSum c.args.e.now).sign c.as_slice.result.now
    c.as_slice-signs.result.now c.first-item.result c.args.operand c.is_alone.result c.in_ok-head-in-len1-up.head c.in_ok-so_far-in-len1-up.so_far c.loop-other.so_far
    c.in-len1-up.len_at_least c.first-item.is c.is_alone.ensures c.if-is_alone.false c.in_ok-head-in-len1-up.ensures c.in_ok-so_far-in-len1-up.ensures
    (no_more_signs terms_from (λ s b bs. refl) (term_made c.args.text.named.now c.args.text.numbers.now) (behind_first c.as_slice.result.now) c.loop-other.signs.now
    c.loop-other.other-index c.other-item.result c.loop-other.so_far _ c.loop-other-test.true c.other-item.is c.in-empty-signs.len_below c.loop-other.invariant)
    ∙ ap (λ l. (sum_of (out-RawSum c.args.e.now).sign (map (term_made c.args.text.named.now c.args.text.numbers.now) l) c.as_slice-signs.result.now).made c.args.operand)
    c.as_slice.ensures
    ∙ ap (λ l. (sum_of (out-RawSum c.args.e.now).sign (map (term_made c.args.text.named.now c.args.text.numbers.now) (out-RawSum c.args.e.now).operands) l).made c.args.operand)
    c.as_slice-signs.ensures ∙ ap (λ m. m.made c.args.operand) (sym (sum-layer c.args.text.named.now c.args.text.numbers.now c.args.e.now))) c.whole_part_if.ensures

pub make_sum-returns-in-empty : goal.make_sum-returns-in-empty
make_sum-returns-in-empty t c =
    IfOk-weaker c.new.result _ _ (λ x h. h ∙ c.nothing.ensures ∙ sum_none (term_made c.args.text.named.now c.args.text.numbers.now) (out-RawSum c.args.e.now).sign
    c.as_slice.result.now (out-RawSum c.args.e.now).operators c.args.operand c.in-empty.len_below
    ∙ ap (λ l. (sum_of (out-RawSum c.args.e.now).sign (map (term_made c.args.text.named.now c.args.text.numbers.now) l) (out-RawSum c.args.e.now).operators).made c.args.operand)
    c.as_slice.ensures ∙ ap (λ m. m.made c.args.operand) (sym (sum-layer c.args.text.named.now c.args.text.numbers.now c.args.e.now))) c.new.ensures

pub make_sum-returns-then-is_alone : goal.make_sum-returns-then-is_alone
make_sum-returns-then-is_alone t c =
    IfOk-weaker c.make_term.result _ _ (λ x h. h ∙ sum_alone (term_made c.args.text.named.now c.args.text.numbers.now) (out-RawSum c.args.e.now).sign c.as_slice.result.now
    (out-RawSum c.args.e.now).operators c.first-item.result c.args.operand c.is_alone.result c.in-len1-up.len_at_least c.first-item.is c.is_alone.ensures c.if-is_alone.true
    ∙ ap (λ l. (sum_of (out-RawSum c.args.e.now).sign (map (term_made c.args.text.named.now c.args.text.numbers.now) l) (out-RawSum c.args.e.now).operators).made c.args.operand)
    c.as_slice.ensures ∙ ap (λ m. m.made c.args.operand) (sym (sum-layer c.args.text.named.now c.args.text.numbers.now c.args.e.now))) c.make_term.ensures

pub make_comparison-returns : goal.make_comparison-returns
make_comparison-returns t c =
    IfOk-weaker c.compared.result _ _ (λ x h. h
    ∙ ap (λ op. comparison op ((sum_made c.args.text.named.now c.args.text.numbers.now c.get.result.now).made false)
    ((sum_made c.args.text.named.now c.args.text.numbers.now c.get-2.result.now).made false)) c.comparator.ensures
    ∙ ap₂ (λ l r. comparison (comparator (out-RawCmp c.args.c.now).operator.op) ((sum_made c.args.text.named.now c.args.text.numbers.now l).made false)
    ((sum_made c.args.text.named.now c.args.text.numbers.now r).made false)) c.get.ensures c.get-2.ensures
    ∙ sym (comparison-layer c.args.text.named.now c.args.text.numbers.now c.args.c.now)) (c.compared.ensures _ _ c.make_sum-left.ensures c.make_sum-right.ensures)

pub make_prim-returns : goal.make_prim-returns
make_prim-returns t c =
    IfOk-weaker c.bits_around.result _ _ (λ x h. h
    ∙ ap (bits_around c.as_slice-all.result.now) (c.in_ok-inner.ensures
    ∙ ap (λ b. (primary_made c.args.text.named.now c.args.text.numbers.now (out-RawPrim c.args.e.now).primary).made b) c.operand_for-inside.ensures)
    ∙ ap (λ l. (prim_of l (primary_made c.args.text.named.now c.args.text.numbers.now (out-RawPrim c.args.e.now).primary)).made c.args.operand) c.as_slice-all.ensures
    ∙ ap (λ m. m.made c.args.operand) (sym (prim-layer c.args.text.named.now c.args.text.numbers.now c.args.e.now))) c.bits_around.ensures

pub make_expression-returns-in-Choice : goal.make_expression-returns-in-Choice
make_expression-returns-in-Choice t c =
    IfOk-weaker c.choice.result _ _ (λ z h. choice_made c.args.text.named.now c.args.text.numbers.now c.args.e.now c.in-Choice.field-0 c.in-Choice.test c.get.result.now
    c.in-Choice.first c.get-in-Choice.result.now c.in-Choice.second c.get-in-Choice-2.result.now
    _ _ _ z c.args.operand c.in-Choice.is c.get.ensures c.get-in-Choice.ensures c.get-in-Choice-2.ensures refl refl refl h)
    (c.choice.ensures _ _ _ c.make_condition-test.ensures c.make_expression-first.ensures c.make_expression-second.ensures)

pub make_expression-returns-in-Sum : goal.make_expression-returns-in-Sum
make_expression-returns-in-Sum t c =
    IfOk-weaker c.make_sum.result _ _ (λ z h. alone_made c.args.text.named.now c.args.text.numbers.now c.args.e.now c.in-Sum.sum c.get-in-Sum.result.now z c.args.operand
    c.in-Sum.is c.get-in-Sum.ensures h) c.make_sum.ensures

pub make_primary-returns-in-Number : goal.make_primary-returns-in-Number
make_primary-returns-in-Number t c =
    IfOk-weaker c.new.result _ _ (λ z h. number_made c.args.text.named.now c.args.text.numbers.now c.args.e.now c.in-Number.n z c.args.operand c.in-Number.is h) c.new.ensures

pub make_primary-returns-in-Text : goal.make_primary-returns-in-Text
make_primary-returns-in-Text t c =
    IfOk-weaker c.new-in-Text.result _ _ (λ z h. text_made c.args.text.named.now c.args.text.numbers.now c.args.e.now c.in-Text.at c.in-Text.field-1 c.item_here.result z
    c.args.operand c.in-Text.is c.item_here.ensures h) c.new-in-Text.ensures

pub make_primary-returns-in_ok-place-in-Location : goal.make_primary-returns-in_ok-place-in-Location
make_primary-returns-in_ok-place-in-Location t c =
    IfOk-weaker c.locate.result _ _ (λ z h. location_made c.args.text.named.now c.args.text.numbers.now c.args.e.now c.in-Location.field-0 c.in-Location.r c.get.result.now
    c.in_ok-place-in-Location.place z c.args.operand
    c.in-Location.is c.get.ensures c.in_ok-place-in-Location.ensures h) c.locate.ensures

pub make_primary-returns-in_ok-inner-in-Forced : goal.make_primary-returns-in_ok-inner-in-Forced
make_primary-returns-in_ok-inner-in-Forced t c =
    IfOk-weaker c.force.result _ _ (λ z h. forced_made c.args.text.named.now c.args.text.numbers.now c.args.e.now c.in-Forced.scale c.in-Forced.e c.get-in-Forced.result.now
    c.fraction_of.result c.in_ok-inner-in-Forced.inner z c.args.operand
    c.in-Forced.is c.get-in-Forced.ensures c.in_ok-inner-in-Forced.ensures (c.fraction_of.ensures ∙ ap fraction_of c.get-in-Forced-2.ensures) h) c.force.ensures

pub make_primary-returns-in_ok-inner-in-Bracket : goal.make_primary-returns-in_ok-inner-in-Bracket
make_primary-returns-in_ok-inner-in-Bracket t c =
    IfOk-weaker c.whole_part_if.result _ _ (λ z h. bracket_made c.args.text.named.now c.args.text.numbers.now c.args.e.now c.in-Bracket.field-0 c.in-Bracket.e
    c.get-in-Bracket.result.now c.in_ok-inner-in-Bracket.inner z c.args.operand
    c.in-Bracket.is c.get-in-Bracket.ensures c.in_ok-inner-in-Bracket.ensures h) c.whole_part_if.ensures

pub make_primary-returns-in-Ref : goal.make_primary-returns-in-Ref
make_primary-returns-in-Ref t c =
    IfOk-weaker c.make_value.result _ _ (λ z h. value_made c.args.text.named.now c.args.text.numbers.now c.args.e.now c.in-Ref.r z c.args.operand c.in-Ref.is h)
    c.make_value.ensures

pub make_primary-returns-in_ok-arguments-in-Call : goal.make_primary-returns-in_ok-arguments-in-Call
make_primary-returns-in_ok-arguments-in-Call t c =
    IfOk-weaker c.new-in-Call.result _ _ (λ z h. call_made c.args.text.named.now c.args.text.numbers.now c.args.e.now c.in-Call.name c.in-Call.arguments c.as_slice.result.now
    c.params_of-params.result.now c.in_ok-arguments-in-Call.arguments c.target.result c.call.result z c.args.operand
    c.in-Call.is c.as_slice.ensures (rw c.get-name.ensures at c.params_of-params.ensures) c.in_ok-arguments-in-Call.ensures
    (rw c.get-name.ensures at c.target.ensures) c.call.ensures h) c.new-in-Call.ensures

pub make_reference-returns-in-Name : goal.make_reference-returns-in-Name
make_reference-returns-in-Name t c =
    place_made c.args.text.named.now c.args.text.numbers.now c.args.r.now c.in-Name.name c.place_of_name.result c.in-Name.is c.place_of_name.ensures

pub make_reference-returns-in_ok-index-in-One : goal.make_reference-returns-in_ok-index-in-One
make_reference-returns-in_ok-index-in-One t c =
    indexed_made c.args.text.named.now c.args.text.numbers.now c.args.r.now c.in-One.name c.in-One.index c.get.result.now c.in_ok-index-in-One.index c.into_inner.result
    c.indexed_place.result
    c.in-One.is c.get.ensures c.in_ok-index-in-One.ensures c.into_inner.ensures c.indexed_place.ensures

pub make_reference-returns-in_ok-second-in-Two : goal.make_reference-returns-in_ok-second-in-Two
make_reference-returns-in_ok-second-in-Two t c =
    twice_indexed_made c.args.text.named.now c.args.text.numbers.now c.args.r.now c.in-Two.name c.in-Two.first c.get-in-Two.result.now c.in-Two.second c.get-in-Two-2.result.now
    c.in_ok-first-in-Two.first c.in_ok-second-in-Two.second c.twice_indexed_place.result
    c.in-Two.is c.get-in-Two.ensures c.get-in-Two-2.ensures c.in_ok-first-in-Two.ensures c.in_ok-second-in-Two.ensures
    (rw c.get-in-Two-3.ensures at c.twice_indexed_place.ensures)

pub make_reference-returns-in_ok-address-in-Bare : goal.make_reference-returns-in_ok-address-in-Bare
make_reference-returns-in_ok-address-in-Bare t c =
    bare_made c.args.text.named.now c.args.text.numbers.now c.args.r.now c.in-Bare.field-0 c.in-Bare.address c.get-in-Bare.result.now c.in_ok-address-in-Bare.address
    c.into_inner-in-Bare.result c.reference.result
    c.in-Bare.is c.get-in-Bare.ensures c.in_ok-address-in-Bare.ensures c.into_inner-in-Bare.ensures c.reference.ensures

pub make_value-returns-in-Name : goal.make_value-returns-in-Name
make_value-returns-in-Name t c =
    IfOk-weaker c.value_of.result _ _ (λ z h. named_made c.args.text.named.now c.args.text.numbers.now c.args.r.now c.in-Name.name z c.in-Name.is h) c.value_of.ensures

pub make_term-loop-other-preserved : goal.make_term-loop-other-preserved
make_term-loop-other-preserved t c =
    one_more_signed factors_from (λ s o b. multiplied o.op s (b.made true)) (λ s b bs o os. refl) (differ_made c.args.text.named.now c.args.text.numbers.now)
    (behind_first c.as_slice.result.now) c.loop-other.signs.now _ c.loop-other.other-index c.other-item.result c.loop-other.so_far
    c.in_ok-so_far-in-len1-up-signs.so_far _ c.loop-other-test.true c.other-item.is c.in-len1-up-signs.len_at_least
    (c.in_ok-so_far-in-len1-up-signs.ensures ∙ ap (multiplied _ c.loop-other.so_far) c.in_ok-next-in-len1-up-signs.ensures) c.loop-other.invariant

pub make_sum-loop-other-preserved : goal.make_sum-loop-other-preserved
make_sum-loop-other-preserved t c =
    one_more_signed terms_from (λ s o b. added o.op s (b.made false)) (λ s b bs o os. refl) (term_made c.args.text.named.now c.args.text.numbers.now)
    (behind_first c.as_slice.result.now) c.loop-other.signs.now _ c.loop-other.other-index c.other-item.result c.loop-other.so_far
    c.in_ok-so_far-in-len1-up-signs.so_far _ c.loop-other-test.true c.other-item.is c.in-len1-up-signs.len_at_least
    (c.in_ok-so_far-in-len1-up-signs.ensures ∙ ap (added _ c.loop-other.so_far) c.in_ok-next-in-len1-up-signs.ensures) c.loop-other.invariant

pub make_arguments-loop-argument-init : goal.make_arguments-loop-argument-init
make_arguments-loop-argument-init t c =
    ap (λ (all : List Arg). all ++ arguments_for (map (expression_made c.args.text.named.now c.args.text.numbers.now) c.args.arguments.now) c.args.params.now) c.new-all.ensures

pub make_arguments-loop-argument-preserved : goal.make_arguments-loop-argument-preserved
make_arguments-loop-argument-preserved t c =
    one_more_signed (λ (all : List Arg) (ms : List Made) (params : List RawPs). all ++ arguments_for ms params) (λ all p m. all ++ argument_for p m ∷ [])
    (λ all m ms p params. sym (append_assoc all (argument_for p m ∷ []) (arguments_for ms params)))
    (expression_made c.args.text.named.now c.args.text.numbers.now) c.args.arguments.now c.loop-argument.rest.now c.param-item.result c.loop-argument.argument-index
    c.argument-item.result c.loop-argument.all
    c.push.new.self _ c.loop-argument-test.true c.argument-item.is c.in-len1-up.len_at_least
    (c.in_ok-push-in-len1-up.ensures.ok ∙ ap (λ (a : Arg). c.loop-argument.all ++ a ∷ []) (c.in_ok-make_argument-in-len1-up.ensures
    ∙ ap (λ (p : RawPs). argument_for p (expression_made c.args.text.named.now c.args.text.numbers.now c.argument-item.result)) c.param-item.is)) c.loop-argument.invariant

pub make_arguments-returns-in-empty : goal.make_arguments-returns-in-empty
make_arguments-returns-in-empty t c =
    no_more_signs (λ (all : List Arg) (ms : List Made) (params : List RawPs). all ++ arguments_for ms params) (λ all m ms. append-nil all)
    (expression_made c.args.text.named.now c.args.text.numbers.now) c.args.arguments.now c.loop-argument.rest.now c.loop-argument.argument-index c.argument-item.result
    c.loop-argument.all _
    c.loop-argument-test.true c.argument-item.is c.in-empty.len_below c.loop-argument.invariant

pub make_arguments-returns : goal.make_arguments-returns
make_arguments-returns t c =
    no_more_signed (λ (all : List Arg) (ms : List Made) (params : List RawPs). all ++ arguments_for ms params) (λ all params. append-nil all)
    (expression_made c.args.text.named.now c.args.text.numbers.now) c.args.arguments.now c.loop-argument.rest.now c.loop-argument.argument-index c.loop-argument.all _
    c.loop-argument-test.false c.loop-argument.invariant
