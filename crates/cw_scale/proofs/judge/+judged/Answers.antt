use Rattle.std.proofs.Common.{◌≡◌, length, drop, is_some, refl, sym, ap, ◌∙◌, arith}
use Rattle.cw_tree.specs.declared.expression.RawDiffer.{out-RawDiffer}
use Rattle.cw_tree.specs.declared.expression.RawMask.{out-RawMask}
use Rattle.cw_tree.specs.declared.expression.RawPrim.{out-RawPrim}
use Rattle.cw_tree.specs.declared.expression.RawTerm.{out-RawTerm}
use Rattle.cw_tree.specs.declared.expression.RawUnion.{out-RawUnion}
use Rattle.cw_tree.specs.declared.expression.RawCand.{out-RawCand}
use Rattle.cw_tree.specs.declared.expression.RawCond.{out-RawCond}
use Rattle.cw_tree.specs.declared.expression.RawSum.{out-RawSum}
use Rattle.cw_scale.specs.TypeRules.{condition, conjunction, comparison, sum, term, differ, union, mask, prim, primary}
use Rattle.cw_scale.proofs.Arms.{choice_faults, sum_alone_faults, comparison_faults, number_faults, octal_faults, location_faults, forced_faults, bracket_faults, reference_arm_faults, call_arm_faults, name_faults, index_faults, indexes_faults, address_faults}
use Rattle.cw_scale.proofs.Chains.{head_judged, next_judged, no_operand, no_sign}
use Rattle.cw_scale.proofs.Layers.{logic_goes_on, logic_ends, each_goes_on, each_ends, term_none, term_alone, prim_alone, prim_within, condition-layer, conjunction-layer, sum-layer, term-layer, differ-layer, union-layer, mask-layer, prim-layer}
use Rattle.cw_scale.proofs.Passing.{all_judged, argument_judged, no_parameter, taken_judged, refused}
use Rattle.cw_scale.proofs.judge.+judged.Goals as goal

pub judge_condition-loop-operand-preserved : goal.judge_condition-loop-operand-preserved
judge_condition-loop-operand-preserved t c =
    each_goes_on (conjunction c.args.named.now) c.as_slice-operand-items.result.now c.loop-operand.operand-index 0 c.operand-item.result c.loop-operand.first c.judge_conjunction.new.first _
    c.loop-operand-test.true c.operand-item.is c.judge_conjunction.ensures c.loop-operand.invariant

pub judge_condition-returns : goal.judge_condition-returns
judge_condition-returns t c =
    each_ends (conjunction c.args.named.now) ((condition c.args.named.now c.args.c.now).faults 0) (out-RawCond c.args.c.now).operands c.as_slice-operand-items.result.now c.loop-operand.operand-index 0 c.args.first.now c.loop-operand.first
    (condition-layer c.args.named.now c.args.c.now 0 c.args.first.now) c.as_slice-operand-items.ensures c.loop-operand-test.false c.loop-operand.invariant

pub judge_conjunction-loop-operand-preserved : goal.judge_conjunction-loop-operand-preserved
judge_conjunction-loop-operand-preserved t c =
    each_goes_on (comparison c.args.named.now) c.as_slice-operand-items.result.now c.loop-operand.operand-index 0 c.operand-item.result c.loop-operand.first c.judge_comparison.new.first _
    c.loop-operand-test.true c.operand-item.is c.judge_comparison.ensures c.loop-operand.invariant

pub judge_conjunction-returns : goal.judge_conjunction-returns
judge_conjunction-returns t c =
    each_ends (comparison c.args.named.now) ((conjunction c.args.named.now c.args.c.now).faults 0) (out-RawCand c.args.c.now).operands c.as_slice-operand-items.result.now c.loop-operand.operand-index 0 c.args.first.now c.loop-operand.first
    (conjunction-layer c.args.named.now c.args.c.now 0 c.args.first.now) c.as_slice-operand-items.ensures c.loop-operand-test.false c.loop-operand.invariant

pub judge_sum-loop-operand-preserved : goal.judge_sum-loop-operand-preserved
judge_sum-loop-operand-preserved t c =
    each_goes_on (term c.args.named.now) c.as_slice-operand-items.result.now c.loop-operand.operand-index c.args.scale c.operand-item.result c.loop-operand.first c.judge_term.new.first _
    c.loop-operand-test.true c.operand-item.is c.judge_term.ensures c.loop-operand.invariant

pub judge_sum-returns : goal.judge_sum-returns
judge_sum-returns t c =
    each_ends (term c.args.named.now) ((sum c.args.named.now c.args.e.now).faults c.args.scale) (out-RawSum c.args.e.now).operands c.as_slice-operand-items.result.now c.loop-operand.operand-index c.args.scale c.args.first.now c.loop-operand.first
    (ap (λ j. j.faults c.args.scale c.args.first.now) (sum-layer c.args.named.now c.args.e.now)) c.as_slice-operand-items.ensures c.loop-operand-test.false c.loop-operand.invariant

pub judge_differ-loop-operand-preserved : goal.judge_differ-loop-operand-preserved
judge_differ-loop-operand-preserved t c =
    logic_goes_on (union c.args.named.now) c.as_slice-operands.result.now c.loop-operand.operand-index c.args.scale c.union_scale-at.result c.operand-item.result c.loop-operand.first c.judge_union.new.first _
    c.loop-operand-test.true c.operand-item.is c.union_scale-at.ensures c.judge_union.ensures c.loop-operand.invariant

pub judge_differ-returns : goal.judge_differ-returns
judge_differ-returns t c =
    logic_ends (union c.args.named.now) (differ c.args.named.now c.args.e.now) (out-RawDiffer c.args.e.now).operands c.as_slice-operands.result.now c.loop-operand.operand-index c.args.scale c.args.first.now c.loop-operand.first
    (differ-layer c.args.named.now c.args.e.now) c.as_slice-operands.ensures c.loop-operand-test.false c.loop-operand.invariant

pub judge_union-loop-operand-preserved : goal.judge_union-loop-operand-preserved
judge_union-loop-operand-preserved t c =
    logic_goes_on (mask c.args.named.now) c.as_slice-operands.result.now c.loop-operand.operand-index c.args.scale c.mask_scale-at.result c.operand-item.result c.loop-operand.first c.judge_mask.new.first _
    c.loop-operand-test.true c.operand-item.is c.mask_scale-at.ensures c.judge_mask.ensures c.loop-operand.invariant

pub judge_union-returns : goal.judge_union-returns
judge_union-returns t c =
    logic_ends (mask c.args.named.now) (union c.args.named.now c.args.e.now) (out-RawUnion c.args.e.now).operands c.as_slice-operands.result.now c.loop-operand.operand-index c.args.scale c.args.first.now c.loop-operand.first
    (union-layer c.args.named.now c.args.e.now) c.as_slice-operands.ensures c.loop-operand-test.false c.loop-operand.invariant

pub judge_mask-loop-operand-preserved : goal.judge_mask-loop-operand-preserved
judge_mask-loop-operand-preserved t c =
    logic_goes_on (prim c.args.named.now) c.as_slice-operands.result.now c.loop-operand.operand-index c.args.scale c.prim_scale-at.result c.operand-item.result c.loop-operand.first c.judge_prim.new.first _
    c.loop-operand-test.true c.operand-item.is c.prim_scale-at.ensures c.judge_prim.ensures c.loop-operand.invariant

pub judge_mask-returns : goal.judge_mask-returns
judge_mask-returns t c =
    logic_ends (prim c.args.named.now) (mask c.args.named.now c.args.e.now) (out-RawMask c.args.e.now).operands c.as_slice-operands.result.now c.loop-operand.operand-index c.args.scale c.args.first.now c.loop-operand.first
    (mask-layer c.args.named.now c.args.e.now) c.as_slice-operands.ensures c.loop-operand-test.false c.loop-operand.invariant

pub judge_term-returns-in-empty : goal.judge_term-returns-in-empty
judge_term-returns-in-empty t c =
    term_none (differ c.args.named.now) (term c.args.named.now c.args.e.now) (out-RawTerm c.args.e.now).operands c.as_slice.result.now (out-RawTerm c.args.e.now).operators c.args.scale c.args.first.now
    (term-layer c.args.named.now c.args.e.now) c.as_slice.ensures c.in-empty.len_below

pub judge_term-returns-in-len1 : goal.judge_term-returns-in-len1
judge_term-returns-in-len1 t c =
    let one : length c.as_slice.result.now ≡ 1 = omega arith in
    c.judge_differ.ensures
    ∙ ap (λ j. j.faults c.args.scale c.args.first.now) (sym (term_alone (differ c.args.named.now) (term c.args.named.now c.args.e.now) (out-RawTerm c.args.e.now).operands c.as_slice.result.now (out-RawTerm c.args.e.now).operators c.operand-item.result
    (term-layer c.args.named.now c.args.e.now) c.as_slice.ensures one c.operand-item.is))

pub judge_term-returns-in-len1-up : goal.judge_term-returns-in-len1-up
judge_term-returns-in-len1-up t c =
    c.judge_factors.ensures
    ∙ head_judged (differ c.args.named.now) (term c.args.named.now c.args.e.now) (out-RawTerm c.args.e.now).operands c.as_slice.result.now c.as_slice-in-len1-up.result.now (out-RawTerm c.args.e.now).operators c.head-item.result c.args.scale
    c.differ_shape-shape.result c.args.first.now c.judge_differ-in-len1-up.new.first
    (term-layer c.args.named.now c.args.e.now) c.as_slice.ensures c.as_slice-in-len1-up.ensures c.in-len1-up.len_at_least c.head-item.is c.differ_shape-shape.ensures c.judge_differ-in-len1-up.ensures

pub judge_factors-loop-i-preserved : goal.judge_factors-loop-i-preserved
judge_factors-loop-i-preserved t c =
    next_judged (differ c.args.named.now) c.args.operands.now c.index-operands-i.result c.args.signs.now _ c.loop-i.i c.args.scale c.loop-i.before c.loop-i.natural c.scale_for-asked.result c.max-natural.result c.differ_shape-shape.result
    c.loop-i.first c.judge_differ.new.first c.judge_factor.new.first _
    (omega arith) c.index-operands-i.is (omega arith) c.differ_shape-shape.ensures c.max-natural.ensures c.scale_for-asked.ensures c.judge_differ.ensures c.judge_factor.ensures c.loop-i.invariant

pub judge_factors-returns-after-loop-i : goal.judge_factors-returns-after-loop-i
judge_factors-returns-after-loop-i t c =
    no_operand (differ c.args.named.now) c.args.operands.now _ c.loop-i.i c.args.scale c.loop-i.before c.loop-i.natural c.loop-i.first _ (omega arith) c.loop-i.invariant

pub judge_factors-returns-else-i-signs : goal.judge_factors-returns-else-i-signs
judge_factors-returns-else-i-signs t c =
    no_sign (differ c.args.named.now) (drop c.loop-i.i c.args.operands.now) c.args.signs.now c.loop-i.i c.args.scale c.loop-i.before c.loop-i.natural c.loop-i.first _ (omega arith) c.loop-i.invariant

pub judge_prim-returns-in-empty : goal.judge_prim-returns-in-empty
judge_prim-returns-in-empty t c =
    c.judge_primary.ensures
    ∙ ap (λ j. j.faults c.args.scale c.args.first.now) (sym (prim_alone (prim c.args.named.now c.args.e.now) (primary c.args.named.now (out-RawPrim c.args.e.now).primary) (out-RawPrim c.args.e.now).bits c.as_slice.result.now
    (prim-layer c.args.named.now c.args.e.now) c.as_slice.ensures c.in-empty.len_below))

pub judge_prim-returns-in_default : goal.judge_prim-returns-in_default
judge_prim-returns-in_default t c =
    prim_within (prim c.args.named.now c.args.e.now) (primary c.args.named.now (out-RawPrim c.args.e.now).primary) (out-RawPrim c.args.e.now).bits c.as_slice.result.now c.args.scale c.primary_shape-shape.result
    c.args.first.now c.judge_each_bits.new.first c.judge_primary-in_default.new.first
    (prim-layer c.args.named.now c.args.e.now) c.as_slice.ensures c.in_default.len_at_least c.judge_each_bits.ensures
    c.primary_shape-shape.ensures c.judge_primary-in_default.ensures

pub judge_arguments-loop-argument-preserved : goal.judge_arguments-loop-argument-preserved
judge_arguments-loop-argument-preserved t c =
    argument_judged c.args.named.now c.loop-argument.rest.now c.param-item.result c.args.arguments.now c.loop-argument.argument-index c.argument-item.result c.loop-argument.first c.judge_argument.new.first _
    c.in-len1-up.len_at_least c.param-item.is c.loop-argument-test.true c.argument-item.is c.judge_argument.ensures c.loop-argument.invariant

pub judge_arguments-returns-in-empty : goal.judge_arguments-returns-in-empty
judge_arguments-returns-in-empty t c =
    no_parameter c.args.named.now c.loop-argument.rest.now c.args.arguments.now c.loop-argument.argument-index c.loop-argument.first _ c.in-empty.len_below c.loop-argument.invariant

pub judge_arguments-returns : goal.judge_arguments-returns
judge_arguments-returns t c =
    all_judged c.args.named.now c.loop-argument.rest.now c.args.arguments.now c.loop-argument.argument-index c.loop-argument.first _ c.loop-argument-test.false c.loop-argument.invariant

pub judge_expression-returns-in-Choice : goal.judge_expression-returns-in-Choice
judge_expression-returns-in-Choice t c =
    choice_faults c.args.named.now c.args.e.now c.args.scale c.in-Choice.field-0 c.in-Choice.test c.get.result.now c.in-Choice.a c.get-in-Choice.result.now c.in-Choice.b c.get-in-Choice-2.result.now
    c.args.first.now c.judge_condition.new.first c.judge_expression.new.first c.judge_expression-in-Choice.new.first
    c.in-Choice.is c.get.ensures c.get-in-Choice.ensures c.get-in-Choice-2.ensures c.judge_condition.ensures c.judge_expression.ensures c.judge_expression-in-Choice.ensures

pub judge_expression-returns-in-Sum : goal.judge_expression-returns-in-Sum
judge_expression-returns-in-Sum t c =
    sum_alone_faults c.args.named.now c.args.e.now c.args.scale c.in-Sum.e c.get-in-Sum.result.now c.args.first.now c.judge_sum.new.first c.in-Sum.is c.get-in-Sum.ensures c.judge_sum.ensures

pub judge_comparison-returns : goal.judge_comparison-returns
judge_comparison-returns t c =
    comparison_faults c.args.named.now c.args.c.now 0 c.get.result.now c.get-3.result.now c.get-2.result.now c.get-4.result.now c.sum_shape-left.result c.sum_shape-right.result c.max-scale.result
    c.args.first.now c.judge_sum.new.first c.judge_sum-2.new.first
    c.get.ensures c.get-2.ensures c.get-3.ensures c.get-4.ensures c.sum_shape-left.ensures c.sum_shape-right.ensures c.max-scale.ensures c.judge_sum.ensures c.judge_sum-2.ensures

pub judge_primary-returns-in-Number : goal.judge_primary-returns-in-Number
judge_primary-returns-in-Number t c =
    number_faults c.args.named.now c.args.e.now c.args.scale c.in-Number.n c.fits_at.result c.args.first.now c.keep_unless.new.first c.in-Number.is c.fits_at.ensures c.keep_unless.ensures

pub judge_primary-returns-in-Octal : goal.judge_primary-returns-in-Octal
judge_primary-returns-in-Octal t c =
    octal_faults c.args.named.now c.args.e.now c.args.scale c.in-Octal.n c.is_some-fits.result c.args.first.now c.keep_unless-in-Octal.new.first
    c.in-Octal.is (c.is_some-fits.ensures ∙ ap is_some c.octal_word.ensures.value) c.keep_unless-in-Octal.ensures

pub judge_primary-returns-in-Location : goal.judge_primary-returns-in-Location
judge_primary-returns-in-Location t c =
    location_faults c.args.named.now c.args.e.now c.args.scale c.in-Location.field-0 c.in-Location.r c.get.result.now c.args.first.now c.judge_reference.new.first
    c.in-Location.is c.get.ensures c.judge_reference.ensures

pub judge_primary-returns-in-Forced : goal.judge_primary-returns-in-Forced
judge_primary-returns-in-Forced t c =
    forced_faults c.args.named.now c.args.e.now c.args.scale c.in-Forced.t c.get-t.result.now c.in-Forced.e c.get-in-Forced.result.now c.fraction_of.result c.args.first.now c.judge_type.new.first c.judge_expression.new.first
    c.in-Forced.is c.get-t.ensures c.get-in-Forced.ensures c.fraction_of.ensures c.judge_type.ensures c.judge_expression.ensures

pub judge_primary-returns-in-Bracket : goal.judge_primary-returns-in-Bracket
judge_primary-returns-in-Bracket t c =
    bracket_faults c.args.named.now c.args.e.now c.args.scale c.in-Bracket.field-0 c.in-Bracket.e c.get-in-Bracket.result.now c.args.first.now c.judge_expression-in-Bracket.new.first
    c.in-Bracket.is c.get-in-Bracket.ensures c.judge_expression-in-Bracket.ensures

pub judge_primary-returns-in-Ref : goal.judge_primary-returns-in-Ref
judge_primary-returns-in-Ref t c =
    reference_arm_faults c.args.named.now c.args.e.now c.args.scale c.in-Ref.r c.in-Ref.r c.args.first.now c.judge_reference-in-Ref.new.first
    c.in-Ref.is refl c.judge_reference-in-Ref.ensures

pub judge_primary-returns-in-Call : goal.judge_primary-returns-in-Call
judge_primary-returns-in-Call t c =
    call_arm_faults c.args.named.now c.args.e.now c.args.scale c.in-Call.name c.in-Call.arguments c.as_slice.result.now c.args.first.now c.judge_call.new.first
    c.in-Call.is c.as_slice.ensures (rw c.get-in-Call.ensures at c.judge_call.ensures)

pub judge_reference-returns-in-Name : goal.judge_reference-returns-in-Name
judge_reference-returns-in-Name t c = name_faults c.args.named.now c.args.r.now c.in-Name.name c.args.first.now c.judge_call.new.first c.in-Name.is c.judge_call.ensures

pub judge_reference-returns-in-One : goal.judge_reference-returns-in-One
judge_reference-returns-in-One t c =
    index_faults c.args.named.now c.args.r.now c.in-One.field-0 c.in-One.i c.get.result.now c.args.first.now c.judge_expression.new.first c.in-One.is c.get.ensures c.judge_expression.ensures

pub judge_reference-returns-in-Two : goal.judge_reference-returns-in-Two
judge_reference-returns-in-Two t c =
    indexes_faults c.args.named.now c.args.r.now c.in-Two.field-0 c.in-Two.i c.get-in-Two.result.now c.in-Two.j c.get-in-Two-2.result.now
    c.args.first.now c.judge_expression-in-Two.new.first c.judge_expression-in-Two-2.new.first
    c.in-Two.is c.get-in-Two.ensures c.get-in-Two-2.ensures c.judge_expression-in-Two.ensures c.judge_expression-in-Two-2.ensures

pub judge_reference-returns-in-Bare : goal.judge_reference-returns-in-Bare
judge_reference-returns-in-Bare t c =
    address_faults c.args.named.now c.args.r.now c.in-Bare.field-0 c.in-Bare.e c.get-in-Bare.result.now c.args.first.now c.judge_expression-in-Bare.new.first
    c.in-Bare.is c.get-in-Bare.ensures c.judge_expression-in-Bare.ensures

pub judge_call-returns-then-all_taken : goal.judge_call-returns-then-all_taken
judge_call-returns-then-all_taken t c =
    taken_judged c.args.named.now c.args.name.now c.in-Some.signature.now c.as_slice-params.result.now c.args.arguments.now c.all_taken.result c.in-Some.ensures c.as_slice-params.ensures c.all_taken.ensures
    c.args.first.now c.judge_arguments.new.first c.if-all_taken.true c.judge_arguments.ensures

pub judge_call-returns-else-all_taken : goal.judge_call-returns-else-all_taken
judge_call-returns-else-all_taken t c =
    refused c.args.named.now c.args.name.now c.in-Some.signature.now c.as_slice-params.result.now c.args.arguments.now c.all_taken.result c.in-Some.ensures c.as_slice-params.ensures c.all_taken.ensures
    c.args.first.now c.keep.new.first c.if-all_taken.false c.keep.ensures
