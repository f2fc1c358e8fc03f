use Rattle.std.proofs.Common.{◌++◌, map, ap, refl}
use Rattle.cw_tree.specs.declared.expression.RawCond.{out-RawCond}
use Rattle.cw_tree.specs.declared.expression.RawCand.{out-RawCand}
use Rattle.cw_tree.specs.declared.expression.RawSum.{out-RawSum}
use Rattle.cw_tree.specs.declared.expression.RawTerm.{out-RawTerm}
use Rattle.cw_tree.specs.declared.expression.RawDiffer.{out-RawDiffer}
use Rattle.cw_tree.specs.declared.expression.RawUnion.{out-RawUnion}
use Rattle.cw_tree.specs.declared.expression.RawMask.{out-RawMask}
use Rattle.cw_tree.proofs.Expressions.{of_condition-out, of_conjunction-out, of_differ-out, of_mask-out, of_sum-out, of_term-out, of_union-out}
use Rattle.cw_judge.specs.Operators.{between, sign_at, factor_sign_at, sign_if, expression_operators, condition_operators, conjunction_operators, comparison_operators, differ_operators, mask_operators, prim_operators, sum_operators, term_operators, union_operators}
use Rattle.cw_judge.proofs.Counting.{steps, operand_more, signed_operand_more, operands_done, argument_more, arguments_done, as_whole, two_counted}
use Rattle.cw_judge.proofs.Counting.{choice_counted, sum_counted, comparison_counted, prim_counted, location_counted, forced_counted, bracket_counted, place_counted, call_counted, index_counted, indexes_counted, address_counted}
use Rattle.cw_judge.proofs.operators.+operators.Goals as goal

pub condition_operators-loop-operand-preserved : goal.condition_operators-loop-operand-preserved
condition_operators-loop-operand-preserved t c =
    operand_more conjunction_operators c.as_slice-operand-items.result.now c.loop-operand.rest.now c.behind-rest.result.now c.loop-operand.operand-index c.operand-item.result
    c.loop-operand.tally c.conjunction_operators.result
    c.count_next-tally.result _
    c.loop-operand-test.true c.operand-item.is c.conjunction_operators.ensures c.count_next-tally.ensures c.behind-rest.ensures c.loop-operand.invariant

pub condition_operators-returns : goal.condition_operators-returns
condition_operators-returns t c =
    operands_done conjunction_operators (condition_operators c.args.e.now) (out-RawCond c.args.e.now).operands c.as_slice-operand-items.result.now
    (out-RawCond c.args.e.now).operators c.as_slice-rest.result.now c.loop-operand.rest.now
    c.loop-operand.operand-index c.args.before c.loop-operand.tally
    (of_condition-out steps c.args.e.now) c.as_slice-operand-items.ensures c.as_slice-rest.ensures c.loop-operand-test.false c.loop-operand.invariant

pub conjunction_operators-loop-operand-preserved : goal.conjunction_operators-loop-operand-preserved
conjunction_operators-loop-operand-preserved t c =
    operand_more comparison_operators c.as_slice-operand-items.result.now c.loop-operand.rest.now c.behind-rest.result.now c.loop-operand.operand-index c.operand-item.result
    c.loop-operand.tally c.comparison_operators.result
    c.count_next-tally.result _
    c.loop-operand-test.true c.operand-item.is c.comparison_operators.ensures c.count_next-tally.ensures c.behind-rest.ensures c.loop-operand.invariant

pub conjunction_operators-returns : goal.conjunction_operators-returns
conjunction_operators-returns t c =
    operands_done comparison_operators (conjunction_operators c.args.e.now) (out-RawCand c.args.e.now).operands c.as_slice-operand-items.result.now
    (out-RawCand c.args.e.now).operators c.as_slice-rest.result.now c.loop-operand.rest.now
    c.loop-operand.operand-index c.args.before c.loop-operand.tally
    (of_conjunction-out steps c.args.e.now) c.as_slice-operand-items.ensures c.as_slice-rest.ensures c.loop-operand-test.false c.loop-operand.invariant

pub sum_operators-loop-operand-preserved : goal.sum_operators-loop-operand-preserved
sum_operators-loop-operand-preserved t c =
    signed_operand_more term_operators sign_at c.as_slice-operand-items.result.now c.loop-operand.rest.now c.behind-rest.result.now c.loop-operand.operand-index
    c.operand-item.result c.loop-operand.tally c.term_operators.result
    c.count_sign-tally.result _
    c.loop-operand-test.true c.operand-item.is c.term_operators.ensures c.count_sign-tally.ensures c.behind-rest.ensures c.loop-operand.invariant

pub sum_operators-returns : goal.sum_operators-returns
sum_operators-returns t c =
    as_whole (sum_operators c.args.e.now) (sign_if (out-RawSum c.args.e.now).sign ++ between (map term_operators (out-RawSum c.args.e.now).operands)
    (map sign_at (out-RawSum c.args.e.now).operators)) c.args.before c.loop-operand.tally
    (of_sum-out steps c.args.e.now)
    (two_counted (sign_if (out-RawSum c.args.e.now).sign) (between (map term_operators (out-RawSum c.args.e.now).operands) (map sign_at (out-RawSum c.args.e.now).operators))
    c.args.before c.sign_operators-tally.result c.loop-operand.tally
    c.sign_operators-tally.ensures
    (operands_done term_operators _ (out-RawSum c.args.e.now).operands c.as_slice-operand-items.result.now (map sign_at (out-RawSum c.args.e.now).operators)
    (map sign_at c.as_slice-rest.result.now) (map sign_at c.loop-operand.rest.now)
    c.loop-operand.operand-index c.sign_operators-tally.result c.loop-operand.tally refl c.as_slice-operand-items.ensures (ap (map sign_at) c.as_slice-rest.ensures)
    c.loop-operand-test.false c.loop-operand.invariant))

pub term_operators-loop-operand-preserved : goal.term_operators-loop-operand-preserved
term_operators-loop-operand-preserved t c =
    signed_operand_more differ_operators factor_sign_at c.as_slice-operand-items.result.now c.loop-operand.rest.now c.behind-rest.result.now c.loop-operand.operand-index
    c.operand-item.result c.loop-operand.tally c.differ_operators.result
    c.count_factor_sign-tally.result _
    c.loop-operand-test.true c.operand-item.is c.differ_operators.ensures c.count_factor_sign-tally.ensures c.behind-rest.ensures c.loop-operand.invariant

pub term_operators-returns : goal.term_operators-returns
term_operators-returns t c =
    operands_done differ_operators (term_operators c.args.e.now) (out-RawTerm c.args.e.now).operands c.as_slice-operand-items.result.now
    (map factor_sign_at (out-RawTerm c.args.e.now).operators) (map factor_sign_at c.as_slice-rest.result.now) (map factor_sign_at c.loop-operand.rest.now)
    c.loop-operand.operand-index c.args.before c.loop-operand.tally
    (of_term-out steps c.args.e.now) c.as_slice-operand-items.ensures (ap (map factor_sign_at) c.as_slice-rest.ensures) c.loop-operand-test.false c.loop-operand.invariant

pub differ_operators-loop-operand-preserved : goal.differ_operators-loop-operand-preserved
differ_operators-loop-operand-preserved t c =
    operand_more union_operators c.as_slice-operand-items.result.now c.loop-operand.rest.now c.behind-rest.result.now c.loop-operand.operand-index c.operand-item.result
    c.loop-operand.tally c.union_operators.result
    c.count_next-tally.result _
    c.loop-operand-test.true c.operand-item.is c.union_operators.ensures c.count_next-tally.ensures c.behind-rest.ensures c.loop-operand.invariant

pub differ_operators-returns : goal.differ_operators-returns
differ_operators-returns t c =
    operands_done union_operators (differ_operators c.args.e.now) (out-RawDiffer c.args.e.now).operands c.as_slice-operand-items.result.now (out-RawDiffer c.args.e.now).operators
    c.as_slice-rest.result.now c.loop-operand.rest.now
    c.loop-operand.operand-index c.args.before c.loop-operand.tally
    (of_differ-out steps c.args.e.now) c.as_slice-operand-items.ensures c.as_slice-rest.ensures c.loop-operand-test.false c.loop-operand.invariant

pub union_operators-loop-operand-preserved : goal.union_operators-loop-operand-preserved
union_operators-loop-operand-preserved t c =
    operand_more mask_operators c.as_slice-operand-items.result.now c.loop-operand.rest.now c.behind-rest.result.now c.loop-operand.operand-index c.operand-item.result
    c.loop-operand.tally c.mask_operators.result
    c.count_next-tally.result _
    c.loop-operand-test.true c.operand-item.is c.mask_operators.ensures c.count_next-tally.ensures c.behind-rest.ensures c.loop-operand.invariant

pub union_operators-returns : goal.union_operators-returns
union_operators-returns t c =
    operands_done mask_operators (union_operators c.args.e.now) (out-RawUnion c.args.e.now).operands c.as_slice-operand-items.result.now (out-RawUnion c.args.e.now).operators
    c.as_slice-rest.result.now c.loop-operand.rest.now
    c.loop-operand.operand-index c.args.before c.loop-operand.tally
    (of_union-out steps c.args.e.now) c.as_slice-operand-items.ensures c.as_slice-rest.ensures c.loop-operand-test.false c.loop-operand.invariant

pub mask_operators-loop-operand-preserved : goal.mask_operators-loop-operand-preserved
mask_operators-loop-operand-preserved t c =
    operand_more prim_operators c.as_slice-operand-items.result.now c.loop-operand.rest.now c.behind-rest.result.now c.loop-operand.operand-index c.operand-item.result
    c.loop-operand.tally c.prim_operators.result
    c.count_next-tally.result _
    c.loop-operand-test.true c.operand-item.is c.prim_operators.ensures c.count_next-tally.ensures c.behind-rest.ensures c.loop-operand.invariant

pub mask_operators-returns : goal.mask_operators-returns
mask_operators-returns t c =
    operands_done prim_operators (mask_operators c.args.e.now) (out-RawMask c.args.e.now).operands c.as_slice-operand-items.result.now (out-RawMask c.args.e.now).operators
    c.as_slice-rest.result.now c.loop-operand.rest.now
    c.loop-operand.operand-index c.args.before c.loop-operand.tally
    (of_mask-out steps c.args.e.now) c.as_slice-operand-items.ensures c.as_slice-rest.ensures c.loop-operand-test.false c.loop-operand.invariant

pub argument_operators-loop-argument-preserved : goal.argument_operators-loop-argument-preserved
argument_operators-loop-argument-preserved t c =
    argument_more expression_operators c.args.arguments.now c.loop-argument.argument-index c.argument-item.result c.loop-argument.tally c.expression_operators-tally.result _
    c.loop-argument-test.true c.argument-item.is c.expression_operators-tally.ensures c.loop-argument.invariant

pub argument_operators-returns : goal.argument_operators-returns
argument_operators-returns t c =
    arguments_done expression_operators c.args.arguments.now c.loop-argument.argument-index c.loop-argument.tally _ c.loop-argument-test.false c.loop-argument.invariant

pub expression_operators-returns-in-Choice : goal.expression_operators-returns-in-Choice
expression_operators-returns-in-Choice t c =
    choice_counted c.args.e.now c.in-Choice.field-0 c.in-Choice.test c.get.result.now c.in-Choice.a c.get-in-Choice.result.now c.in-Choice.b c.get-in-Choice-2.result.now
    c.args.before c.condition_operators-tested.result c.expression_operators-tally.result c.expression_operators.result
    c.in-Choice.is c.get.ensures c.get-in-Choice.ensures c.get-in-Choice-2.ensures c.condition_operators-tested.ensures c.expression_operators-tally.ensures
    c.expression_operators.ensures

pub expression_operators-returns-in-Sum : goal.expression_operators-returns-in-Sum
expression_operators-returns-in-Sum t c =
    sum_counted c.args.e.now c.in-Sum.e c.get-in-Sum.result.now c.args.before c.sum_operators.result c.in-Sum.is c.get-in-Sum.ensures c.sum_operators.ensures

pub comparison_operators-returns : goal.comparison_operators-returns
comparison_operators-returns t c =
    comparison_counted c.args.c.now c.get.result.now c.get-2.result.now c.args.before c.sum_operators-left.result c.count-tally.result c.sum_operators.result
    c.get.ensures c.get-2.ensures c.sum_operators-left.ensures c.count-tally.ensures c.sum_operators.ensures

pub prim_operators-returns : goal.prim_operators-returns
prim_operators-returns t c =
    prim_counted c.args.e.now c.as_slice.result.now c.args.before c.bits_operators-tally.result c.primary_operators.result c.as_slice.ensures c.bits_operators-tally.ensures
    c.primary_operators.ensures

pub primary_operators-returns-in-Location : goal.primary_operators-returns-in-Location
primary_operators-returns-in-Location t c =
    location_counted c.args.e.now c.in-Location.field-0 c.in-Location.r c.get.result.now c.args.before c.reference_operators.result c.in-Location.is c.get.ensures
    c.reference_operators.ensures

pub primary_operators-returns-in-Forced : goal.primary_operators-returns-in-Forced
primary_operators-returns-in-Forced t c =
    forced_counted c.args.e.now c.in-Forced.field-0 c.in-Forced.e c.get-in-Forced.result.now c.args.before c.expression_operators.result c.in-Forced.is c.get-in-Forced.ensures
    c.expression_operators.ensures

pub primary_operators-returns-in-Bracket : goal.primary_operators-returns-in-Bracket
primary_operators-returns-in-Bracket t c =
    bracket_counted c.args.e.now c.in-Bracket.field-0 c.in-Bracket.e c.get-in-Bracket.result.now c.args.before c.expression_operators-in-Bracket.result c.in-Bracket.is
    c.get-in-Bracket.ensures
    c.expression_operators-in-Bracket.ensures

pub primary_operators-returns-in-Ref : goal.primary_operators-returns-in-Ref
primary_operators-returns-in-Ref t c =
    place_counted c.args.e.now c.in-Ref.r c.args.before c.reference_operators-in-Ref.result c.in-Ref.is c.reference_operators-in-Ref.ensures

pub primary_operators-returns-in-Call : goal.primary_operators-returns-in-Call
primary_operators-returns-in-Call t c =
    call_counted c.args.e.now c.in-Call.field-0 c.in-Call.arguments c.as_slice.result.now c.args.before c.argument_operators.result c.in-Call.is c.as_slice.ensures
    c.argument_operators.ensures

pub reference_operators-returns-in-One : goal.reference_operators-returns-in-One
reference_operators-returns-in-One t c =
    index_counted c.args.r.now c.in-One.field-0 c.in-One.i c.get.result.now c.args.before c.expression_operators.result c.in-One.is c.get.ensures c.expression_operators.ensures

pub reference_operators-returns-in-Two : goal.reference_operators-returns-in-Two
reference_operators-returns-in-Two t c =
    indexes_counted c.args.r.now c.in-Two.field-0 c.in-Two.i c.get-in-Two.result.now c.in-Two.j c.get-in-Two-2.result.now c.args.before c.expression_operators-tally.result
    c.expression_operators-in-Two.result
    c.in-Two.is c.get-in-Two.ensures c.get-in-Two-2.ensures c.expression_operators-tally.ensures c.expression_operators-in-Two.ensures

pub reference_operators-returns-in-Bare : goal.reference_operators-returns-in-Bare
reference_operators-returns-in-Bare t c =
    address_counted c.args.r.now c.in-Bare.field-0 c.in-Bare.e c.get-in-Bare.result.now c.args.before c.expression_operators-in-Bare.result c.in-Bare.is c.get-in-Bare.ensures
    c.expression_operators-in-Bare.ensures
