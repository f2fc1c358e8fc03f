use Rattle.std.proofs.Common.{◌≡◌, ◌==◌, false, length, refl, arith}
use Rattle.std.proofs.lemmas.Bool.Decides.{nat_tests}
use Rattle.cw_tree.specs.declared.expression.RawDiffer.{out-RawDiffer}
use Rattle.cw_tree.specs.declared.expression.RawMask.{out-RawMask}
use Rattle.cw_tree.specs.declared.expression.RawPrim.{out-RawPrim}
use Rattle.cw_tree.specs.declared.expression.RawSum.{out-RawSum}
use Rattle.cw_tree.specs.declared.expression.RawTerm.{out-RawTerm}
use Rattle.cw_tree.specs.declared.expression.RawUnion.{out-RawUnion}
use Rattle.cw_scale.specs.TypeRules.{sum, term, differ, union, mask, prim, primary}
use Rattle.cw_scale.proofs.Arms.{choice_shape, sum_alone_shape, number_arm_shape, forced_shape, bracket_shape, reference_arm_shape, call_shape}
use Rattle.cw_scale.proofs.Layers.{differ-layer, union-layer, mask-layer, prim-layer, term-layer, sum-layer}
use Rattle.cw_scale.proofs.Shapes.{shape_begins, shape_goes_on, term_shape_ends, sum_shape_ends, logic_alone, logic_several, prim_merged}
use Rattle.cw_scale.proofs.scales.+shape.Goals as goal

pub expression_shape-returns-in-Choice : goal.expression_shape-returns-in-Choice
expression_shape-returns-in-Choice t c =
    choice_shape c.args.named.now c.args.e.now c.in-Choice.field-0 c.in-Choice.field-1 c.in-Choice.first c.get.result.now c.in-Choice.second c.get-in-Choice.result.now
    c.expression_shape-first.result c.expression_shape-second.result c.plain.result c.max.result
    c.in-Choice.is c.get.ensures c.get-in-Choice.ensures c.expression_shape-first.ensures c.expression_shape-second.ensures c.max.ensures c.plain.ensures

pub expression_shape-returns-in-Sum : goal.expression_shape-returns-in-Sum
expression_shape-returns-in-Sum t c =
    sum_alone_shape c.args.named.now c.args.e.now c.in-Sum.e c.get-in-Sum.result.now c.sum_shape.result c.in-Sum.is c.get-in-Sum.ensures c.sum_shape.ensures

pub sum_shape-loop-operand-init : goal.sum_shape-loop-operand-init
sum_shape-loop-operand-init t c = shape_begins (term c.args.named.now) c.stands_alone-alone.result c.as_slice-operands.result.now c.plain-shape.result c.plain-shape.ensures

pub sum_shape-loop-operand-preserved : goal.sum_shape-loop-operand-preserved
sum_shape-loop-operand-preserved t c =
    shape_goes_on (term c.args.named.now) c.stands_alone-alone.result c.as_slice-operands.result.now c.loop-operand.operand-index c.operand-item.result c.loop-operand.shape c.term_shape-next.result c.merged-shape.result _
    c.loop-operand-test.true c.operand-item.is c.term_shape-next.ensures c.merged-shape.ensures c.loop-operand.invariant

pub sum_shape-returns : goal.sum_shape-returns
sum_shape-returns t c =
    sum_shape_ends (term c.args.named.now) (sum c.args.named.now c.args.e.now) (out-RawSum c.args.e.now).operands c.as_slice-operands.result.now (out-RawSum c.args.e.now).sign c.stands_alone-alone.result
    c.loop-operand.operand-index c.loop-operand.shape (sum-layer c.args.named.now c.args.e.now) c.as_slice-operands.ensures c.stands_alone-alone.ensures c.loop-operand-test.false c.loop-operand.invariant

pub term_shape-loop-operand-init : goal.term_shape-loop-operand-init
term_shape-loop-operand-init t c = shape_begins (differ c.args.named.now) (length c.as_slice-operands.result.now == 1) c.as_slice-operands.result.now c.plain-shape.result c.plain-shape.ensures

pub term_shape-loop-operand-preserved : goal.term_shape-loop-operand-preserved
term_shape-loop-operand-preserved t c =
    shape_goes_on (differ c.args.named.now) (length c.as_slice-operands.result.now == 1) c.as_slice-operands.result.now c.loop-operand.operand-index c.operand-item.result c.loop-operand.shape c.differ_shape-next.result c.merged-shape.result _
    c.loop-operand-test.true c.operand-item.is c.differ_shape-next.ensures c.merged-shape.ensures c.loop-operand.invariant

pub term_shape-returns : goal.term_shape-returns
term_shape-returns t c =
    term_shape_ends (differ c.args.named.now) (term c.args.named.now c.args.e.now) (out-RawTerm c.args.e.now).operands c.as_slice-operands.result.now (out-RawTerm c.args.e.now).operators
    c.loop-operand.operand-index c.loop-operand.shape (term-layer c.args.named.now c.args.e.now) c.as_slice-operands.ensures c.loop-operand-test.false c.loop-operand.invariant

pub differ_shape-returns-in-len1 : goal.differ_shape-returns-in-len1
differ_shape-returns-in-len1 t c =
    let one : length c.as_slice.result.now ≡ 1 = omega arith in
    logic_alone (union c.args.named.now) (differ c.args.named.now c.args.e.now) (out-RawDiffer c.args.e.now).operands c.as_slice.result.now c.operand-item.result c.union_shape.result
    (differ-layer c.args.named.now c.args.e.now) c.as_slice.ensures one c.operand-item.is c.union_shape.ensures

pub differ_shape-returns-in_default : goal.differ_shape-returns-in_default
differ_shape-returns-in_default t c =
    let other : (length c.as_slice.result.now == 1) ≡ false = grind (arith, nat_tests) in
    logic_several (union c.args.named.now) (differ c.args.named.now c.args.e.now) (out-RawDiffer c.args.e.now).operands c.as_slice.result.now c.plain.result
    (differ-layer c.args.named.now c.args.e.now) c.as_slice.ensures other c.plain.ensures

pub union_shape-returns-in-len1 : goal.union_shape-returns-in-len1
union_shape-returns-in-len1 t c =
    let one : length c.as_slice.result.now ≡ 1 = omega arith in
    logic_alone (mask c.args.named.now) (union c.args.named.now c.args.e.now) (out-RawUnion c.args.e.now).operands c.as_slice.result.now c.operand-item.result c.mask_shape.result
    (union-layer c.args.named.now c.args.e.now) c.as_slice.ensures one c.operand-item.is c.mask_shape.ensures

pub union_shape-returns-in_default : goal.union_shape-returns-in_default
union_shape-returns-in_default t c =
    let other : (length c.as_slice.result.now == 1) ≡ false = grind (arith, nat_tests) in
    logic_several (mask c.args.named.now) (union c.args.named.now c.args.e.now) (out-RawUnion c.args.e.now).operands c.as_slice.result.now c.plain.result
    (union-layer c.args.named.now c.args.e.now) c.as_slice.ensures other c.plain.ensures

pub mask_shape-returns-in-len1 : goal.mask_shape-returns-in-len1
mask_shape-returns-in-len1 t c =
    let one : length c.as_slice.result.now ≡ 1 = omega arith in
    logic_alone (prim c.args.named.now) (mask c.args.named.now c.args.e.now) (out-RawMask c.args.e.now).operands c.as_slice.result.now c.operand-item.result c.prim_shape.result
    (mask-layer c.args.named.now c.args.e.now) c.as_slice.ensures one c.operand-item.is c.prim_shape.ensures

pub mask_shape-returns-in_default : goal.mask_shape-returns-in_default
mask_shape-returns-in_default t c =
    let other : (length c.as_slice.result.now == 1) ≡ false = grind (arith, nat_tests) in
    logic_several (prim c.args.named.now) (mask c.args.named.now c.args.e.now) (out-RawMask c.args.e.now).operands c.as_slice.result.now c.plain.result
    (mask-layer c.args.named.now c.args.e.now) c.as_slice.ensures other c.plain.ensures

pub prim_shape-returns : goal.prim_shape-returns
prim_shape-returns t c =
    prim_merged (prim c.args.named.now c.args.e.now) (primary c.args.named.now (out-RawPrim c.args.e.now).primary) (out-RawPrim c.args.e.now).bits c.as_slice.result.now
    c.primary_shape-shape.result c.logic_merged.result (prim-layer c.args.named.now c.args.e.now) c.as_slice.ensures
    c.primary_shape-shape.ensures c.logic_merged.ensures

pub primary_shape-returns-in-Number : goal.primary_shape-returns-in-Number
primary_shape-returns-in-Number t c =
    number_arm_shape c.args.named.now c.args.e.now c.in-Number.n c.number_operand.result c.number_shape.result c.in-Number.is c.number_operand.ensures c.number_shape.ensures

pub primary_shape-returns-in-Forced : goal.primary_shape-returns-in-Forced
primary_shape-returns-in-Forced t c =
    forced_shape c.args.named.now c.args.e.now c.in-Forced.scale c.get.result.now c.in-Forced.field-1 c.fraction_of.result c.plain.result c.in-Forced.is c.get.ensures c.fraction_of.ensures c.plain.ensures

pub primary_shape-returns-in-Bracket : goal.primary_shape-returns-in-Bracket
primary_shape-returns-in-Bracket t c =
    bracket_shape c.args.named.now c.args.e.now c.in-Bracket.field-0 c.in-Bracket.e c.get-in-Bracket.result.now c.expression_shape-shape.result c.plain-in-Bracket.result
    c.in-Bracket.is c.get-in-Bracket.ensures c.expression_shape-shape.ensures c.plain-in-Bracket.ensures

pub primary_shape-returns-in-Ref : goal.primary_shape-returns-in-Ref
primary_shape-returns-in-Ref t c =
    reference_arm_shape c.args.named.now c.args.e.now c.in-Ref.r c.in-Ref.r c.reference_shape.result c.in-Ref.is refl c.reference_shape.ensures

pub primary_shape-returns-in-Call : goal.primary_shape-returns-in-Call
primary_shape-returns-in-Call t c =
    call_shape c.args.named.now c.args.e.now c.in-Call.name c.in-Call.field-1 c.name_fraction.result c.plain-in-Call.result c.in-Call.is (rw c.get-in-Call.ensures at c.name_fraction.ensures) c.plain-in-Call.ensures
