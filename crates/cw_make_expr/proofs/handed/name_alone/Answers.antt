use Rattle.std.proofs.Common.{◌≡◌, ◌==◌, ◌≤◌, ◌∙◌, true, false, is_some, length, arith}
use Rattle.std.proofs.lemmas.Bool.Decides.{nat_tests}
use Rattle.cw_tree.specs.declared.expression.RawDiffer.{out-RawDiffer}
use Rattle.cw_tree.specs.declared.expression.RawMask.{out-RawMask}
use Rattle.cw_tree.specs.declared.expression.RawSum.{out-RawSum}
use Rattle.cw_tree.specs.declared.expression.RawUnion.{out-RawUnion}
use Rattle.cw_unit.specs.declared.unit.LogicOp.TheVariants as logic_op
use Rattle.cw_make_expr.specs.Made.{prim_made, mask_made, union_made, differ_made}
use Rattle.cw_make_expr.proofs.Layers.{differ-layer, union-layer, mask-layer}
use Rattle.cw_make_expr.proofs.Alone.{no_sum, sum_alone, sum_signed, sum_one, sum_others, term_one, term_others, logic_one, logic_others, prim_bare, prim_bits}
use Rattle.cw_make_expr.proofs.handed.name_alone.Goals as goal

pub returns-in-Choice : goal.returns-in-Choice
returns-in-Choice c named numbers = no_sum named numbers c.args.e.now c.in-Choice.field-0 c.in-Choice.field-1 c.in-Choice.field-2 c.in-Choice.field-3 c.in-Choice.is

pub returns-then-is_some : goal.returns-then-is_some
returns-then-is_some c named numbers =
    let signed : is_some (out-RawSum c.get-sum.result.now).sign ≡ true = cc in
    sum_alone named numbers c.args.e.now c.in-Sum.sum c.get-sum.result.now c.in-Sum.is c.get-sum.ensures
    ∙ sum_signed named numbers c.get-sum.result.now signed

pub returns-in_default : goal.returns-in_default
returns-in_default c named numbers =
    let unsigned : is_some (out-RawSum c.get-sum.result.now).sign ≡ false = cc in
    let others : (length c.as_slice.result.now == 1) ≡ false = grind (arith, nat_tests) in
    sum_alone named numbers c.args.e.now c.in-Sum.sum c.get-sum.result.now c.in-Sum.is c.get-sum.ensures
    ∙ sum_others named numbers c.get-sum.result.now c.as_slice.result.now unsigned c.as_slice.ensures others

pub returns-in_default-as_slice : goal.returns-in_default-as_slice
returns-in_default-as_slice c named numbers =
    let unsigned : is_some (out-RawSum c.get-sum.result.now).sign ≡ false = cc in
    let one1 : length c.as_slice.result.now ≡ 1 = omega arith in
    let others : (length c.as_slice-2.result.now == 1) ≡ false = grind (arith, nat_tests) in
    sum_alone named numbers c.args.e.now c.in-Sum.sum c.get-sum.result.now c.in-Sum.is c.get-sum.ensures
    ∙ sum_one named numbers c.get-sum.result.now c.as_slice.result.now c.term-item.result unsigned c.as_slice.ensures one1 c.term-item.is
    ∙ term_others named numbers c.term-item.result c.as_slice-2.result.now c.as_slice-2.ensures others

pub returns-in_default-as_slice-2 : goal.returns-in_default-as_slice-2
returns-in_default-as_slice-2 c named numbers =
    let unsigned : is_some (out-RawSum c.get-sum.result.now).sign ≡ false = cc in
    let one1 : length c.as_slice.result.now ≡ 1 = omega arith in
    let one2 : length c.as_slice-2.result.now ≡ 1 = omega arith in
    let others : (length c.as_slice-3.result.now == 1) ≡ false = grind (arith, nat_tests) in
    sum_alone named numbers c.args.e.now c.in-Sum.sum c.get-sum.result.now c.in-Sum.is c.get-sum.ensures
    ∙ sum_one named numbers c.get-sum.result.now c.as_slice.result.now c.term-item.result unsigned c.as_slice.ensures one1 c.term-item.is
    ∙ term_one named numbers c.term-item.result c.as_slice-2.result.now c.differ-item.result c.as_slice-2.ensures one2 c.differ-item.is
    ∙ logic_others logic_op.Differ (union_made named numbers) (differ_made named numbers c.differ-item.result) (out-RawDiffer c.differ-item.result).operands
    c.as_slice-3.result.now (differ-layer named numbers c.differ-item.result) c.as_slice-3.ensures others

pub returns-in_default-as_slice-3 : goal.returns-in_default-as_slice-3
returns-in_default-as_slice-3 c named numbers =
    let unsigned : is_some (out-RawSum c.get-sum.result.now).sign ≡ false = cc in
    let one1 : length c.as_slice.result.now ≡ 1 = omega arith in
    let one2 : length c.as_slice-2.result.now ≡ 1 = omega arith in
    let one3 : length c.as_slice-3.result.now ≡ 1 = omega arith in
    let others : (length c.as_slice-4.result.now == 1) ≡ false = grind (arith, nat_tests) in
    sum_alone named numbers c.args.e.now c.in-Sum.sum c.get-sum.result.now c.in-Sum.is c.get-sum.ensures
    ∙ sum_one named numbers c.get-sum.result.now c.as_slice.result.now c.term-item.result unsigned c.as_slice.ensures one1 c.term-item.is
    ∙ term_one named numbers c.term-item.result c.as_slice-2.result.now c.differ-item.result c.as_slice-2.ensures one2 c.differ-item.is
    ∙ logic_one logic_op.Differ (union_made named numbers) (differ_made named numbers c.differ-item.result) (out-RawDiffer c.differ-item.result).operands c.as_slice-3.result.now
    c.union-item.result (differ-layer named numbers c.differ-item.result) c.as_slice-3.ensures one3 c.union-item.is
    ∙ logic_others logic_op.Union (mask_made named numbers) (union_made named numbers c.union-item.result) (out-RawUnion c.union-item.result).operands c.as_slice-4.result.now
    (union-layer named numbers c.union-item.result) c.as_slice-4.ensures others

pub returns-in_default-as_slice-4 : goal.returns-in_default-as_slice-4
returns-in_default-as_slice-4 c named numbers =
    let unsigned : is_some (out-RawSum c.get-sum.result.now).sign ≡ false = cc in
    let one1 : length c.as_slice.result.now ≡ 1 = omega arith in
    let one2 : length c.as_slice-2.result.now ≡ 1 = omega arith in
    let one3 : length c.as_slice-3.result.now ≡ 1 = omega arith in
    let one4 : length c.as_slice-4.result.now ≡ 1 = omega arith in
    let others : (length c.as_slice-5.result.now == 1) ≡ false = grind (arith, nat_tests) in
    sum_alone named numbers c.args.e.now c.in-Sum.sum c.get-sum.result.now c.in-Sum.is c.get-sum.ensures
    ∙ sum_one named numbers c.get-sum.result.now c.as_slice.result.now c.term-item.result unsigned c.as_slice.ensures one1 c.term-item.is
    ∙ term_one named numbers c.term-item.result c.as_slice-2.result.now c.differ-item.result c.as_slice-2.ensures one2 c.differ-item.is
    ∙ logic_one logic_op.Differ (union_made named numbers) (differ_made named numbers c.differ-item.result) (out-RawDiffer c.differ-item.result).operands c.as_slice-3.result.now
    c.union-item.result (differ-layer named numbers c.differ-item.result) c.as_slice-3.ensures one3 c.union-item.is
    ∙ logic_one logic_op.Union (mask_made named numbers) (union_made named numbers c.union-item.result) (out-RawUnion c.union-item.result).operands c.as_slice-4.result.now
    c.mask-item.result (union-layer named numbers c.union-item.result) c.as_slice-4.ensures one4 c.mask-item.is
    ∙ logic_others logic_op.Mask (prim_made named numbers) (mask_made named numbers c.mask-item.result) (out-RawMask c.mask-item.result).operands c.as_slice-5.result.now
    (mask-layer named numbers c.mask-item.result) c.as_slice-5.ensures others

pub returns-in_default-as_slice-5 : goal.returns-in_default-as_slice-5
returns-in_default-as_slice-5 c named numbers =
    let unsigned : is_some (out-RawSum c.get-sum.result.now).sign ≡ false = cc in
    let one1 : length c.as_slice.result.now ≡ 1 = omega arith in
    let one2 : length c.as_slice-2.result.now ≡ 1 = omega arith in
    let one3 : length c.as_slice-3.result.now ≡ 1 = omega arith in
    let one4 : length c.as_slice-4.result.now ≡ 1 = omega arith in
    let one5 : length c.as_slice-5.result.now ≡ 1 = omega arith in
    let bits : 1 ≤ length c.as_slice-6.result.now = omega arith in
    sum_alone named numbers c.args.e.now c.in-Sum.sum c.get-sum.result.now c.in-Sum.is c.get-sum.ensures
    ∙ sum_one named numbers c.get-sum.result.now c.as_slice.result.now c.term-item.result unsigned c.as_slice.ensures one1 c.term-item.is
    ∙ term_one named numbers c.term-item.result c.as_slice-2.result.now c.differ-item.result c.as_slice-2.ensures one2 c.differ-item.is
    ∙ logic_one logic_op.Differ (union_made named numbers) (differ_made named numbers c.differ-item.result) (out-RawDiffer c.differ-item.result).operands c.as_slice-3.result.now
    c.union-item.result (differ-layer named numbers c.differ-item.result) c.as_slice-3.ensures one3 c.union-item.is
    ∙ logic_one logic_op.Union (mask_made named numbers) (union_made named numbers c.union-item.result) (out-RawUnion c.union-item.result).operands c.as_slice-4.result.now
    c.mask-item.result (union-layer named numbers c.union-item.result) c.as_slice-4.ensures one4 c.mask-item.is
    ∙ logic_one logic_op.Mask (prim_made named numbers) (mask_made named numbers c.mask-item.result) (out-RawMask c.mask-item.result).operands c.as_slice-5.result.now
    c.prim-item.result (mask-layer named numbers c.mask-item.result) c.as_slice-5.ensures one5 c.prim-item.is
    ∙ prim_bits named numbers c.prim-item.result c.as_slice-6.result.now c.as_slice-6.ensures bits

pub returns : goal.returns
returns c named numbers =
    let unsigned : is_some (out-RawSum c.get-sum.result.now).sign ≡ false = cc in
    let one1 : length c.as_slice.result.now ≡ 1 = omega arith in
    let one2 : length c.as_slice-2.result.now ≡ 1 = omega arith in
    let one3 : length c.as_slice-3.result.now ≡ 1 = omega arith in
    let one4 : length c.as_slice-4.result.now ≡ 1 = omega arith in
    let one5 : length c.as_slice-5.result.now ≡ 1 = omega arith in
    sum_alone named numbers c.args.e.now c.in-Sum.sum c.get-sum.result.now c.in-Sum.is c.get-sum.ensures
    ∙ sum_one named numbers c.get-sum.result.now c.as_slice.result.now c.term-item.result unsigned c.as_slice.ensures one1 c.term-item.is
    ∙ term_one named numbers c.term-item.result c.as_slice-2.result.now c.differ-item.result c.as_slice-2.ensures one2 c.differ-item.is
    ∙ logic_one logic_op.Differ (union_made named numbers) (differ_made named numbers c.differ-item.result) (out-RawDiffer c.differ-item.result).operands c.as_slice-3.result.now
    c.union-item.result (differ-layer named numbers c.differ-item.result) c.as_slice-3.ensures one3 c.union-item.is
    ∙ logic_one logic_op.Union (mask_made named numbers) (union_made named numbers c.union-item.result) (out-RawUnion c.union-item.result).operands c.as_slice-4.result.now
    c.mask-item.result (union-layer named numbers c.union-item.result) c.as_slice-4.ensures one4 c.mask-item.is
    ∙ logic_one logic_op.Mask (prim_made named numbers) (mask_made named numbers c.mask-item.result) (out-RawMask c.mask-item.result).operands c.as_slice-5.result.now
    c.prim-item.result (mask-layer named numbers c.mask-item.result) c.as_slice-5.ensures one5 c.prim-item.is
    ∙ prim_bare named numbers c.prim-item.result c.as_slice-6.result.now c.as_slice-6.ensures c.in-empty.len_below
    ∙ c.primary_name.ensures named numbers
