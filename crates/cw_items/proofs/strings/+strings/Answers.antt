use Rattle.std.proofs.Common.{refl, ap, ◌∙◌}
use Rattle.std.proofs.lemmas.Result.{on_ok_weaker}
use Rattle.cw_tree.specs.declared.expression.RawExpr.{RawExpr}
use Rattle.cw_tree.specs.declared.expression.RawPrimary.{RawPrimary}
use Rattle.cw_tree.specs.declared.expression.RawRef.{RawRef}
use Rattle.cw_tree.specs.declared.expression.RawSum.{RawSum, out-RawSum}
use Rattle.cw_tree.specs.declared.expression.RawCand.{out-RawCand}
use Rattle.cw_tree.specs.declared.expression.RawCond.{out-RawCond}
use Rattle.cw_tree.specs.declared.expression.RawDiffer.{out-RawDiffer}
use Rattle.cw_tree.specs.declared.expression.RawMask.{out-RawMask}
use Rattle.cw_tree.specs.declared.expression.RawPrim.{out-RawPrim}
use Rattle.cw_tree.specs.declared.expression.RawTerm.{out-RawTerm}
use Rattle.cw_tree.specs.declared.expression.RawUnion.{out-RawUnion}
use Rattle.cw_facts.specs.declared.fact.Reading.TheVariants as reading
use Rattle.cw_facts.specs.Uses.{expression_uses, conjunction_uses, comparison_uses, condition_uses, differ_uses, mask_uses, prim_uses, primary_uses, reference_uses, sum_uses, term_uses, union_uses}
use Rattle.cw_items.specs.Things.{texts}
use Rattle.cw_facts.proofs.Layers.{of_sum, of_number, of_octal, of_literal, of_location, of_forced, of_bracket, of_ref, of_bare}
use Rattle.cw_items.proofs.Adding.{of_primary, of_each_condition, of_each_conjunction, of_each_sum, of_each_term, of_each_differ, of_each_union, of_each_mask, none_more, one_more, all_parts, whole, passed_on, string_more, choice_more, comparison_more, call_more, name_more, index_more, indexes_more}
use Rattle.cw_items.proofs.strings.+strings.Goals as goal

pub argument_strings-loop-argument-preserved : goal.argument_strings-loop-argument-preserved
argument_strings-loop-argument-preserved t c =
    one_more c.args.owner.now expression_uses reading.Argument c.args.arguments.now c.loop-argument.argument-index c.argument-item.result c.args.out.now c.loop-argument.out c.expression_strings.new.out
    c.loop-argument-test.true c.argument-item.is (c.in_ok-expression_strings.ensures reading.Argument) c.loop-argument.invariant

pub argument_strings-returns : goal.argument_strings-returns
argument_strings-returns t c =
    all_parts c.args.owner.now expression_uses reading.Argument c.args.arguments.now c.args.arguments.now c.loop-argument.argument-index c.args.out.now c.loop-argument.out
    c.loop-argument-test.false refl c.loop-argument.invariant

pub condition_strings-loop-operand-preserved : goal.condition_strings-loop-operand-preserved
condition_strings-loop-operand-preserved t c = λ r.
    one_more c.args.owner.now conjunction_uses r c.as_slice-operand-items.result.now c.loop-operand.operand-index c.operand-item.result c.args.out.now c.loop-operand.out c.conjunction_strings.new.out
    c.loop-operand-test.true c.operand-item.is (c.in_ok-conjunction_strings.ensures r) (c.loop-operand.invariant r)

pub condition_strings-returns : goal.condition_strings-returns
condition_strings-returns t c =
    whole c.args.owner.now (condition_uses c.args.e.now) conjunction_uses c.as_slice-operand-items.result.now (out-RawCond c.args.e.now).operands c.loop-operand.operand-index c.args.out.now c.loop-operand.out
    c.loop-operand-test.false c.as_slice-operand-items.ensures c.loop-operand.invariant (of_each_condition c.args.e.now)

pub conjunction_strings-loop-operand-preserved : goal.conjunction_strings-loop-operand-preserved
conjunction_strings-loop-operand-preserved t c = λ r.
    one_more c.args.owner.now comparison_uses r c.as_slice-operand-items.result.now c.loop-operand.operand-index c.operand-item.result c.args.out.now c.loop-operand.out c.comparison_strings.new.out
    c.loop-operand-test.true c.operand-item.is (c.in_ok-comparison_strings.ensures r) (c.loop-operand.invariant r)

pub conjunction_strings-returns : goal.conjunction_strings-returns
conjunction_strings-returns t c =
    whole c.args.owner.now (conjunction_uses c.args.e.now) comparison_uses c.as_slice-operand-items.result.now (out-RawCand c.args.e.now).operands c.loop-operand.operand-index c.args.out.now c.loop-operand.out
    c.loop-operand-test.false c.as_slice-operand-items.ensures c.loop-operand.invariant (of_each_conjunction c.args.e.now)

pub sum_strings-loop-operand-preserved : goal.sum_strings-loop-operand-preserved
sum_strings-loop-operand-preserved t c = λ r.
    one_more c.args.owner.now term_uses r c.as_slice-operand-items.result.now c.loop-operand.operand-index c.operand-item.result c.args.out.now c.loop-operand.out c.term_strings.new.out
    c.loop-operand-test.true c.operand-item.is (c.in_ok-term_strings.ensures r) (c.loop-operand.invariant r)

pub sum_strings-returns : goal.sum_strings-returns
sum_strings-returns t c =
    whole c.args.owner.now (sum_uses c.args.e.now) term_uses c.as_slice-operand-items.result.now (out-RawSum c.args.e.now).operands c.loop-operand.operand-index c.args.out.now c.loop-operand.out
    c.loop-operand-test.false c.as_slice-operand-items.ensures c.loop-operand.invariant (of_each_sum c.args.e.now)

pub term_strings-loop-operand-preserved : goal.term_strings-loop-operand-preserved
term_strings-loop-operand-preserved t c = λ r.
    one_more c.args.owner.now differ_uses r c.as_slice-operand-items.result.now c.loop-operand.operand-index c.operand-item.result c.args.out.now c.loop-operand.out c.differ_strings.new.out
    c.loop-operand-test.true c.operand-item.is (c.in_ok-differ_strings.ensures r) (c.loop-operand.invariant r)

pub term_strings-returns : goal.term_strings-returns
term_strings-returns t c =
    whole c.args.owner.now (term_uses c.args.e.now) differ_uses c.as_slice-operand-items.result.now (out-RawTerm c.args.e.now).operands c.loop-operand.operand-index c.args.out.now c.loop-operand.out
    c.loop-operand-test.false c.as_slice-operand-items.ensures c.loop-operand.invariant (of_each_term c.args.e.now)

pub differ_strings-loop-operand-preserved : goal.differ_strings-loop-operand-preserved
differ_strings-loop-operand-preserved t c = λ r.
    one_more c.args.owner.now union_uses r c.as_slice-operand-items.result.now c.loop-operand.operand-index c.operand-item.result c.args.out.now c.loop-operand.out c.union_strings.new.out
    c.loop-operand-test.true c.operand-item.is (c.in_ok-union_strings.ensures r) (c.loop-operand.invariant r)

pub differ_strings-returns : goal.differ_strings-returns
differ_strings-returns t c =
    whole c.args.owner.now (differ_uses c.args.e.now) union_uses c.as_slice-operand-items.result.now (out-RawDiffer c.args.e.now).operands c.loop-operand.operand-index c.args.out.now c.loop-operand.out
    c.loop-operand-test.false c.as_slice-operand-items.ensures c.loop-operand.invariant (of_each_differ c.args.e.now)

pub union_strings-loop-operand-preserved : goal.union_strings-loop-operand-preserved
union_strings-loop-operand-preserved t c = λ r.
    one_more c.args.owner.now mask_uses r c.as_slice-operand-items.result.now c.loop-operand.operand-index c.operand-item.result c.args.out.now c.loop-operand.out c.mask_strings.new.out
    c.loop-operand-test.true c.operand-item.is (c.in_ok-mask_strings.ensures r) (c.loop-operand.invariant r)

pub union_strings-returns : goal.union_strings-returns
union_strings-returns t c =
    whole c.args.owner.now (union_uses c.args.e.now) mask_uses c.as_slice-operand-items.result.now (out-RawUnion c.args.e.now).operands c.loop-operand.operand-index c.args.out.now c.loop-operand.out
    c.loop-operand-test.false c.as_slice-operand-items.ensures c.loop-operand.invariant (of_each_union c.args.e.now)

pub mask_strings-loop-operand-preserved : goal.mask_strings-loop-operand-preserved
mask_strings-loop-operand-preserved t c = λ r.
    one_more c.args.owner.now prim_uses r c.as_slice-operand-items.result.now c.loop-operand.operand-index c.operand-item.result c.args.out.now c.loop-operand.out c.prim_strings.new.out
    c.loop-operand-test.true c.operand-item.is (c.in_ok-prim_strings.ensures r) (c.loop-operand.invariant r)

pub mask_strings-returns : goal.mask_strings-returns
mask_strings-returns t c =
    whole c.args.owner.now (mask_uses c.args.e.now) prim_uses c.as_slice-operand-items.result.now (out-RawMask c.args.e.now).operands c.loop-operand.operand-index c.args.out.now c.loop-operand.out
    c.loop-operand-test.false c.as_slice-operand-items.ensures c.loop-operand.invariant (of_each_mask c.args.e.now)

pub comparison_strings-returns : goal.comparison_strings-returns
comparison_strings-returns t c = λ r.
    on_ok_weaker c.sum_strings-2.result
    (comparison_more c.args.owner.now c.args.e.now r c.get.result.now c.get-2.result.now c.args.out.now c.sum_strings.new.out c.sum_strings-2.new.out c.get.ensures c.get-2.ensures (c.in_ok-sum_strings.ensures reading.Value))
    (c.sum_strings-2.ensures reading.Value)

pub prim_strings-returns : goal.prim_strings-returns
prim_strings-returns t c = λ r.
    let s = (of_primary c.args.e.now r).0 in
    on_ok_weaker c.primary_strings.result
    (λ added. passed_on c.args.owner.now (prim_uses c.args.e.now r) (primary_uses (out-RawPrim c.args.e.now).primary s) (primary_uses (out-RawPrim c.args.e.now).primary s) c.args.out.now c.primary_strings.new.out
    added refl (of_primary c.args.e.now r).1)
    (c.primary_strings.ensures s)

pub expression_strings-returns-in_ok-expression_strings-in-Choice : goal.expression_strings-returns-in_ok-expression_strings-in-Choice
expression_strings-returns-in_ok-expression_strings-in-Choice t c = λ r.
    on_ok_weaker c.expression_strings-in-Choice.result
    (choice_more c.args.owner.now c.args.e.now r c.in-Choice.field-0 c.in-Choice.test c.get.result.now c.in-Choice.first c.get-in-Choice.result.now c.in-Choice.second c.get-in-Choice-2.result.now
    c.args.out.now c.condition_strings.new.out c.expression_strings.new.out c.expression_strings-in-Choice.new.out
    c.in-Choice.is c.get.ensures c.get-in-Choice.ensures c.get-in-Choice-2.ensures (c.in_ok-condition_strings-in-Choice.ensures reading.Value) (c.in_ok-expression_strings-in-Choice.ensures reading.Value))
    (c.expression_strings-in-Choice.ensures reading.Value)

pub expression_strings-returns-in-Sum : goal.expression_strings-returns-in-Sum
expression_strings-returns-in-Sum t c = λ r.
    on_ok_weaker c.sum_strings.result
    (λ added. passed_on c.args.owner.now (expression_uses c.args.e.now r) (sum_uses c.in-Sum.sum r) (sum_uses c.get-in-Sum.result.now r) c.args.out.now c.sum_strings.new.out
    added (ap (λ (x : RawSum). sum_uses x r) c.get-in-Sum.ensures) (ap (λ (x : RawExpr). expression_uses x r) c.in-Sum.is ∙ of_sum c.in-Sum.sum r))
    (c.sum_strings.ensures r)

pub primary_strings-returns-in-Number : goal.primary_strings-returns-in-Number
primary_strings-returns-in-Number t c = λ r.
    none_more c.args.owner.now (primary_uses c.args.e.now r) c.args.out.now (ap (texts c.args.owner.now) (ap (λ (x : RawPrimary). primary_uses x r) c.in-Number.is ∙ of_number c.in-Number.field-0 r))

pub primary_strings-returns-in-Octal : goal.primary_strings-returns-in-Octal
primary_strings-returns-in-Octal t c = λ r.
    none_more c.args.owner.now (primary_uses c.args.e.now r) c.args.out.now (ap (texts c.args.owner.now) (ap (λ (x : RawPrimary). primary_uses x r) c.in-Octal.is ∙ of_octal c.in-Octal.field-0 r))

pub primary_strings-returns-in-Literal : goal.primary_strings-returns-in-Literal
primary_strings-returns-in-Literal t c = λ r.
    none_more c.args.owner.now (primary_uses c.args.e.now r) c.args.out.now (ap (texts c.args.owner.now) (ap (λ (x : RawPrimary). primary_uses x r) c.in-Literal.is ∙ of_literal c.in-Literal.field-0 r))

pub primary_strings-returns-in-Text : goal.primary_strings-returns-in-Text
primary_strings-returns-in-Text t c = λ r.
    on_ok_weaker c.text_thing.result
    (string_more c.args.owner.now c.args.e.now r c.in-Text.at c.in-Text.text c.as_slice.result.now c.args.out.now c.text_thing.new.out c.in-Text.is c.as_slice.ensures)
    c.text_thing.ensures

pub primary_strings-returns-in-Location : goal.primary_strings-returns-in-Location
primary_strings-returns-in-Location t c = λ r.
    on_ok_weaker c.reference_strings.result
    (λ added. passed_on c.args.owner.now (primary_uses c.args.e.now r) (reference_uses c.in-Location.reference reading.Whole) (reference_uses c.get.result.now reading.Whole) c.args.out.now c.reference_strings.new.out
    added (ap (λ (x : RawRef). reference_uses x reading.Whole) c.get.ensures) (ap (λ (x : RawPrimary). primary_uses x r) c.in-Location.is ∙ of_location c.in-Location.field-0 c.in-Location.reference r))
    (c.reference_strings.ensures reading.Whole)

pub primary_strings-returns-in-Forced : goal.primary_strings-returns-in-Forced
primary_strings-returns-in-Forced t c = λ r.
    on_ok_weaker c.expression_strings.result
    (λ added. passed_on c.args.owner.now (primary_uses c.args.e.now r) (expression_uses c.in-Forced.e reading.Value) (expression_uses c.get-in-Forced.result.now reading.Value) c.args.out.now c.expression_strings.new.out
    added (ap (λ (x : RawExpr). expression_uses x reading.Value) c.get-in-Forced.ensures) (ap (λ (x : RawPrimary). primary_uses x r) c.in-Forced.is ∙ of_forced c.in-Forced.field-0 c.in-Forced.e r))
    (c.expression_strings.ensures reading.Value)

pub primary_strings-returns-in-Bracket : goal.primary_strings-returns-in-Bracket
primary_strings-returns-in-Bracket t c = λ r.
    on_ok_weaker c.expression_strings-in-Bracket.result
    (λ added. passed_on c.args.owner.now (primary_uses c.args.e.now r) (expression_uses c.in-Bracket.e reading.Value) (expression_uses c.get-in-Bracket.result.now reading.Value) c.args.out.now c.expression_strings-in-Bracket.new.out
    added (ap (λ (x : RawExpr). expression_uses x reading.Value) c.get-in-Bracket.ensures) (ap (λ (x : RawPrimary). primary_uses x r) c.in-Bracket.is ∙ of_bracket c.in-Bracket.field-0 c.in-Bracket.e r))
    (c.expression_strings-in-Bracket.ensures reading.Value)

pub primary_strings-returns-in-Ref : goal.primary_strings-returns-in-Ref
primary_strings-returns-in-Ref t c = λ r.
    on_ok_weaker c.reference_strings-in-Ref.result
    (λ added. passed_on c.args.owner.now (primary_uses c.args.e.now r) (reference_uses c.in-Ref.reference r) (reference_uses c.in-Ref.reference r) c.args.out.now c.reference_strings-in-Ref.new.out
    added refl (ap (λ (x : RawPrimary). primary_uses x r) c.in-Ref.is ∙ of_ref c.in-Ref.reference r))
    (c.reference_strings-in-Ref.ensures r)

pub primary_strings-returns-in-Call : goal.primary_strings-returns-in-Call
primary_strings-returns-in-Call t c = λ r.
    on_ok_weaker c.argument_strings.result
    (call_more c.args.owner.now c.args.e.now r c.in-Call.field-0 c.in-Call.arguments c.as_slice-in-Call.result.now c.args.out.now c.argument_strings.new.out c.in-Call.is c.as_slice-in-Call.ensures)
    c.argument_strings.ensures

pub reference_strings-returns-in-Name : goal.reference_strings-returns-in-Name
reference_strings-returns-in-Name t c = λ r. name_more c.args.owner.now c.args.r.now r c.in-Name.field-0 c.args.out.now c.in-Name.is

pub reference_strings-returns-in-One : goal.reference_strings-returns-in-One
reference_strings-returns-in-One t c = λ r.
    on_ok_weaker c.expression_strings.result
    (index_more c.args.owner.now c.args.r.now r c.in-One.field-0 c.in-One.index c.get.result.now c.args.out.now c.expression_strings.new.out c.in-One.is c.get.ensures)
    (c.expression_strings.ensures reading.Value)

pub reference_strings-returns-in_ok-expression_strings-in-Two : goal.reference_strings-returns-in_ok-expression_strings-in-Two
reference_strings-returns-in_ok-expression_strings-in-Two t c = λ r.
    on_ok_weaker c.expression_strings-in-Two-2.result
    (indexes_more c.args.owner.now c.args.r.now r c.in-Two.field-0 c.in-Two.first c.get-in-Two.result.now c.in-Two.second c.get-in-Two-2.result.now c.args.out.now c.expression_strings-in-Two.new.out c.expression_strings-in-Two-2.new.out
    c.in-Two.is c.get-in-Two.ensures c.get-in-Two-2.ensures (c.in_ok-expression_strings-in-Two.ensures reading.Value))
    (c.expression_strings-in-Two-2.ensures reading.Value)

pub reference_strings-returns-in-Bare : goal.reference_strings-returns-in-Bare
reference_strings-returns-in-Bare t c = λ r.
    on_ok_weaker c.expression_strings-in-Bare.result
    (λ added. passed_on c.args.owner.now (reference_uses c.args.r.now r) (expression_uses c.in-Bare.address reading.Value) (expression_uses c.get-in-Bare.result.now reading.Value) c.args.out.now c.expression_strings-in-Bare.new.out
    added (ap (λ (x : RawExpr). expression_uses x reading.Value) c.get-in-Bare.ensures) (ap (λ (x : RawRef). reference_uses x r) c.in-Bare.is ∙ of_bare c.in-Bare.field-0 c.in-Bare.address r))
    (c.expression_strings-in-Bare.ensures reading.Value)
