use Rattle.std.proofs.Common.{◌==◌, List, length, refl, ap, ◌∙◌}
use Rattle.std.proofs.lemmas.Result.{on_ok_weaker}
use Rattle.cw_tree.specs.declared.expression.RawBits.{RawBits}
use Rattle.cw_tree.specs.declared.expression.RawCand.{out-RawCand}
use Rattle.cw_tree.specs.declared.expression.RawCond.{out-RawCond}
use Rattle.cw_tree.specs.declared.expression.RawDiffer.{out-RawDiffer}
use Rattle.cw_tree.specs.declared.expression.RawMask.{out-RawMask}
use Rattle.cw_tree.specs.declared.expression.RawPrim.{out-RawPrim}
use Rattle.cw_tree.specs.declared.expression.RawTerm.{out-RawTerm}
use Rattle.cw_tree.specs.declared.expression.RawUnion.{out-RawUnion}
use Rattle.cw_facts.specs.declared.fact.Reading.TheVariants as reading
use Rattle.cw_facts.specs.Uses.{reading_of, argument_uses, expression_uses, conjunction_uses, comparison_uses, condition_uses}
use Rattle.cw_facts.specs.Uses.{differ_uses, mask_uses, prim_uses, term_uses, union_uses}
use Rattle.cw_facts.proofs.Layers.{of_condition, of_conjunction, of_term, of_differ, of_union, of_mask}
use Rattle.cw_facts.proofs.Adding.{one_more, all_parts, all_operands, choice_more, sum_more, comparison_more, prim_more, text_more, location_more, forced_more, bracket_more}
use Rattle.cw_facts.proofs.Adding.{reference_more, call_more, name_more, index_more, indexes_more, address_more}
use Rattle.cw_facts.proofs.expressions.+uses.Goals as goal

pub argument_uses-loop-argument-preserved : goal.argument_uses-loop-argument-preserved
argument_uses-loop-argument-preserved t c =
    one_more expression_uses reading.Argument c.args.arguments.now c.loop-argument.argument-index c.argument-item.result c.args.out.now c.loop-argument.out
    c.expression_uses.new.out
    c.loop-argument-test.true c.argument-item.is c.in_ok-expression_uses.ensures c.loop-argument.invariant

pub argument_uses-returns : goal.argument_uses-returns
argument_uses-returns t c =
    all_parts (argument_uses c.args.arguments.now) expression_uses reading.Argument c.args.arguments.now c.args.arguments.now c.loop-argument.argument-index c.args.out.now
    c.loop-argument.out
    refl c.loop-argument-test.false refl c.loop-argument.invariant

pub condition_uses-loop-operand-preserved : goal.condition_uses-loop-operand-preserved
condition_uses-loop-operand-preserved t c =
    one_more conjunction_uses reading.Value c.as_slice-operand-items.result.now c.loop-operand.operand-index c.operand-item.result c.args.out.now c.loop-operand.out
    c.conjunction_uses.new.out
    c.loop-operand-test.true c.operand-item.is c.in_ok-conjunction_uses.ensures c.loop-operand.invariant

pub condition_uses-returns : goal.condition_uses-returns
condition_uses-returns t c =
    all_parts (condition_uses c.args.c.now reading.Value) conjunction_uses reading.Value c.as_slice-operand-items.result.now (out-RawCond c.args.c.now).operands
    c.loop-operand.operand-index c.args.out.now c.loop-operand.out
    (of_condition c.args.c.now reading.Value) c.loop-operand-test.false c.as_slice-operand-items.ensures c.loop-operand.invariant

pub conjunction_uses-loop-operand-preserved : goal.conjunction_uses-loop-operand-preserved
conjunction_uses-loop-operand-preserved t c =
    one_more comparison_uses reading.Value c.as_slice-operand-items.result.now c.loop-operand.operand-index c.operand-item.result c.args.out.now c.loop-operand.out
    c.comparison_uses.new.out
    c.loop-operand-test.true c.operand-item.is c.in_ok-comparison_uses.ensures c.loop-operand.invariant

pub conjunction_uses-returns : goal.conjunction_uses-returns
conjunction_uses-returns t c =
    all_parts (conjunction_uses c.args.c.now reading.Value) comparison_uses reading.Value c.as_slice-operand-items.result.now (out-RawCand c.args.c.now).operands
    c.loop-operand.operand-index c.args.out.now c.loop-operand.out
    (of_conjunction c.args.c.now reading.Value) c.loop-operand-test.false c.as_slice-operand-items.ensures c.loop-operand.invariant

pub sum_uses-loop-operand-preserved : goal.sum_uses-loop-operand-preserved
sum_uses-loop-operand-preserved t c =
    one_more term_uses c.reading_of-reading.result c.as_slice-operands.result.now c.loop-operand.operand-index c.operand-item.result c.args.out.now c.loop-operand.out
    c.term_uses.new.out
    c.loop-operand-test.true c.operand-item.is c.in_ok-term_uses.ensures c.loop-operand.invariant

pub term_uses-loop-operand-preserved : goal.term_uses-loop-operand-preserved
term_uses-loop-operand-preserved t c =
    one_more differ_uses c.reading_of-reading.result c.as_slice-operands.result.now c.loop-operand.operand-index c.operand-item.result c.args.out.now c.loop-operand.out
    c.differ_uses.new.out
    c.loop-operand-test.true c.operand-item.is c.in_ok-differ_uses.ensures c.loop-operand.invariant

pub term_uses-returns : goal.term_uses-returns
term_uses-returns t c =
    all_operands (term_uses c.args.e.now c.args.reading) differ_uses c.args.reading c.reading_of-reading.result c.as_slice-operands.result.now
    (out-RawTerm c.args.e.now).operands c.loop-operand.operand-index c.args.out.now c.loop-operand.out
    (of_term c.args.e.now c.args.reading) c.reading_of-reading.ensures c.loop-operand-test.false c.as_slice-operands.ensures c.loop-operand.invariant

pub differ_uses-loop-operand-preserved : goal.differ_uses-loop-operand-preserved
differ_uses-loop-operand-preserved t c =
    one_more union_uses c.reading_of-reading.result c.as_slice-operands.result.now c.loop-operand.operand-index c.operand-item.result c.args.out.now c.loop-operand.out
    c.union_uses.new.out
    c.loop-operand-test.true c.operand-item.is c.in_ok-union_uses.ensures c.loop-operand.invariant

pub differ_uses-returns : goal.differ_uses-returns
differ_uses-returns t c =
    all_operands (differ_uses c.args.e.now c.args.reading) union_uses c.args.reading c.reading_of-reading.result c.as_slice-operands.result.now
    (out-RawDiffer c.args.e.now).operands c.loop-operand.operand-index c.args.out.now c.loop-operand.out
    (of_differ c.args.e.now c.args.reading) c.reading_of-reading.ensures c.loop-operand-test.false c.as_slice-operands.ensures c.loop-operand.invariant

pub union_uses-loop-operand-preserved : goal.union_uses-loop-operand-preserved
union_uses-loop-operand-preserved t c =
    one_more mask_uses c.reading_of-reading.result c.as_slice-operands.result.now c.loop-operand.operand-index c.operand-item.result c.args.out.now c.loop-operand.out
    c.mask_uses.new.out
    c.loop-operand-test.true c.operand-item.is c.in_ok-mask_uses.ensures c.loop-operand.invariant

pub union_uses-returns : goal.union_uses-returns
union_uses-returns t c =
    all_operands (union_uses c.args.e.now c.args.reading) mask_uses c.args.reading c.reading_of-reading.result c.as_slice-operands.result.now
    (out-RawUnion c.args.e.now).operands c.loop-operand.operand-index c.args.out.now c.loop-operand.out
    (of_union c.args.e.now c.args.reading) c.reading_of-reading.ensures c.loop-operand-test.false c.as_slice-operands.ensures c.loop-operand.invariant

pub mask_uses-loop-operand-preserved : goal.mask_uses-loop-operand-preserved
mask_uses-loop-operand-preserved t c =
    one_more prim_uses c.reading_of-reading.result c.as_slice-operands.result.now c.loop-operand.operand-index c.operand-item.result c.args.out.now c.loop-operand.out
    c.prim_uses.new.out
    c.loop-operand-test.true c.operand-item.is c.in_ok-prim_uses.ensures c.loop-operand.invariant

pub mask_uses-returns : goal.mask_uses-returns
mask_uses-returns t c =
    all_operands (mask_uses c.args.e.now c.args.reading) prim_uses c.args.reading c.reading_of-reading.result c.as_slice-operands.result.now
    (out-RawMask c.args.e.now).operands c.loop-operand.operand-index c.args.out.now c.loop-operand.out
    (of_mask c.args.e.now c.args.reading) c.reading_of-reading.ensures c.loop-operand-test.false c.as_slice-operands.ensures c.loop-operand.invariant

pub comparison_uses-returns : goal.comparison_uses-returns
comparison_uses-returns t c =
    on_ok_weaker c.sum_uses-2.result
    (comparison_more c.args.c.now reading.Value c.get.result.now c.get-2.result.now c.args.out.now c.sum_uses.new.out c.sum_uses-2.new.out c.get.ensures c.get-2.ensures
    c.in_ok-sum_uses.ensures)
    c.sum_uses-2.ensures

pub prim_uses-returns : goal.prim_uses-returns
prim_uses-returns t c =
    on_ok_weaker c.primary_uses.result
    (prim_more c.args.e.now c.args.reading c.reading_of-reading.result (out-RawPrim c.args.e.now).primary c.args.out.now c.primary_uses.new.out refl
    (c.reading_of-reading.ensures ∙ ap (λ (l : List RawBits). reading_of c.args.reading (length l == 0)) c.as_slice.ensures))
    c.primary_uses.ensures

pub expression_uses-returns-in_ok-expression_uses-in-Choice : goal.expression_uses-returns-in_ok-expression_uses-in-Choice
expression_uses-returns-in_ok-expression_uses-in-Choice t c =
    on_ok_weaker c.expression_uses-in-Choice.result
    (choice_more c.args.e.now c.args.reading c.in-Choice.field-0 c.in-Choice.test c.get.result.now c.in-Choice.first c.get-in-Choice.result.now c.in-Choice.second
    c.get-in-Choice-2.result.now
    c.args.out.now c.condition_uses.new.out c.expression_uses.new.out c.expression_uses-in-Choice.new.out
    c.in-Choice.is c.get.ensures c.get-in-Choice.ensures c.get-in-Choice-2.ensures c.in_ok-condition_uses-in-Choice.ensures c.in_ok-expression_uses-in-Choice.ensures)
    c.expression_uses-in-Choice.ensures

pub expression_uses-returns-in-Sum : goal.expression_uses-returns-in-Sum
expression_uses-returns-in-Sum t c =
    on_ok_weaker c.sum_uses.result
    (sum_more c.args.e.now c.args.reading c.in-Sum.sum c.get-in-Sum.result.now c.args.out.now c.sum_uses.new.out c.in-Sum.is c.get-in-Sum.ensures)
    c.sum_uses.ensures

pub primary_uses-returns-in-Text : goal.primary_uses-returns-in-Text
primary_uses-returns-in-Text t c =
    on_ok_weaker c.push.result
    (text_more c.args.e.now c.args.reading c.in-Text.at c.in-Text.text c.as_slice.result.now c.args.out.now c.push.new.self c.in-Text.is c.as_slice.ensures)
    c.push.ensures.ok

pub primary_uses-returns-in-Location : goal.primary_uses-returns-in-Location
primary_uses-returns-in-Location t c =
    on_ok_weaker c.reference_uses.result
    (location_more c.args.e.now c.args.reading c.in-Location.field-0 c.in-Location.reference c.get.result.now c.args.out.now c.reference_uses.new.out c.in-Location.is
    c.get.ensures)
    c.reference_uses.ensures

pub primary_uses-returns-in-Forced : goal.primary_uses-returns-in-Forced
primary_uses-returns-in-Forced t c =
    on_ok_weaker c.expression_uses.result
    (forced_more c.args.e.now c.args.reading c.in-Forced.field-0 c.in-Forced.e c.get-in-Forced.result.now c.args.out.now c.expression_uses.new.out c.in-Forced.is
    c.get-in-Forced.ensures)
    c.expression_uses.ensures

pub primary_uses-returns-in-Bracket : goal.primary_uses-returns-in-Bracket
primary_uses-returns-in-Bracket t c =
    on_ok_weaker c.expression_uses-in-Bracket.result
    (bracket_more c.args.e.now c.args.reading c.in-Bracket.field-0 c.in-Bracket.e c.get-in-Bracket.result.now c.args.out.now c.expression_uses-in-Bracket.new.out
    c.in-Bracket.is c.get-in-Bracket.ensures)
    c.expression_uses-in-Bracket.ensures

pub primary_uses-returns-in-Ref : goal.primary_uses-returns-in-Ref
primary_uses-returns-in-Ref t c =
    on_ok_weaker c.reference_uses-in-Ref.result
    (reference_more c.args.e.now c.args.reading c.in-Ref.reference c.in-Ref.reference c.args.out.now c.reference_uses-in-Ref.new.out c.in-Ref.is refl)
    c.reference_uses-in-Ref.ensures

pub primary_uses-returns-in_ok-note-in-Call : goal.primary_uses-returns-in_ok-note-in-Call
primary_uses-returns-in_ok-note-in-Call t c =
    on_ok_weaker c.argument_uses.result
    (call_more c.args.e.now c.args.reading c.in-Call.name c.in-Call.arguments c.as_slice-in-Call.result.now c.args.out.now c.note.new.out c.argument_uses.new.out
    c.in-Call.is c.as_slice-in-Call.ensures (rw c.get-in-Call.ensures at c.in_ok-note-in-Call.ensures))
    c.argument_uses.ensures

pub reference_uses-returns-in-Name : goal.reference_uses-returns-in-Name
reference_uses-returns-in-Name t c =
    on_ok_weaker c.note.result
    (name_more c.args.r.now c.args.reading c.in-Name.name c.args.out.now c.note.new.out c.in-Name.is)
    c.note.ensures

pub reference_uses-returns-in_ok-note-in-One : goal.reference_uses-returns-in_ok-note-in-One
reference_uses-returns-in_ok-note-in-One t c =
    on_ok_weaker c.expression_uses.result
    (index_more c.args.r.now c.args.reading c.indexed.result c.in-One.name c.in-One.index c.get.result.now c.args.out.now c.note-in-One.new.out c.expression_uses.new.out
    c.in-One.is c.get.ensures c.indexed.ensures c.in_ok-note-in-One.ensures)
    c.expression_uses.ensures

pub reference_uses-returns-in_ok-expression_uses-in-Two : goal.reference_uses-returns-in_ok-expression_uses-in-Two
reference_uses-returns-in_ok-expression_uses-in-Two t c =
    on_ok_weaker c.expression_uses-in-Two-2.result
    (indexes_more c.args.r.now c.args.reading c.indexed-in-Two.result c.in-Two.name c.in-Two.first c.get-in-Two-2.result.now c.in-Two.second c.get-in-Two-3.result.now
    c.args.out.now c.note-in-Two.new.out c.expression_uses-in-Two.new.out c.expression_uses-in-Two-2.new.out
    c.in-Two.is c.get-in-Two-2.ensures c.get-in-Two-3.ensures c.indexed-in-Two.ensures
    (rw c.get-in-Two.ensures at c.in_ok-note-in-Two.ensures) c.in_ok-expression_uses-in-Two.ensures)
    c.expression_uses-in-Two-2.ensures

pub reference_uses-returns-in-Bare : goal.reference_uses-returns-in-Bare
reference_uses-returns-in-Bare t c =
    on_ok_weaker c.expression_uses-in-Bare.result
    (address_more c.args.r.now c.args.reading c.in-Bare.field-0 c.in-Bare.address c.get-in-Bare.result.now c.args.out.now c.expression_uses-in-Bare.new.out c.in-Bare.is
    c.get-in-Bare.ensures)
    c.expression_uses-in-Bare.ensures
