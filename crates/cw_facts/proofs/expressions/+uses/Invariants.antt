use Rattle.std.proofs.Common.{◌≡◌, ◌++◌, map, drop}
use Rattle.cw_facts.specs.Uses.{each_for, expression_uses, conjunction_uses, comparison_uses, term_uses, differ_uses, union_uses, mask_uses, prim_uses}
use Rattle.cw_facts.specs.declared.fact.Reading.TheVariants as reading
use Rattle.cw_facts.proofs.expressions.+uses.Given as goal

abbrev pub invariant-argument_uses-loop-argument : goal.invariant-argument_uses-loop-argument
invariant-argument_uses-loop-argument l = l.out ++ each_for reading.Argument (map expression_uses (drop l.argument-index l.arguments)) ≡ l.initial.out ++ each_for reading.Argument (map expression_uses l.arguments)

abbrev pub invariant-condition_uses-loop-operand : goal.invariant-condition_uses-loop-operand
invariant-condition_uses-loop-operand l = l.out ++ each_for reading.Value (map conjunction_uses (drop l.operand-index l.operand-items)) ≡ l.initial.out ++ each_for reading.Value (map conjunction_uses l.operand-items)

abbrev pub invariant-conjunction_uses-loop-operand : goal.invariant-conjunction_uses-loop-operand
invariant-conjunction_uses-loop-operand l = l.out ++ each_for reading.Value (map comparison_uses (drop l.operand-index l.operand-items)) ≡ l.initial.out ++ each_for reading.Value (map comparison_uses l.operand-items)

abbrev pub invariant-sum_uses-loop-operand : goal.invariant-sum_uses-loop-operand
invariant-sum_uses-loop-operand l = l.out ++ each_for l.reading (map term_uses (drop l.operand-index l.operands)) ≡ l.initial.out ++ each_for l.reading (map term_uses l.operands)

abbrev pub invariant-term_uses-loop-operand : goal.invariant-term_uses-loop-operand
invariant-term_uses-loop-operand l = l.out ++ each_for l.reading (map differ_uses (drop l.operand-index l.operands)) ≡ l.initial.out ++ each_for l.reading (map differ_uses l.operands)

abbrev pub invariant-differ_uses-loop-operand : goal.invariant-differ_uses-loop-operand
invariant-differ_uses-loop-operand l = l.out ++ each_for l.reading (map union_uses (drop l.operand-index l.operands)) ≡ l.initial.out ++ each_for l.reading (map union_uses l.operands)

abbrev pub invariant-union_uses-loop-operand : goal.invariant-union_uses-loop-operand
invariant-union_uses-loop-operand l = l.out ++ each_for l.reading (map mask_uses (drop l.operand-index l.operands)) ≡ l.initial.out ++ each_for l.reading (map mask_uses l.operands)

abbrev pub invariant-mask_uses-loop-operand : goal.invariant-mask_uses-loop-operand
invariant-mask_uses-loop-operand l = l.out ++ each_for l.reading (map prim_uses (drop l.operand-index l.operands)) ≡ l.initial.out ++ each_for l.reading (map prim_uses l.operands)
