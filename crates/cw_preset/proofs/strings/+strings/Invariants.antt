use Rattle.std.proofs.Common.{◌≡◌, ◌++◌, map, drop}
use Rattle.cw_preset.specs.Strings.{joined, expression_rows, conjunction_rows, comparison_rows, term_rows, differ_rows, union_rows, mask_rows, prim_rows}
use Rattle.cw_preset.proofs.strings.+strings.Given as goal

abbrev pub invariant-argument_rows-loop-argument : goal.invariant-argument_rows-loop-argument
invariant-argument_rows-loop-argument l = l.out ++ joined (map expression_rows (drop l.argument-index l.arguments)) ≡ l.initial.out ++ joined (map expression_rows l.arguments)

abbrev pub invariant-condition_rows-loop-operand : goal.invariant-condition_rows-loop-operand
invariant-condition_rows-loop-operand l = l.out ++ joined (map conjunction_rows (drop l.operand-index l.operand-items)) ≡ l.initial.out ++ joined (map conjunction_rows l.operand-items)

abbrev pub invariant-conjunction_rows-loop-operand : goal.invariant-conjunction_rows-loop-operand
invariant-conjunction_rows-loop-operand l = l.out ++ joined (map comparison_rows (drop l.operand-index l.operand-items)) ≡ l.initial.out ++ joined (map comparison_rows l.operand-items)

abbrev pub invariant-sum_rows-loop-operand : goal.invariant-sum_rows-loop-operand
invariant-sum_rows-loop-operand l = l.out ++ joined (map term_rows (drop l.operand-index l.operand-items)) ≡ l.initial.out ++ joined (map term_rows l.operand-items)

abbrev pub invariant-term_rows-loop-operand : goal.invariant-term_rows-loop-operand
invariant-term_rows-loop-operand l = l.out ++ joined (map differ_rows (drop l.operand-index l.operand-items)) ≡ l.initial.out ++ joined (map differ_rows l.operand-items)

abbrev pub invariant-differ_rows-loop-operand : goal.invariant-differ_rows-loop-operand
invariant-differ_rows-loop-operand l = l.out ++ joined (map union_rows (drop l.operand-index l.operand-items)) ≡ l.initial.out ++ joined (map union_rows l.operand-items)

abbrev pub invariant-union_rows-loop-operand : goal.invariant-union_rows-loop-operand
invariant-union_rows-loop-operand l = l.out ++ joined (map mask_rows (drop l.operand-index l.operand-items)) ≡ l.initial.out ++ joined (map mask_rows l.operand-items)

abbrev pub invariant-mask_rows-loop-operand : goal.invariant-mask_rows-loop-operand
invariant-mask_rows-loop-operand l = l.out ++ joined (map prim_rows (drop l.operand-index l.operand-items)) ≡ l.initial.out ++ joined (map prim_rows l.operand-items)
