use Rattle.std.proofs.Common.{◌≡◌, ◌++◌, map, drop}
use Rattle.cw_facts.specs.declared.fact.Reading.{Reading}
use Rattle.cw_facts.specs.declared.fact.Reading.TheVariants as reading
use Rattle.cw_facts.specs.Uses.{each_for, expression_uses, conjunction_uses, comparison_uses, term_uses, differ_uses, union_uses, mask_uses, prim_uses}
use Rattle.cw_items.specs.Things.{texts}
use Rattle.cw_items.proofs.strings.+strings.Given as goal

abbrev pub invariant-argument_strings-loop-argument : goal.invariant-argument_strings-loop-argument
invariant-argument_strings-loop-argument l = l.out ++ texts l.owner (each_for reading.Argument (map expression_uses (drop l.argument-index l.arguments))) ≡ l.initial.out ++ texts l.owner (each_for reading.Argument (map expression_uses l.arguments))

abbrev pub invariant-condition_strings-loop-operand : goal.invariant-condition_strings-loop-operand
invariant-condition_strings-loop-operand l = (r : Reading) → l.out ++ texts l.owner (each_for r (map conjunction_uses (drop l.operand-index l.operand-items))) ≡ l.initial.out ++ texts l.owner (each_for r (map conjunction_uses l.operand-items))

abbrev pub invariant-conjunction_strings-loop-operand : goal.invariant-conjunction_strings-loop-operand
invariant-conjunction_strings-loop-operand l = (r : Reading) → l.out ++ texts l.owner (each_for r (map comparison_uses (drop l.operand-index l.operand-items))) ≡ l.initial.out ++ texts l.owner (each_for r (map comparison_uses l.operand-items))

abbrev pub invariant-sum_strings-loop-operand : goal.invariant-sum_strings-loop-operand
invariant-sum_strings-loop-operand l = (r : Reading) → l.out ++ texts l.owner (each_for r (map term_uses (drop l.operand-index l.operand-items))) ≡ l.initial.out ++ texts l.owner (each_for r (map term_uses l.operand-items))

abbrev pub invariant-term_strings-loop-operand : goal.invariant-term_strings-loop-operand
invariant-term_strings-loop-operand l = (r : Reading) → l.out ++ texts l.owner (each_for r (map differ_uses (drop l.operand-index l.operand-items))) ≡ l.initial.out ++ texts l.owner (each_for r (map differ_uses l.operand-items))

abbrev pub invariant-differ_strings-loop-operand : goal.invariant-differ_strings-loop-operand
invariant-differ_strings-loop-operand l = (r : Reading) → l.out ++ texts l.owner (each_for r (map union_uses (drop l.operand-index l.operand-items))) ≡ l.initial.out ++ texts l.owner (each_for r (map union_uses l.operand-items))

abbrev pub invariant-union_strings-loop-operand : goal.invariant-union_strings-loop-operand
invariant-union_strings-loop-operand l = (r : Reading) → l.out ++ texts l.owner (each_for r (map mask_uses (drop l.operand-index l.operand-items))) ≡ l.initial.out ++ texts l.owner (each_for r (map mask_uses l.operand-items))

abbrev pub invariant-mask_strings-loop-operand : goal.invariant-mask_strings-loop-operand
invariant-mask_strings-loop-operand l = (r : Reading) → l.out ++ texts l.owner (each_for r (map prim_uses (drop l.operand-index l.operand-items))) ≡ l.initial.out ++ texts l.owner (each_for r (map prim_uses l.operand-items))
