use Rattle.std.proofs.Common.{◌≡◌, ◌-◌, map, drop, length}
use Rattle.cw_scale.specs.TypeRules.{each_at, arguments_faults, logic_faults, chain_faults, expression, conjunction, comparison, term, differ, union, mask, prim}
use Rattle.cw_scale.proofs.judge.+judged.Given as goal

abbrev pub invariant-judge_condition-loop-operand : goal.invariant-judge_condition-loop-operand
invariant-judge_condition-loop-operand l = each_at 0 (map (conjunction l.named) (drop l.operand-index l.operand-items)) l.first ≡ each_at 0 (map (conjunction l.named) l.operand-items) l.initial.first

abbrev pub invariant-judge_conjunction-loop-operand : goal.invariant-judge_conjunction-loop-operand
invariant-judge_conjunction-loop-operand l = each_at 0 (map (comparison l.named) (drop l.operand-index l.operand-items)) l.first ≡ each_at 0 (map (comparison l.named) l.operand-items) l.initial.first

abbrev pub invariant-judge_sum-loop-operand : goal.invariant-judge_sum-loop-operand
invariant-judge_sum-loop-operand l = each_at l.scale (map (term l.named) (drop l.operand-index l.operand-items)) l.first ≡ each_at l.scale (map (term l.named) l.operand-items) l.initial.first

abbrev pub invariant-judge_differ-loop-operand : goal.invariant-judge_differ-loop-operand
invariant-judge_differ-loop-operand l = logic_faults l.alone l.scale (map (union l.named) (drop l.operand-index l.operands)) l.first ≡ logic_faults l.alone l.scale (map (union l.named) l.operands) l.initial.first

abbrev pub invariant-judge_union-loop-operand : goal.invariant-judge_union-loop-operand
invariant-judge_union-loop-operand l = logic_faults l.alone l.scale (map (mask l.named) (drop l.operand-index l.operands)) l.first ≡ logic_faults l.alone l.scale (map (mask l.named) l.operands) l.initial.first

abbrev pub invariant-judge_mask-loop-operand : goal.invariant-judge_mask-loop-operand
invariant-judge_mask-loop-operand l = logic_faults l.alone l.scale (map (prim l.named) (drop l.operand-index l.operands)) l.first ≡ logic_faults l.alone l.scale (map (prim l.named) l.operands) l.initial.first

abbrev pub invariant-judge_arguments-loop-argument : goal.invariant-judge_arguments-loop-argument
invariant-judge_arguments-loop-argument l = arguments_faults l.named l.rest (map (expression l.named) (drop l.argument-index l.arguments)) l.first ≡ arguments_faults l.named l.params (map (expression l.named) l.arguments) l.initial.first

abbrev pub invariant-judge_factors-loop-i : goal.invariant-judge_factors-loop-i
invariant-judge_factors-loop-i l = chain_faults l.scale l.before l.natural (map (differ l.named) (drop l.i l.operands)) (drop l.i l.signs) l.first ≡ chain_faults l.scale l.initial.before l.initial.natural (map (differ l.named) l.operands) l.signs l.initial.first

abbrev pub decreases-judge_factors-loop-i : goal.decreases-judge_factors-loop-i
decreases-judge_factors-loop-i l = length l.operands - l.i
