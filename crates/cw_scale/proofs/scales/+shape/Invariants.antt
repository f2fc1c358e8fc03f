use Rattle.std.proofs.Common.{◌≡◌, map, drop}
use Rattle.cw_scale.specs.TypeRules.{plain, shape_from, term, differ}
use Rattle.cw_scale.proofs.scales.+shape.Given as goal

abbrev pub invariant-sum_shape-loop-operand : goal.invariant-sum_shape-loop-operand
invariant-sum_shape-loop-operand l = shape_from l.alone l.shape (map (term l.named) (drop l.operand-index l.operands)) ≡ shape_from l.alone (plain 0) (map (term l.named) l.operands)

abbrev pub invariant-term_shape-loop-operand : goal.invariant-term_shape-loop-operand
invariant-term_shape-loop-operand l = shape_from l.alone l.shape (map (differ l.named) (drop l.operand-index l.operands)) ≡ shape_from l.alone (plain 0) (map (differ l.named) l.operands)
