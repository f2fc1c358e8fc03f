use Rattle.std.proofs.Common.{◌≡◌, map, drop, pos}
use Rattle.cw_checks_front.specs.Trees.{value_of, sum_onto}
use Rattle.cw_checks_front.proofs.tree.+value.Given as goal

abbrev pub decreases-value : goal.decreases-value
decreases-value l = goal.size-value l

abbrev pub invariant-loop-term : goal.invariant-loop-term
invariant-loop-term l = sum_onto l.total (map value_of (drop l.term-index l.term-items)) ≡ sum_onto (pos 0) (map value_of l.term-items)
