use Rattle.std.proofs.Common.{◌≡◌, ◌≤◌, ◌++◌, length, map, drop}
use Rattle.cw_macro.specs.Expansion.{brought}
use Rattle.cw_macro.specs.Views.{left_of, leveled}
use Rattle.cw_macro.proofs.expansion.put_argument.Given as goal

abbrev pub invariant-loop-at : goal.invariant-loop-at
invariant-loop-at l = record {
  within : l.at ≤ length l.argument;
  same : left_of l.left ≡ map (brought (leveled l.call)) (map leveled (drop l.at l.argument)) ++ left_of l.initial.left;
}

abbrev pub decreases-loop-at : goal.decreases-loop-at
decreases-loop-at l = l.at
