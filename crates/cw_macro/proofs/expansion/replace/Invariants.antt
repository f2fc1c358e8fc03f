use Rattle.std.proofs.Common.{◌≡◌, ◌≤◌, ◌++◌, length, drop}
use Rattle.std.specs.List.{flat_map}
use Rattle.cw_macro.specs.Expansion.{replacement}
use Rattle.cw_macro.specs.Views.{left_of, leveled, lists_of, parts_of}
use Rattle.cw_macro.proofs.expansion.replace.Given as goal

abbrev pub invariant-loop-at : goal.invariant-loop-at
invariant-loop-at l = record {
  within : l.at ≤ length l.body;
  same : left_of l.left ≡ replacement (leveled l.call) (flat_map parts_of (drop l.at l.body)) (lists_of l.arguments) ++ left_of l.initial.left;
}

abbrev pub decreases-loop-at : goal.decreases-loop-at
decreases-loop-at l = l.at
