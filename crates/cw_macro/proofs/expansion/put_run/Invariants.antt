use Rattle.std.proofs.Common.{◌≡◌, ◌≤◌, ◌++◌, length, drop}
use Rattle.cw_macro.specs.Expansion.{replacement}
use Rattle.cw_macro.specs.Views.{left_of, leveled, lists_of, parts_at}
use Rattle.cw_macro.proofs.expansion.put_run.Given as goal

abbrev pub invariant-loop-at : goal.invariant-loop-at
invariant-loop-at l = record {
  within : l.at ≤ length l.picks;
  same : left_of l.left ≡ replacement (leveled l.call) (parts_at l.numbers (drop l.at l.picks)) (lists_of l.arguments) ++ left_of l.initial.left;
}

abbrev pub decreases-loop-at : goal.decreases-loop-at
decreases-loop-at l = l.at
