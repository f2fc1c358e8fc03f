use Rattle.std.proofs.Common.{◌≡◌, ◌+◌, ◌≤◌, length, take}
use Rattle.std.specs.List.{flat_map}
use Rattle.cw_macro.specs.declared.fault.TheConstants.{MOST_REPLACED}
use Rattle.cw_macro.specs.Expansion.{tokens_of}
use Rattle.cw_macro.specs.Views.{lists_of, parts_at}
use Rattle.cw_macro.proofs.expansion.count_run.Given as goal

abbrev pub invariant-loop-pick : goal.invariant-loop-pick
invariant-loop-pick l = record {
  within : l.count ≤ MOST_REPLACED;
  same : l.count ≡ l.fn.count + length (flat_map (tokens_of (lists_of l.arguments)) (parts_at l.numbers (take l.pick-index l.picks)));
}
