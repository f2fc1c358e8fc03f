use Rattle.std.proofs.Common.{◌≡◌, ◌+◌, ◌≤◌, length, take}
use Rattle.std.specs.List.{flat_map}
use Rattle.cw_macro.specs.declared.fault.TheConstants.{MOST_REPLACED}
use Rattle.cw_macro.specs.Expansion.{tokens_of}
use Rattle.cw_macro.specs.Views.{lists_of, parts_of}
use Rattle.cw_macro.proofs.expansion.count_behind.Given as goal

abbrev pub invariant-loop-piece : goal.invariant-loop-piece
invariant-loop-piece l = record {
  within : l.count ≤ MOST_REPLACED;
  same : l.count ≡ l.fn.count + 1 + length (flat_map (tokens_of (lists_of l.arguments)) (flat_map parts_of (take l.piece-index l.body)));
}
