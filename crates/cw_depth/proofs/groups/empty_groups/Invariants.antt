use Rattle.std.proofs.Common.{◌≡◌, ℕ, [], length}
use Rattle.cw_graph.specs.Rows.{row_of}
use Rattle.cw_depth.proofs.groups.empty_groups.Given as goal

abbrev pub invariant-loop : goal.invariant-loop
invariant-loop l = record {
  size : length l.groups ≡ l.counter;
  empty : (j : ℕ) → row_of l.groups j ≡ [];
}
