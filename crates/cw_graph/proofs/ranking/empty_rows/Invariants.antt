use Rattle.std.proofs.Common.{◌≡◌, ℕ, [], length}
use Rattle.cw_graph.specs.Rows.{row_of}
use Rattle.cw_graph.proofs.ranking.empty_rows.Given as goal

abbrev pub invariant-loop : goal.invariant-loop
invariant-loop l = (length l.rows.items ≡ l.counter) × ((a : ℕ) → row_of l.rows.items a ≡ [])
