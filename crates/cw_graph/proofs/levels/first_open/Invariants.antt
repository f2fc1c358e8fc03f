use Rattle.std.proofs.Common.{◌≡◌, ℕ, ◌<◌, ◌≤◌, slice_index, None}
use Rattle.cw_graph.specs.Levels.{level_of}
use Rattle.cw_graph.proofs.levels.first_open.Given as goal

abbrev pub invariant-loop-k : goal.invariant-loop-k
invariant-loop-k l = (k : ℕ) → l.from ≤ k → k < l.k → level_of l.levels (slice_index l.row k) ≡ None → ⊥
