use Rattle.std.proofs.Common.{◌≡◌, ℕ, ◌<◌, length, slice_index}
use Rattle.cw_graph.proofs.ranking.numbers_below.Given as goal

abbrev pub invariant-loop-number : goal.invariant-loop-number
invariant-loop-number l = (length l.all ≡ l.number) × ((k : ℕ) → k < length l.all → slice_index l.all k ≡ k)
