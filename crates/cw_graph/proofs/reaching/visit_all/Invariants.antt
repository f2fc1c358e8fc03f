use Rattle.std.proofs.Common.{◌≡◌, ℕ, ◌<◌, slice_index, true}
use Rattle.cw_graph.specs.Reaching.{flag_of, AreVisited, Grows}
use Rattle.cw_graph.proofs.reaching.visit_all.Given as goal

abbrev pub invariant-loop-number : goal.invariant-loop-number
invariant-loop-number l = record {
  visited : AreVisited l.graph l.flags.items l.order.items;
  grows : Grows l.initial.flags.items l.initial.order.items l.flags.items l.order.items;
  row : (k : ℕ) → k < l.number-index → flag_of l.flags.items (slice_index l.row k) ≡ true;
}
