use Rattle.std.proofs.Common.{◌≡◌, ℕ, ◌<◌, true}
use Rattle.cw_graph.specs.Reaching.{flag_of, AreVisited}
use Rattle.cw_graph.proofs.reaching.visit_bodies.Given as goal

abbrev pub invariant-loop-body : goal.invariant-loop-body
invariant-loop-body l = record {
  visited : AreVisited l.graph l.flags.items l.order.items;
  bodies : (a : ℕ) → a < l.body → flag_of l.flags.items a ≡ true;
}
