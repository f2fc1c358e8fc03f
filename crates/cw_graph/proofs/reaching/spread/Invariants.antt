use Rattle.std.proofs.Common.{◌≡◌, ℕ, ◌<◌, ◌-◌, length, true}
use Rattle.cw_graph.specs.Reaching.{flag_of, AreVisited, AreSpread}
use Rattle.cw_graph.proofs.reaching.spread.Given as goal

abbrev pub invariant-loop-told : goal.invariant-loop-told
invariant-loop-told l = record {
  visited : AreVisited l.graph l.flags.items l.order.items;
  bodies : (a : ℕ) → a < l.graph.bodies → flag_of l.flags.items a ≡ true;
  spread : AreSpread l.graph l.flags.items l.order.items l.told;
}

abbrev pub decreases-loop-told : goal.decreases-loop-told
decreases-loop-told l = length l.graph.rows - l.told
