use Rattle.std.proofs.Common.{◌≤◌, length, arith}
use Rattle.cw_graph.proofs.Visiting.{all_spread}
use Rattle.cw_graph.proofs.reaching.spread.Goals as goal

pub loop-told-preserved : goal.loop-told-preserved
loop-told-preserved c = record {
  visited = c.in_ok-spread_from.ensures.visited;
  bodies = λ a h. c.in_ok-spread_from.ensures.grows.kept a (c.loop-told.invariant.bodies a h);
  spread = c.in_ok-spread_from.ensures.spread c.loop-told.invariant.spread;
}

pub returns : goal.returns
returns c =
    let end : length c.loop-told.order.items ≤ c.loop-told.told = omega arith in
    all_spread c.args.graph.now c.loop-told.flags.items c.loop-told.order.items c.loop-told.told end c.loop-told.invariant.visited c.loop-told.invariant.bodies c.loop-told.invariant.spread
