use Rattle.cw_graph.proofs.Visiting.{visited_begun}
use Rattle.cw_graph.proofs.reaching.reach.Goals as goal

pub visit_bodies-requires-clause-visited : goal.visit_bodies-requires-clause-visited
visit_bodies-requires-clause-visited c = rw c.new-order.ensures.items (visited_begun c.args.graph.now c.args.flags.now.items c.requires.size c.requires.none)
