use Rattle.cw_graph.specs.Chains.{body}
use Rattle.cw_graph.proofs.reaching.visit_bodies.Goals as goal

pub visit-requires-clause-listed : goal.visit-requires-clause-listed
visit-requires-clause-listed c = body c.loop-body.body c.loop-body-test.true
