use Rattle.cw_scope.specs.Gathered.{Gathers}
use Rattle.cw_scope.proofs.resolving.resolve.Goals as goal

pub named_by-requires-clause-gathered : goal.named_by-requires-clause-gathered
unfolding Gathers
named_by-requires-clause-gathered c = c.in-Ok.ensures
