use Rattle.cw_graph.specs.Choosing.{IsHighest}
use Rattle.cw_graph.proofs.choosing.first_highest.Given as goal

abbrev pub invariant-loop-body : goal.invariant-loop-body
invariant-loop-body l = IsHighest l.levels l.body l.best
