use Rattle.cw_graph.specs.Choosing.{TellsLeast}
use Rattle.cw_graph.proofs.choosing.least_by.Given as goal

abbrev pub invariant-loop-number : goal.invariant-loop-number
invariant-loop-number l = TellsLeast l.levels l.firsts l.row l.number-index l.level l.least
