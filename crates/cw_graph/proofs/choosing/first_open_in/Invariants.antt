use Rattle.cw_graph.specs.Choosing.{NoneOpen}
use Rattle.cw_graph.proofs.choosing.first_open_in.Given as goal

abbrev pub invariant-loop-number : goal.invariant-loop-number
invariant-loop-number l = NoneOpen l.levels l.flags l.from l.number
