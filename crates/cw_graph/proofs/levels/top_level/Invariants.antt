use Rattle.cw_graph.specs.Levels.{IsTopOfFirst}
use Rattle.cw_graph.proofs.levels.top_level.Given as goal

abbrev pub invariant-loop-number : goal.invariant-loop-number
invariant-loop-number l = IsTopOfFirst l.levels l.row l.number-index l.top
