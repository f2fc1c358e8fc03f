use Rattle.std.proofs.Common.{◌≡◌, ◌+◌, ◌<◌, ℕ, List, ◌++◌, length, Some}
use Rattle.cw_graph.specs.Reports.{IsFirstChain}
use Rattle.cw_graph.specs.Rows.{LeadsTo, Below}
use Rattle.cw_graph.specs.Levels.{level_of}
use Rattle.cw_graph.proofs.report.follow.Given as goal

abbrev pub invariant-loop-left : goal.invariant-loop-left
invariant-loop-left l = record {
  node : l.node < l.graph.nodes;
  level : level_of l.levels l.node ≡ Some (l.left + 1);
  size : length l.chain + l.left ≡ l.height;
  before : (rest : List ℕ) → length rest ≡ l.left → IsFirstChain (LeadsTo l.graph) Below l.node rest → IsFirstChain (LeadsTo l.graph) Below l.start (l.chain ++ rest);
}

abbrev pub decreases-loop-left : goal.decreases-loop-left
decreases-loop-left l = l.left
