use Rattle.std.proofs.Common.{◌≡◌, length}
use Rattle.cw_graph.specs.Choosing.{StandFor}
use Rattle.cw_graph.proofs.choosing.firsts_in.Given as goal

abbrev pub invariant-loop-number : goal.invariant-loop-number
invariant-loop-number l = record {
  size : length l.firsts.items ≡ l.number;
  firsts : StandFor l.graph l.levels l.firsts.items;
}
