use Rattle.std.proofs.Common.{◌-◌, [], length}
use Rattle.cw_graph.specs.Ranking.{AreRanked, ArePassed, AreWaiting, AllWait}
use Rattle.cw_graph.proofs.ranking.tell_all.Given as goal

abbrev pub invariant-loop-told : goal.invariant-loop-told
invariant-loop-told l = record {
  ranked : AreRanked l.graph l.levels.items l.order.items;
  passed : ArePassed l.graph l.levels.items l.from.items;
  waiting : AreWaiting l.graph l.waiting.items;
  all : AllWait l.graph l.levels.items l.order.items l.waiting.items l.told [];
}

abbrev pub decreases-loop-told : goal.decreases-loop-told
decreases-loop-told l = length l.graph.rows - l.told
