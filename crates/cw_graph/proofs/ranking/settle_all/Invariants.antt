use Rattle.std.proofs.Common.{ℕ, drop}
use Rattle.cw_graph.specs.Ranking.{AreRanked, ArePassed, AreWaiting, AllWait}
use Rattle.cw_graph.proofs.ranking.settle_all.Given as goal

abbrev pub invariant-loop-number : goal.invariant-loop-number
invariant-loop-number l = record {
  ranked : AreRanked l.graph l.levels.items l.order.items;
  passed : ArePassed l.graph l.levels.items l.from.items;
  waiting : AreWaiting l.graph l.waiting.items;
  settled : (told : ℕ) → AllWait l.graph l.initial.levels.items l.initial.order.items l.initial.waiting.items told l.late → AllWait l.graph l.levels.items l.order.items l.waiting.items told (drop l.number-index l.late);
}
