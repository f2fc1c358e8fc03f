use Rattle.std.proofs.Common.{take}
use Rattle.cw_watch.specs.Watching.{MeanWords}
use Rattle.cw_watch.proofs.finding.watched_words.Given as goal

abbrev pub invariant-loop-k : goal.invariant-loop-k
invariant-loop-k l = MeanWords l.lines l.area (take l.k l.watched) l.words
