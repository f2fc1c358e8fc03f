use Rattle.cw_stop.proofs.Lists.{ReadSoFar}
use Rattle.cw_stop.proofs.reading.read_list.Given as goal

abbrev pub invariant-names : goal.invariant-names
invariant-names l = ReadSoFar l.text l.rest l.counter l.watched
