-- Up to the rest the bytes are the first members.
use Rattle.cw_lib.specs.Reading.{Reaches}
use Rattle.cw_lib.proofs.library.open_lib.Given as goal

abbrev pub invariant-loop-k : goal.invariant-loop-k
invariant-loop-k l = Reaches l.bytes l.count l.k l.rest
