use Rattle.std.proofs.Common.{◌≡◌, take}
use Rattle.cw_stop.specs.Stopping.{capitals}
use Rattle.cw_stop.proofs.reading.capitals.Given as goal

abbrev pub invariant-loop-byte : goal.invariant-loop-byte
invariant-loop-byte l = l.capitals ≡ capitals (take l.byte-index l.text)
