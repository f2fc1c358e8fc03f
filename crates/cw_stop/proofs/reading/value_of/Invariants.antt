use Rattle.std.proofs.Common.{◌≡◌, take, min}
use Rattle.cw_stop.specs.Stopping.{value_of}
use Rattle.cw_stop.proofs.reading.value_of.Given as goal

abbrev pub invariant-loop-digit : goal.invariant-loop-digit
invariant-loop-digit l = l.value ≡ min (value_of (take l.digit-index l.digits)) 4294967296
