use Rattle.std.proofs.Common.{◌≡◌, ◌+◌, ◌%◌, ◌<◌, drop}
use Rattle.std.specs.List.{sum}
use Rattle.cw_hex.proofs.writing.sum.Given as goal

abbrev pub invariant-loop-b : goal.invariant-loop-b
invariant-loop-b l = record { so_far : (l.total + sum (drop l.b-index l.bytes)) % 256 ≡ sum l.bytes % 256; small : l.total < 256 }
