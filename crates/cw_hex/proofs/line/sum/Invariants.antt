use Rattle.std.proofs.Common.{◌≡◌, ◌+◌, ◌%◌, ◌<◌, drop}
use Rattle.std.specs.List.{sum}
use Rattle.cw_hex.specs.HexFormat.{bytes_of}
use Rattle.cw_hex.proofs.line.sum.Given as goal

abbrev pub invariant-loop-k : goal.invariant-loop-k
invariant-loop-k l = record { so_far : (l.total + sum (drop l.k (bytes_of l.digits))) % 256 ≡ sum (bytes_of l.digits) % 256; small : l.total < 256 }
