use Rattle.std.proofs.Common.{◌≡◌, ◌+◌, drop}
use Rattle.cw_listing.specs.Remarks.{line_length}
use Rattle.cw_listing.proofs.source.line_length.Given as goal

abbrev pub invariant-loop-k : goal.invariant-loop-k
invariant-loop-k l = line_length l.text ≡ l.k + line_length (drop l.k l.text)
