use Rattle.std.proofs.Common.{◌≡◌, ◌+◌, drop}
use Rattle.cw_listing.specs.Listing.{count_before}
use Rattle.cw_listing.proofs.listing.count_before.Given as goal

abbrev pub invariant-loop-k : goal.invariant-loop-k
invariant-loop-k l = count_before l.place l.remarks ≡ l.k + count_before l.place (drop l.k l.remarks)
