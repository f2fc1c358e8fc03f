use Rattle.std.proofs.Common.{◌≡◌, ◌+◌, drop}
use Rattle.cw_listing.specs.Listing.{count_up_to}
use Rattle.cw_listing.proofs.listing.count_up_to.Given as goal

abbrev pub invariant-loop-k : goal.invariant-loop-k
invariant-loop-k l = count_up_to l.place l.remarks ≡ l.k + count_up_to l.place (drop l.k l.remarks)
