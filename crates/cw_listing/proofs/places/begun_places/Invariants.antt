use Rattle.std.proofs.Common.{◌≡◌, take}
use Rattle.cw_listing.specs.Listing.{begun_places}
use Rattle.cw_listing.proofs.places.begun_places.Given as goal

abbrev pub invariant-loop-k : goal.invariant-loop-k
invariant-loop-k l = l.places ≡ begun_places (take l.k l.lines)
