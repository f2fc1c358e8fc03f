use Rattle.std.proofs.Common.{◌≡◌, take}
use Rattle.cw_listing.specs.Listing.{referred_places}
use Rattle.cw_listing.proofs.places.referred_places.Given as goal

abbrev pub invariant-loop-k : goal.invariant-loop-k
invariant-loop-k l = l.places ≡ referred_places (take l.k l.lines)
