use Rattle.std.proofs.Common.{◌≡◌, map, take}
use Rattle.cw_listing.proofs.places.remark_places.Given as goal

abbrev pub invariant-loop-k : goal.invariant-loop-k
invariant-loop-k l = l.places ≡ map (λ r. r.place) (take l.k l.remarks)
