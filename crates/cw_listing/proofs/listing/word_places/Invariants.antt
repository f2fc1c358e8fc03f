use Rattle.std.proofs.Common.{◌≡◌, ◌++◌, map, take}
use Rattle.cw_listing.proofs.listing.word_places.Given as goal

abbrev pub invariant-loop-k : goal.invariant-loop-k
invariant-loop-k l = l.places ≡ map (λ w. w.place) l.words ++ take l.k l.others
