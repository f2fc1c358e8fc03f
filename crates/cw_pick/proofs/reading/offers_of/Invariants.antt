use Rattle.std.proofs.Common.{◌≡◌, ◌++◌, map, drop}
use Rattle.cw_pick.specs.Offers.{offer_of}
use Rattle.cw_pick.proofs.reading.offers_of.Given as goal

abbrev pub invariant-loop-object : goal.invariant-loop-object
invariant-loop-object l = l.offers ++ map offer_of (drop l.object-index l.objects) ≡ map offer_of l.objects
