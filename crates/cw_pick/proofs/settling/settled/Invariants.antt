use Rattle.std.proofs.Common.{◌≡◌, take}
use Rattle.cw_comm.specs.Agreement.{Name}
use Rattle.cw_pick.specs.Picking.{is_among, settles}
use Rattle.cw_pick.proofs.settling.settled.Given as goal

abbrev pub invariant-loop-offer : goal.invariant-loop-offer
invariant-loop-offer l = (name : Name) → is_among l.set.keys name ≡ settles (take l.offer-index l.given) name
