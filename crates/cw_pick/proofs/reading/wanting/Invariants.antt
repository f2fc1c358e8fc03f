use Rattle.std.proofs.Common.{◌≡◌, ◌++◌, drop}
use Rattle.cw_pick.specs.Offers.{wanting}
use Rattle.cw_pick.proofs.reading.wanting.Given as goal

abbrev pub invariant-loop-descriptor : goal.invariant-loop-descriptor
invariant-loop-descriptor l = l.names ++ wanting (drop l.descriptor-index l.descriptors) ≡ wanting l.descriptors
