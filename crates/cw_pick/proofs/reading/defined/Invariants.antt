use Rattle.std.proofs.Common.{◌≡◌, ◌++◌, drop}
use Rattle.cw_pick.specs.Offers.{defined}
use Rattle.cw_pick.proofs.reading.defined.Given as goal

abbrev pub invariant-loop-number : goal.invariant-loop-number
invariant-loop-number l = l.names ++ defined l.descriptors (drop l.number-index l.numbers) ≡ defined l.descriptors l.numbers
