use Rattle.std.proofs.Common.{◌≡◌, ◌++◌, drop}
use Rattle.cw_comm.specs.Agreement.{places_in}
use Rattle.cw_comm.proofs.agreement.numbers_in.Given as goal

abbrev pub invariant-loop-descriptor : goal.invariant-loop-descriptor
invariant-loop-descriptor l = l.numbers ++ places_in l.names.keys (drop l.descriptor-index l.descriptors) ≡ places_in l.names.keys l.descriptors
