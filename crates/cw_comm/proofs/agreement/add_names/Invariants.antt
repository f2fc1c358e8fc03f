use Rattle.std.proofs.Common.{◌≡◌, drop}
use Rattle.cw_comm.specs.Agreement.{names_with}
use Rattle.cw_comm.proofs.agreement.add_names.Given as goal

abbrev pub invariant-loop-descriptor : goal.invariant-loop-descriptor
invariant-loop-descriptor l = names_with l.names.keys (drop l.descriptor-index l.descriptors) ≡ names_with l.fn.names.keys l.descriptors
