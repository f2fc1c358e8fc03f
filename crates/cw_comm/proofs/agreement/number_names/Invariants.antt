use Rattle.std.proofs.Common.{◌≡◌, [], drop}
use Rattle.cw_comm.specs.Agreement.{names_from}
use Rattle.cw_comm.proofs.agreement.number_names.Given as goal

abbrev pub invariant-loop-segment : goal.invariant-loop-segment
invariant-loop-segment l = names_from l.names.keys (drop l.segment-index l.segments) ≡ names_from [] l.segments
