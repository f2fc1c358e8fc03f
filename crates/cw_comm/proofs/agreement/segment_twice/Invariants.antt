use Rattle.std.proofs.Common.{◌≡◌, [], drop}
use Rattle.cw_comm.specs.Agreement.{first_twice}
use Rattle.cw_comm.proofs.agreement.segment_twice.Given as goal

abbrev pub invariant-loop-segment : goal.invariant-loop-segment
invariant-loop-segment l = first_twice l.seen.keys (drop l.segment-index l.segments) ≡ first_twice [] l.segments
