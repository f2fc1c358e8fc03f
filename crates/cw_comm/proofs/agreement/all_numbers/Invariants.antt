use Rattle.std.proofs.Common.{◌≡◌, ◌++◌, drop}
use Rattle.cw_comm.specs.Agreement.{all_places}
use Rattle.cw_comm.proofs.agreement.all_numbers.Given as goal

abbrev pub invariant-loop-segment : goal.invariant-loop-segment
invariant-loop-segment l = l.numbers ++ all_places l.names.keys (drop l.segment-index l.segments) ≡ all_places l.names.keys l.segments
