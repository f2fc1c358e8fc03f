use Rattle.std.proofs.Common.{◌≡◌, ◌++◌, drop}
use Rattle.cw_depth.specs.Numbering.{procedures_in}
use Rattle.cw_depth.proofs.numbering.add_segment.Given as goal

abbrev pub invariant-loop-number : goal.invariant-loop-number
invariant-loop-number l = l.nodes ++ procedures_in l.segment l.number (drop l.number l.procedures) ≡ l.initial.nodes ++ procedures_in l.segment 0 l.procedures
