use Rattle.std.proofs.Common.{◌≡◌, ◌++◌, drop}
use Rattle.cw_depth.specs.Numbering.{procedures_from}
use Rattle.cw_depth.proofs.numbering.add_procedures.Given as goal

abbrev pub invariant-loop-segment : goal.invariant-loop-segment
invariant-loop-segment l = l.nodes ++ procedures_from l.segment (drop l.segment l.units) ≡ l.initial.nodes ++ procedures_from 0 l.units
