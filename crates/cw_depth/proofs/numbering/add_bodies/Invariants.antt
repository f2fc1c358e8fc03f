use Rattle.std.proofs.Common.{◌≡◌, ◌++◌, drop}
use Rattle.cw_depth.specs.Numbering.{bodies_from}
use Rattle.cw_depth.proofs.numbering.add_bodies.Given as goal

abbrev pub invariant-loop-segment : goal.invariant-loop-segment
invariant-loop-segment l = l.nodes ++ bodies_from l.segment (drop l.segment l.units) ≡ l.initial.nodes ++ bodies_from 0 l.units
