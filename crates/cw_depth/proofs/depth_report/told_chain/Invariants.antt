use Rattle.std.proofs.Common.{◌≡◌, ◌++◌, map, drop}
use Rattle.cw_depth.specs.Numbering.{node_at}
use Rattle.cw_depth.specs.Told.{told}
use Rattle.cw_depth.proofs.depth_report.told_chain.Given as goal

abbrev pub invariant-loop-number : goal.invariant-loop-number
invariant-loop-number l = l.list ++ map told (map (node_at l.units) (drop l.number-index l.chain)) ≡ map told (map (node_at l.units) l.chain)
