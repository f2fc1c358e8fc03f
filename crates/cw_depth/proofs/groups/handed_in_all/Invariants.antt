use Rattle.std.proofs.Common.{◌≡◌, ◌++◌, map, drop}
use Rattle.cw_depth.specs.Building.{joined_places, handed_in}
use Rattle.cw_depth.proofs.groups.handed_in_all.Given as goal

abbrev pub invariant-loop-node : goal.invariant-loop-node
invariant-loop-node l = l.handed ++ joined_places (map (handed_in l.units) (drop l.node-index l.nodes)) ≡ joined_places (map (handed_in l.units) l.nodes)
