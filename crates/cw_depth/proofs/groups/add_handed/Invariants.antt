use Rattle.std.proofs.Common.{◌≡◌, ◌++◌, map, drop}
use Rattle.cw_depth.specs.CallGraph.{handed_by, segment_of}
use Rattle.cw_depth.specs.Building.{joined_places, placed}
use Rattle.cw_depth.proofs.groups.add_handed.Given as goal

abbrev pub invariant-loop-mention : goal.invariant-loop-mention
invariant-loop-mention l = l.handed ++ joined_places (map (λ m. placed l.units (handed_by l.units (segment_of l.node) m)) (drop l.mention-index l.mention-items)) ≡ l.initial.handed ++ joined_places (map (λ m. placed l.units (handed_by l.units (segment_of l.node) m)) l.mention-items)
