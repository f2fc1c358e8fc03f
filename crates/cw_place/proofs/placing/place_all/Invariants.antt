use Rattle.std.proofs.Common.{◌≡◌, take}
use Rattle.cw_unit.specs.Allocation.{homes_from}
use Rattle.cw_place.specs.Segments.{segment_storage}
use Rattle.cw_place.specs.Placing.{HasPlaced, placed_before, told}
use Rattle.cw_place.proofs.placing.place_all.Given as goal

abbrev pub invariant-loop-segment : goal.invariant-loop-segment
invariant-loop-segment l = record {
  placed : HasPlaced l.agreed l.room.spans.now (placed_before l.agreed l.spaces l.segment 0) l.placing;
  homes : l.homes ≡ homes_from (told (placed_before l.agreed l.spaces l.segment 0)) 0 (take l.segment (segment_storage l.agreed l.spaces));
}
