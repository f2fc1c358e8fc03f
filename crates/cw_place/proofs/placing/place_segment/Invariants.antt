use Rattle.std.proofs.Common.{◌≡◌, Some, slice_get, take}
use Rattle.cw_unit.specs.Allocation.{addresses_from}
use Rattle.cw_place.specs.declared.space.Space.{Space}
use Rattle.cw_place.specs.Segments.{names_of}
use Rattle.cw_place.specs.Placing.{HasPlaced, placed_before, told}
use Rattle.cw_place.proofs.placing.place_segment.Given as goal

abbrev pub invariant-loop-number : goal.invariant-loop-number
invariant-loop-number l = record {
  placed : HasPlaced l.agreed l.room.spans.now (placed_before l.agreed l.spaces l.segment l.number) l.placing;
  homes : (s : Space) → slice_get l.spaces l.segment ≡ Some s → l.homes ≡ addresses_from (told (placed_before l.agreed l.spaces l.segment l.number)) l.segment (names_of l.agreed l.segment) 0 (take l.number s.families);
}
