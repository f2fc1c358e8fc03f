use Rattle.std.proofs.Common.{◌≡◌, ℕ, ◌<◌, max, length, drop, get_or}
use Rattle.cw_unit.specs.Allocation.{name_at, common_extent}
use Rattle.cw_place.specs.Segments.{segment_storage}
use Rattle.cw_place.proofs.extents.name_extents.Given as goal

abbrev pub invariant-loop-segment : goal.invariant-loop-segment
invariant-loop-segment l = record {
  count : length l.extents.items ≡ length l.agreed.names;
  extent : (k : ℕ) → k < length l.agreed.names
      → max (get_or l.extents.items k 0) (common_extent (name_at l.agreed.names k) (drop l.segment (segment_storage l.agreed l.spaces)))
      ≡ common_extent (name_at l.agreed.names k) (segment_storage l.agreed l.spaces);
}
