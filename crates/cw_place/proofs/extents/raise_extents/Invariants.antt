use Rattle.std.proofs.Common.{◌≡◌, ℕ, ◌<◌, max, length, map, drop, get_or}
use Rattle.cw_unit.specs.Allocation.{name_at, extent_in_segment}
use Rattle.cw_place.proofs.extents.raise_extents.Given as goal

abbrev pub invariant-loop-n : goal.invariant-loop-n
invariant-loop-n l = record {
  count : length l.extents.items ≡ length l.fn.extents.items;
  raised :
      (k : ℕ) → k < length l.agreed.names
      → max (get_or l.extents.items k 0) (extent_in_segment (name_at l.agreed.names k) (map (name_at l.agreed.names) l.numbers) (drop l.n l.families))
      ≡ max (get_or l.fn.extents.items k 0) (extent_in_segment (name_at l.agreed.names k) (map (name_at l.agreed.names) l.numbers) l.families);
}
