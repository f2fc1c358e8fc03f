use Rattle.std.proofs.Common.{◌≡◌, ℕ, ◌<◌, length, drop, Some, None, slice_get, slice_index_or}
use Rattle.cw_unit.specs.Allocation.{name_at}
use Rattle.cw_comm.specs.declared.face.Face.{Face}
use Rattle.cw_comm.specs.Tables.{place_from, listed_in}
use Rattle.cw_comm.proofs.tables.enter_listings.Given as goal

abbrev pub invariant-loop-d : goal.invariant-loop-d
invariant-loop-d l = record {
  count : length l.table.items ≡ length l.fn.table.items;
  told : (k : ℕ) (f : Face) → k < length l.listed.names.now → slice_get l.listed.segments.now l.segment ≡ Some f
      → slice_index_or l.table.items k None ≡ listed_in l.segment (place_from l.d (name_at l.listed.names.now k) (drop l.d f.descs)) (slice_index_or l.fn.table.items k None);
}
