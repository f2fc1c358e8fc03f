use Rattle.std.proofs.Common.{◌≡◌, ℕ, ◌<◌, length, drop, Some, None, slice_get, slice_index_or}
use Rattle.cw_unit.specs.Allocation.{name_at}
use Rattle.cw_comm.specs.declared.face.Face.{Face}
use Rattle.cw_comm.specs.Agreement.{defines}
use Rattle.cw_comm.specs.Tables.{defined_in}
use Rattle.cw_comm.proofs.tables.enter_definitions.Given as goal

abbrev pub invariant-loop-n : goal.invariant-loop-n
invariant-loop-n l = record {
  count : length l.table.items ≡ length l.fn.table.items;
  told : (k : ℕ) (f : Face) → k < length l.listed.names.now → slice_get l.listed.segments.now l.segment ≡ Some f
      → slice_index_or l.table.items k None ≡ defined_in l.segment (defines (name_at l.listed.names.now k) f.descs (drop l.n f.defined)) (slice_index_or l.fn.table.items k None);
}
