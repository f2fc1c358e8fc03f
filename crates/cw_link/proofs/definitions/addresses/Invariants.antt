use Rattle.std.proofs.Common.{◌≡◌, ◌<◌, ℕ, length, map, drop, None, slice_index_or}
use Rattle.cw_comm.specs.Agreement.{or_else}
use Rattle.cw_link.specs.Contents.{contents_of}
use Rattle.cw_link.specs.LinkedImage.{code_end}
use Rattle.cw_link.specs.Definitions.{numbered_from}
use Rattle.cw_link.proofs.definitions.addresses.Given as goal

abbrev pub invariant-loop-segment : goal.invariant-loop-segment
invariant-loop-segment l = record {
  count : length l.table.items ≡ l.fn.names;
  end : code_end l.place (map contents_of (drop l.segment l.views)) ≡ code_end l.fn.start (map contents_of l.views);
  told : (k : ℕ) → k < l.fn.names
      → or_else (slice_index_or l.table.items k None) (numbered_from l.place l.segment k l.numbers (map contents_of (drop l.segment l.views))) ≡ numbered_from l.fn.start 0 k l.numbers (map contents_of l.views);
}
