use Rattle.std.proofs.Common.{◌≡◌, ◌<◌, ◌+◌, ℕ, length, None, option_map, slice_index_or}
use Rattle.cw_view.specs.Reading.{definition_in}
use Rattle.cw_view.specs.Splitting.{payloads_left}
use Rattle.cw_comm.specs.Agreement.{or_else}
use Rattle.cw_link.specs.Contents.{values_in, records_of}
use Rattle.cw_link.specs.Relocation.{word}
use Rattle.cw_link.specs.Definitions.{numbered_in}
use Rattle.cw_link.proofs.definitions.enter_definitions.Given as goal

abbrev pub invariant-loop-payload : goal.invariant-loop-payload
invariant-loop-payload l = record {
  count : length l.table.items ≡ length l.fn.table.items;
  told : (k : ℕ) → k < length l.fn.table.items
      → or_else (slice_index_or l.table.items k None) (option_map (λ place. word (l.start + place)) (numbered_in k l.numbers (values_in definition_in (payloads_left l.payload-iterator))))
      ≡ or_else (slice_index_or l.fn.table.items k None) (option_map (λ place. word (l.start + place)) (numbered_in k l.numbers (records_of definition_in 8 l.fn.view)));
}
