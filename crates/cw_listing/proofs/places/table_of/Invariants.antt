use Rattle.std.proofs.Common.{take}
use Rattle.cw_listing.specs.Lines.{is_among}
use Rattle.cw_listing.specs.Tables.{IsTable}
use Rattle.cw_listing.proofs.places.table_of.Given as goal

abbrev pub invariant-loop-k : goal.invariant-loop-k
invariant-loop-k l = IsTable l.size (is_among (take l.k l.places)) l.table.items
