use Rattle.std.proofs.Common.{◌≡◌, map, take}
use Rattle.cw_listing.specs.Remarks.{entry_remark}
use Rattle.cw_listing.proofs.library.library_remarks.Given as goal

abbrev pub invariant-loop-k : goal.invariant-loop-k
invariant-loop-k l = l.remarks ≡ map entry_remark (take l.k l.entries)
