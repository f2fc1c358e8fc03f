use Rattle.std.proofs.Common.{◌≡◌, ◌++◌, flat_map, take}
use Rattle.cw_listing.specs.Listing.{remark_text}
use Rattle.cw_listing.proofs.listing.add_remarks.Given as goal

abbrev pub invariant-loop-k : goal.invariant-loop-k
invariant-loop-k l = l.text.items ≡ l.fn.text.items ++ flat_map remark_text (take l.k l.remarks)
