use Rattle.std.proofs.Common.{◌≡◌, ◌++◌, map, take}
use Rattle.cw_listing.specs.Remarks.{printed}
use Rattle.cw_listing.proofs.source.add_printed.Given as goal

abbrev pub invariant-loop-k : goal.invariant-loop-k
invariant-loop-k l = l.text.items ≡ l.fn.text.items ++ map printed (take l.k l.bytes)
