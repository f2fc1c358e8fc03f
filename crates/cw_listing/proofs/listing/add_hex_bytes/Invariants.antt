use Rattle.std.proofs.Common.{◌≡◌, ◌++◌, flat_map, take}
use Rattle.cw_listing.specs.Listing.{spaced_hex}
use Rattle.cw_listing.proofs.listing.add_hex_bytes.Given as goal

abbrev pub invariant-loop-k : goal.invariant-loop-k
invariant-loop-k l = l.text.items ≡ l.fn.text.items ++ flat_map spaced_hex (take l.k l.bytes)
