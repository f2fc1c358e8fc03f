use Rattle.std.proofs.Common.{◌≡◌, ◌++◌, drop}
use Rattle.cw_link_files.specs.Parts.{picked_of}
use Rattle.cw_link_files.proofs.listing.add_picked.Given as goal

abbrev pub invariant-loop-k : goal.invariant-loop-k
invariant-loop-k l = l.list ++ picked_of l.members (drop l.k-index l.picked) ≡ l.fn.list ++ picked_of l.members l.picked
