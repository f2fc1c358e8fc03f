use Rattle.std.proofs.Common.{◌≡◌, ◌++◌, flat_map, take}
use Rattle.cw_listing.specs.Remarks.{words_behind_call}
use Rattle.cw_listing.proofs.words.add_data.Given as goal

abbrev pub invariant-loop-k : goal.invariant-loop-k
invariant-loop-k l = l.places ≡ l.fn.places ++ flat_map (words_behind_call l.start) (take l.k l.relocs)
