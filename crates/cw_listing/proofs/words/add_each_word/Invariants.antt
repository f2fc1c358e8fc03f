use Rattle.std.proofs.Common.{◌≡◌, ◌++◌, map, take}
use Rattle.cw_listing.specs.Remarks.{word_remark}
use Rattle.cw_listing.proofs.words.add_each_word.Given as goal

abbrev pub invariant-loop-k : goal.invariant-loop-k
invariant-loop-k l = l.remarks ≡ l.fn.remarks ++ map (word_remark l.start l.unit l.roots) (take l.k l.relocs)
