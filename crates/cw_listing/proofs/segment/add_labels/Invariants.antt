use Rattle.std.proofs.Common.{◌≡◌, ◌++◌, drop}
use Rattle.cw_listing.specs.Remarks.{placed, label_remark}
use Rattle.cw_listing.proofs.segment.add_labels.Given as goal

abbrev pub invariant-loop-k : goal.invariant-loop-k
invariant-loop-k l = l.remarks ++ placed (label_remark l.start l.labels) l.k (drop l.k l.places) ≡ l.fn.remarks ++ placed (label_remark l.start l.labels) 0 l.places
