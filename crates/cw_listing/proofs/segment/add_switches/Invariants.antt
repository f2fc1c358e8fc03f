use Rattle.std.proofs.Common.{◌≡◌, ◌++◌, drop}
use Rattle.cw_listing.specs.Remarks.{placed, switch_remark}
use Rattle.cw_listing.proofs.segment.add_switches.Given as goal

abbrev pub invariant-loop-k : goal.invariant-loop-k
invariant-loop-k l = l.remarks ++ placed (switch_remark l.start) l.k (drop l.k l.places) ≡ l.fn.remarks ++ placed (switch_remark l.start) 0 l.places
