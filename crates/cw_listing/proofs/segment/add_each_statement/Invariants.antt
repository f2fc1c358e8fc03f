use Rattle.std.proofs.Common.{◌≡◌, ◌++◌, map, take}
use Rattle.cw_listing.specs.Remarks.{statement_remark}
use Rattle.cw_listing.proofs.segment.add_each_statement.Given as goal

abbrev pub invariant-loop-k : goal.invariant-loop-k
invariant-loop-k l = l.remarks ≡ l.fn.remarks ++ map (statement_remark l.start l.name l.source l.starts) (take l.k l.statements)
