use Rattle.std.proofs.Common.{◌≡◌, ◌++◌, drop}
use Rattle.cw_listing.specs.Remarks.{numbered, procedure_remark}
use Rattle.cw_listing.proofs.segment.add_procedures.Given as goal

abbrev pub invariant-loop-k : goal.invariant-loop-k
invariant-loop-k l = l.remarks ++ numbered (procedure_remark l.start l.procedures) l.k (drop l.k l.places) ≡ l.fn.remarks ++ numbered (procedure_remark l.start l.procedures) 0 l.places
