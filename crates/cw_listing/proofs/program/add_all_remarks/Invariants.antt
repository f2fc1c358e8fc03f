use Rattle.std.proofs.Common.{◌≡◌, ◌++◌, length, drop}
use Rattle.cw_tmpl.specs.Library.{library_bytes}
use Rattle.cw_listing.specs.Remarks.{remarks_from}
use Rattle.cw_listing.proofs.program.add_all_remarks.Given as goal

abbrev pub invariant-loop-k : goal.invariant-loop-k
invariant-loop-k l = l.remarks ++ remarks_from l.k l.start l.sources l.units (drop l.k l.codes) ≡ l.fn.remarks ++ remarks_from 0 (length library_bytes) l.sources l.units l.codes
