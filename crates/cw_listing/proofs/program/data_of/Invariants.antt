use Rattle.std.proofs.Common.{◌≡◌, ◌++◌, length, drop}
use Rattle.cw_tmpl.specs.Library.{library_bytes}
use Rattle.cw_listing.specs.Remarks.{data_from}
use Rattle.cw_listing.proofs.program.data_of.Given as goal

abbrev pub invariant-loop-k : goal.invariant-loop-k
invariant-loop-k l = l.places ++ data_from l.start (drop l.k l.codes) ≡ data_from (length library_bytes) l.codes
