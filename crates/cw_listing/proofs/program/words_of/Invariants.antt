use Rattle.std.proofs.Common.{◌≡◌, ◌++◌, length, drop}
use Rattle.cw_tmpl.specs.Library.{library_bytes}
use Rattle.cw_listing.specs.Remarks.{words_from}
use Rattle.cw_listing.proofs.program.words_of.Given as goal

abbrev pub invariant-loop-k : goal.invariant-loop-k
invariant-loop-k l = l.words ++ words_from l.k l.start l.units (drop l.k l.codes) ≡ words_from 0 (length library_bytes) l.units l.codes
