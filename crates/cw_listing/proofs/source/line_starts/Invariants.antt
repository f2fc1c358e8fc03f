use Rattle.std.proofs.Common.{◌≡◌, ◌++◌, drop}
use Rattle.cw_listing.specs.Remarks.{starts_behind, line_starts}
use Rattle.cw_listing.proofs.source.line_starts.Given as goal

abbrev pub invariant-loop-k : goal.invariant-loop-k
invariant-loop-k l = l.starts ++ starts_behind l.k (drop l.k l.source) ≡ line_starts l.source
