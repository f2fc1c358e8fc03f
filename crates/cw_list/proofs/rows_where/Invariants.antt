use Rattle.std.proofs.Common.{◌≡◌, take}
use Rattle.std.specs.List.{filter}
use Rattle.cw_list.specs.Listing.{stands_in_frame}
use Rattle.cw_list.proofs.rows_where.Given as goal

abbrev pub invariant-loop-k : goal.invariant-loop-k
invariant-loop-k l = l.kept.items ≡ filter (stands_in_frame l.frame) (take l.k l.rows)
