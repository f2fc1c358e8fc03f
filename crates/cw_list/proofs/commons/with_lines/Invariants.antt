use Rattle.std.proofs.Common.{◌≡◌, ◌++◌, drop}
use Rattle.cw_list.specs.Listing.{commons_once}
use Rattle.cw_list.proofs.OneLine.{untold}
use Rattle.cw_list.proofs.commons.with_lines.Given as goal

abbrev pub invariant-loop-k : goal.invariant-loop-k
invariant-loop-k l = l.kept ++ untold l.told (commons_once (drop l.k l.rows)) ≡ commons_once l.rows
