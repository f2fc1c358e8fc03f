use Rattle.std.proofs.Common.{◌≡◌, ◌++◌, drop}
use Rattle.cw_judge.specs.Judged.{absolute_addresses}
use Rattle.cw_judge.proofs.text.absolute_addresses.Given as goal

abbrev pub invariant-loop-list : goal.invariant-loop-list
invariant-loop-list l = l.all ++ absolute_addresses (drop l.list-index l.lists) ≡ l.initial.all ++ absolute_addresses l.lists
