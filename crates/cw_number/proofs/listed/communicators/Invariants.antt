use Rattle.std.proofs.Common.{◌≡◌, ◌++◌, drop}
use Rattle.cw_number.specs.Listed.{communicators_listed}
use Rattle.cw_number.proofs.listed.communicators.Given as goal

abbrev pub invariant-loop-list : goal.invariant-loop-list
invariant-loop-list l = l.all ++ communicators_listed (drop l.list-index l.lists) ≡ l.fn.before ++ communicators_listed l.lists
