use Rattle.std.proofs.Common.{◌≡◌, ◌++◌, drop}
use Rattle.cw_number.specs.Listed.{groups_listed}
use Rattle.cw_number.proofs.listed.groups.Given as goal

abbrev pub invariant-loop-group : goal.invariant-loop-group
invariant-loop-group l = l.all ++ groups_listed (drop l.group-index l.groups) ≡ l.fn.before ++ groups_listed l.groups
