use Rattle.std.proofs.Common.{◌≡◌, ◌++◌, drop}
use Rattle.cw_items.specs.Things.{groups_things}
use Rattle.cw_items.proofs.data.groups_things.Given as goal

abbrev pub invariant-loop-group : goal.invariant-loop-group
invariant-loop-group l = l.out ++ groups_things l.owner l.next (drop l.group-index l.groups) ≡ l.initial.out ++ groups_things l.owner l.initial.next l.groups
