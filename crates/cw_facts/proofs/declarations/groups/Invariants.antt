use Rattle.std.proofs.Common.{◌≡◌, ◌++◌, drop}
use Rattle.cw_facts.specs.Facts.{groups_facts}
use Rattle.cw_facts.proofs.declarations.groups.Given as goal

abbrev pub invariant-loop-group : goal.invariant-loop-group
invariant-loop-group l = l.out ++ groups_facts l.scale (drop l.group-index l.groups) ≡ l.initial.out ++ groups_facts l.scale l.groups
