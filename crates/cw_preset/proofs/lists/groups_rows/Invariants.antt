use Rattle.std.proofs.Common.{◌≡◌, ◌++◌, drop}
use Rattle.cw_preset.specs.Lists.{groups_rows}
use Rattle.cw_preset.proofs.lists.groups_rows.Given as goal

abbrev pub invariant-loop-group : goal.invariant-loop-group
invariant-loop-group l = l.out ++ groups_rows l.scale (drop l.group-index l.groups) l.rest ≡ l.initial.out ++ groups_rows l.scale l.groups l.places
