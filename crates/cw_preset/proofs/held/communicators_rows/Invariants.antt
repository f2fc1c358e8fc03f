use Rattle.std.proofs.Common.{◌≡◌, ◌++◌, drop}
use Rattle.cw_preset.specs.Held.{communicators_rows}
use Rattle.cw_preset.proofs.held.communicators_rows.Given as goal

abbrev pub invariant-loop-list : goal.invariant-loop-list
invariant-loop-list l = l.out ++ communicators_rows (drop l.list-index l.lists) ≡ l.initial.out ++ communicators_rows l.lists
