use Rattle.std.proofs.Common.{◌≡◌, ◌++◌, drop}
use Rattle.cw_items.specs.Things.{communicators_things}
use Rattle.cw_items.proofs.text.communicators_things.Given as goal

abbrev pub invariant-loop-list : goal.invariant-loop-list
invariant-loop-list l = l.out ++ communicators_things l.named (drop l.list-index l.lists) ≡ l.initial.out ++ communicators_things l.named l.lists
