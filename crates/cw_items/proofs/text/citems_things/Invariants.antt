use Rattle.std.proofs.Common.{◌≡◌, ◌++◌, drop}
use Rattle.cw_items.specs.Things.{citems_things}
use Rattle.cw_items.proofs.text.citems_things.Given as goal

abbrev pub invariant-loop-item : goal.invariant-loop-item
invariant-loop-item l = l.out ++ citems_things l.named (drop l.item-index l.items) ≡ l.initial.out ++ citems_things l.named l.items
