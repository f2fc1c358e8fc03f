use Rattle.std.proofs.Common.{◌≡◌, ◌++◌, drop}
use Rattle.cw_items.specs.Things.{aitems_things}
use Rattle.cw_items.proofs.text.aitems_things.Given as goal

abbrev pub invariant-loop-item : goal.invariant-loop-item
invariant-loop-item l = l.out ++ aitems_things (drop l.item-index l.items) ≡ l.initial.out ++ aitems_things l.items
