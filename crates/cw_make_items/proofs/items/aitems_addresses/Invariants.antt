use Rattle.std.proofs.Common.{◌≡◌, ◌++◌, drop}
use Rattle.cw_make_items.specs.Items.{aitems_addresses}
use Rattle.cw_make_items.proofs.items.aitems_addresses.Given as goal

abbrev pub invariant-loop-item : goal.invariant-loop-item
invariant-loop-item l = l.all ++ aitems_addresses (drop l.item-index l.items) ≡ l.fn.before ++ aitems_addresses l.items
