use Rattle.std.proofs.Common.{◌≡◌, ◌++◌, drop}
use Rattle.cw_make_items.specs.Items.{addresses_of}
use Rattle.cw_make_items.proofs.items.addresses_of.Given as goal

abbrev pub invariant-loop-list : goal.invariant-loop-list
invariant-loop-list l = l.all ++ addresses_of (drop l.list-index l.lists) ≡ addresses_of l.lists
