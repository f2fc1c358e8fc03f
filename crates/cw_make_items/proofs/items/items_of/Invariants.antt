use Rattle.std.proofs.Common.{◌≡◌, ◌++◌, drop}
use Rattle.cw_make_items.specs.Items.{items_of}
use Rattle.cw_make_items.proofs.items.items_of.Given as goal

abbrev pub invariant-loop-thing : goal.invariant-loop-thing
invariant-loop-thing l = l.all ++ items_of l.declarations l.numbers l.listed l.addresses l.held (drop l.thing-index l.things) ≡ items_of l.declarations l.numbers l.listed l.addresses l.held l.things
