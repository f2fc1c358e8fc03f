use Rattle.std.proofs.Common.{◌≡◌, ◌++◌, drop}
use Rattle.cw_make_items.specs.Descriptors.{descs_of}
use Rattle.cw_make_items.proofs.descriptors.descs_of.Given as goal

abbrev pub invariant-loop-list : goal.invariant-loop-list
invariant-loop-list l = l.all ++ descs_of l.numbers l.listed l.things (drop l.list-index l.lists) ≡ descs_of l.numbers l.listed l.things l.lists
