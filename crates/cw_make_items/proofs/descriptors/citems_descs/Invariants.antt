use Rattle.std.proofs.Common.{◌≡◌, ◌++◌, drop}
use Rattle.cw_make_items.specs.Descriptors.{citems_descs}
use Rattle.cw_make_items.proofs.descriptors.citems_descs.Given as goal

abbrev pub invariant-loop-item : goal.invariant-loop-item
invariant-loop-item l =
    l.out ++ citems_descs l.by.numbers.now l.by.listed.now l.by.things.now (drop l.item-index l.items)
    ≡ l.initial.out ++ citems_descs l.by.numbers.now l.by.listed.now l.by.things.now l.items
