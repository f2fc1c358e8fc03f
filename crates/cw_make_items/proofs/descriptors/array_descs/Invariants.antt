use Rattle.std.proofs.Common.{◌≡◌, ◌++◌, drop}
use Rattle.cw_make_items.specs.Descriptors.{array_descs}
use Rattle.cw_make_items.proofs.descriptors.array_descs.Given as goal

abbrev pub invariant-loop-name : goal.invariant-loop-name
invariant-loop-name l =
    l.out ++ array_descs l.by.numbers.now l.by.listed.now l.by.things.now l.scale l.bounds (drop l.name-index l.names)
    ≡ l.initial.out ++ array_descs l.by.numbers.now l.by.listed.now l.by.things.now l.scale l.bounds l.names
