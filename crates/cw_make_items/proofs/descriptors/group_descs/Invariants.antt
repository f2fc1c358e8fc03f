use Rattle.std.proofs.Common.{◌≡◌, ◌++◌, drop}
use Rattle.cw_make_items.specs.Descriptors.{group_descs}
use Rattle.cw_make_items.proofs.descriptors.group_descs.Given as goal

abbrev pub invariant-loop-group : goal.invariant-loop-group
invariant-loop-group l =
    l.out ++ group_descs l.by.numbers.now l.by.listed.now l.by.things.now l.scale (drop l.group-index l.groups)
    ≡ l.initial.out ++ group_descs l.by.numbers.now l.by.listed.now l.by.things.now l.scale l.groups
