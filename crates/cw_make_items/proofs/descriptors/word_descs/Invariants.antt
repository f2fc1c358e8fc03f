use Rattle.std.proofs.Common.{◌≡◌, ◌++◌, drop}
use Rattle.cw_make_items.specs.Descriptors.{word_descs}
use Rattle.cw_make_items.proofs.descriptors.word_descs.Given as goal

abbrev pub invariant-loop-name : goal.invariant-loop-name
invariant-loop-name l =
    l.out ++ word_descs l.by.numbers.now l.by.listed.now l.by.things.now l.scale (drop l.name-index l.names)
    ≡ l.initial.out ++ word_descs l.by.numbers.now l.by.listed.now l.by.things.now l.scale l.names
