use Rattle.std.proofs.Common.{◌≡◌, ◌++◌, drop}
use Rattle.cw_make_items.specs.Descriptors.{label_descs}
use Rattle.cw_make_items.proofs.descriptors.label_descs.Given as goal

abbrev pub invariant-loop-name : goal.invariant-loop-name
invariant-loop-name l = l.out ++ label_descs (drop l.name-index l.names) ≡ l.initial.out ++ label_descs l.names
