use Rattle.std.proofs.Common.{◌≡◌, ◌++◌, drop}
use Rattle.cw_make_items.specs.Descriptors.{switch_descs}
use Rattle.cw_make_items.proofs.descriptors.switch_descs.Given as goal

abbrev pub invariant-loop-name : goal.invariant-loop-name
invariant-loop-name l = l.out ++ switch_descs (drop l.name-index l.names) ≡ l.initial.out ++ switch_descs l.names
