use Rattle.std.proofs.Common.{◌≡◌, ◌++◌, drop}
use Rattle.cw_preset.specs.Lists.{named_rows}
use Rattle.cw_preset.proofs.lists.named_rows.Given as goal

abbrev pub invariant-loop-name : goal.invariant-loop-name
invariant-loop-name l = l.out ++ named_rows l.scale l.words (drop l.name-index l.names) l.rest ≡ l.initial.out ++ named_rows l.scale l.words l.names l.places
