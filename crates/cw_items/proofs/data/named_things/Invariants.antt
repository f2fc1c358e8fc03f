use Rattle.std.proofs.Common.{◌≡◌, ◌++◌, drop}
use Rattle.cw_items.specs.Things.{named_things}
use Rattle.cw_items.proofs.data.named_things.Given as goal

abbrev pub invariant-loop-name : goal.invariant-loop-name
invariant-loop-name l = l.out ++ named_things l.owner l.words l.next (drop l.name-index l.names) ≡ l.initial.out ++ named_things l.owner l.words l.initial.next l.names
