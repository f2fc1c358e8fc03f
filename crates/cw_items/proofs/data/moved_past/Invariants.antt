use Rattle.std.proofs.Common.{◌≡◌, ◌++◌, drop}
use Rattle.cw_items.specs.Things.{moved_past}
use Rattle.cw_items.proofs.data.moved_past.Given as goal

abbrev pub invariant-loop-name : goal.invariant-loop-name
invariant-loop-name l = moved_past l.words (drop l.name-index l.names) l.next ≡ moved_past l.words l.names l.initial.next
