use Rattle.std.proofs.Common.{◌≡◌, ◌++◌, drop}
use Rattle.cw_number.specs.Numbers.{item_rows}
use Rattle.cw_number.proofs.numbers.with_items.Given as goal

abbrev pub invariant-loop-thing : goal.invariant-loop-thing
invariant-loop-thing l = l.all ++ item_rows l.number (drop l.thing-index l.things) ≡ l.fn.before ++ item_rows 0 l.things
