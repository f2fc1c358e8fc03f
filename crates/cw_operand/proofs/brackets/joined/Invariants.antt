use Rattle.std.proofs.Common.{◌≡◌, ◌++◌, take}
use Rattle.cw_operand.proofs.brackets.joined.Given as goal

abbrev pub invariant-loop-item : goal.invariant-loop-item
invariant-loop-item l = l.all ≡ l.fn.bits ++ take l.item-index l.fn.more
