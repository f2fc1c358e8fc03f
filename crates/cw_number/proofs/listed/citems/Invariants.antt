use Rattle.std.proofs.Common.{◌≡◌, ◌++◌, drop}
use Rattle.cw_number.specs.Listed.{citems_listed}
use Rattle.cw_number.proofs.listed.citems.Given as goal

abbrev pub invariant-loop-item : goal.invariant-loop-item
invariant-loop-item l = l.all ++ citems_listed (drop l.item-index l.items) ≡ l.fn.before ++ citems_listed l.items
