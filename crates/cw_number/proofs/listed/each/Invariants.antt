use Rattle.std.proofs.Common.{◌≡◌, ◌++◌, drop}
use Rattle.cw_number.specs.Listed.{each_listed}
use Rattle.cw_number.proofs.listed.each.Given as goal

abbrev pub invariant-loop-name : goal.invariant-loop-name
invariant-loop-name l = l.all ++ each_listed l.listing (drop l.name-index l.names) ≡ l.fn.before ++ each_listed l.listing l.names
