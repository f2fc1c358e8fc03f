use Rattle.std.proofs.Common.{◌≡◌, ◌++◌, drop}
use Rattle.cw_number.specs.Numbers.{listed_rows}
use Rattle.cw_number.proofs.numbers.with_listed.Given as goal

abbrev pub invariant-loop-row : goal.invariant-loop-row
invariant-loop-row l = l.all ++ listed_rows l.number (drop l.row-index l.listed) ≡ l.fn.before ++ listed_rows 0 l.listed
