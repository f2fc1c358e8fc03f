use Rattle.std.proofs.Common.{◌≡◌, ◌++◌, drop}
use Rattle.cw_number.specs.Numbers.{declared_rows, none_counted}
use Rattle.cw_number.proofs.numbers.with_declared.Given as goal

abbrev pub invariant-loop-row : goal.invariant-loop-row
invariant-loop-row l = l.all ++ declared_rows l.begin l.counts (drop l.row-index l.declarations) ≡ l.fn.before ++ declared_rows l.begin none_counted l.declarations
