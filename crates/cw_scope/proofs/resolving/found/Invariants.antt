use Rattle.std.proofs.Common.{◌≡◌, ◌++◌, drop}
use Rattle.cw_scope.proofs.resolving.found.Given as goal

abbrev pub invariant-loop-row : goal.invariant-loop-row
invariant-loop-row l = l.all ++ drop l.row-index l.resolved ≡ l.resolved
