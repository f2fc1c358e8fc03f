use Rattle.std.proofs.Common.{◌≡◌, ◌++◌, drop}
use Rattle.cw_preset.proofs.held.table_of.Given as goal

abbrev pub invariant-loop-row : goal.invariant-loop-row
invariant-loop-row l = l.all ++ drop l.row-index l.rows ≡ l.rows
