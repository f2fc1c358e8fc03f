use Rattle.std.proofs.Common.{◌≡◌, length}
use Rattle.cw_depth.specs.Building.{AreRows}
use Rattle.cw_depth.proofs.rows.rows_for.Given as goal

abbrev pub invariant-loop-node : goal.invariant-loop-node
invariant-loop-node l = record {
  size : length l.rows ≡ l.node-index;
  rows : AreRows l.units l.heads l.rows;
}
