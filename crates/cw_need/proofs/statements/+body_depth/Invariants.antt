use Rattle.std.proofs.Common.{◌≡◌, ◌≤◌, max, map, drop}
use Rattle.cw_unit.specs.StackBound.{largest, body_depth}
use Rattle.cw_need.specs.Told.{told}
use Rattle.cw_need.proofs.statements.+body_depth.Given as goal

abbrev pub invariant-loop-each : goal.invariant-loop-each
invariant-loop-each l = record {
  rest : told (max l.most (largest (map body_depth (drop l.each-index l.each-items)))) ≡ told (largest (map body_depth l.each-items));
  most : l.most ≤ 65536;
}
