use Rattle.std.proofs.Common.{◌≡◌, ◌≤◌, max, drop}
use Rattle.cw_unit.specs.StackBound.{elements_depth}
use Rattle.cw_need.specs.Told.{told}
use Rattle.cw_need.proofs.statements.elements_depth.Given as goal

abbrev pub invariant-loop-element : goal.invariant-loop-element
invariant-loop-element l = record {
  rest : told (max l.most (elements_depth (drop l.element-index l.elements))) ≡ told (elements_depth l.elements);
  most : l.most ≤ 65536;
}
