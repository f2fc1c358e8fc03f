use Rattle.std.proofs.Common.{◌≡◌, ◌≤◌, max, drop}
use Rattle.cw_unit.specs.StackBound.{procedures_need}
use Rattle.cw_need.specs.Told.{told}
use Rattle.cw_need.proofs.units.procedures_need.Given as goal

abbrev pub invariant-loop-procedure : goal.invariant-loop-procedure
invariant-loop-procedure l = record {
  rest : told (max l.most (procedures_need (drop l.procedure-index l.procedures))) ≡ told (procedures_need l.procedures);
  most : l.most ≤ 65536;
}
