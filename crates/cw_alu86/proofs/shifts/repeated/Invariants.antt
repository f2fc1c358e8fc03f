use Rattle.std.proofs.Common.{◌≡◌, ◌<◌, ◌+◌}
use Rattle.cw_i86.specs.Shifts.{repeated}
use Rattle.cw_alu86.proofs.shifts.repeated.Given as goal

abbrev pub invariant-loop : goal.invariant-loop
invariant-loop l = record {
  state : l.state ≡ repeated l.shift l.half l.counter (l.n, l.carry);
  fits : l.state.0 < l.half + l.half;
}
