use Rattle.std.proofs.Common.{◌≡◌, ◌++◌, drop}
use Rattle.cw_gen_unit.proofs.unit.goals.Given as goal

abbrev pub invariant-loop-goal : goal.invariant-loop-goal
invariant-loop-goal l = l.copy ++ drop l.goal-index l.list ≡ l.list
