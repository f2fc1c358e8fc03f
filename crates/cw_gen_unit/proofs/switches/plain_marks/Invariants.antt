use Rattle.std.proofs.Common.{◌≡◌, drop}
use Rattle.cw_gen_unit.specs.ReferenceStatements.{plain_marks}
use Rattle.cw_gen_unit.proofs.SwitchMarks.{behind}
use Rattle.cw_gen_unit.proofs.switches.plain_marks.Given as goal

abbrev pub invariant-loop-goal : goal.invariant-loop-goal
invariant-loop-goal l = behind l.marks (plain_marks l.unit l.who (drop l.goal-index l.goals)) ≡ plain_marks l.unit l.who l.goals
