use Rattle.std.proofs.Common.{drop}
use Rattle.cw_tmpl.specs.Named.{goals_list_label}
use Rattle.cw_assemble.proofs.Flags.{Setting}
use Rattle.cw_assemble.proofs.named.set_labels_of_goals.Given as goal

abbrev pub invariant-loop-goal : goal.invariant-loop-goal
invariant-loop-goal l = Setting l.flags.items l.fn.flags.items (goals_list_label (drop l.goal-index l.goals)) (goals_list_label l.goals)
