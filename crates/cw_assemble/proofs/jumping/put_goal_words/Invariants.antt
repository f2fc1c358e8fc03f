use Rattle.std.proofs.Common.{drop}
use Rattle.cw_tmpl.specs.Templates.{goal_words}
use Rattle.cw_assemble.proofs.Growing.{Coming}
use Rattle.cw_assemble.proofs.jumping.put_goal_words.Given as goal

abbrev pub invariant-loop-goal : goal.invariant-loop-goal
invariant-loop-goal l = Coming l.fn.code (goal_words l.names l.goals) l.code (goal_words l.names (drop l.goal-index l.goals))
