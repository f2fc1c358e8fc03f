use Rattle.std.proofs.Common.{refl}
use Rattle.cw_tmpl.specs.Named.{label_of_goal, goals_list_label}
use Rattle.cw_assemble.proofs.Flags.{all_set, set_next}
use Rattle.cw_assemble.proofs.named.set_labels_of_goals.Goals as goal

pub loop-goal-init : goal.loop-goal-init
loop-goal-init c = record { long = refl; each = λ k inside. refl }

pub loop-goal-preserved : goal.loop-goal-preserved
loop-goal-preserved c =
    set_next goals_list_label label_of_goal c.args.goals.now c.loop-goal.goal-index _ c.loop-goal.flags.items c.set.new.flags.items c.args.flags.now.items c.label_of_goal.result (goals_list_label c.args.goals.now)
    (λ x rest k. refl) c.loop-goal-test.true c.label_of_goal.ensures c.set.ensures.long c.set.ensures.each c.loop-goal.invariant

pub returns-clause-long : goal.returns-clause-long
returns-clause-long c = c.loop-goal.invariant.long

pub returns-clause-each : goal.returns-clause-each
returns-clause-each c = all_set goals_list_label (goals_list_label c.args.goals.now) c.args.goals.now c.loop-goal.goal-index c.loop-goal.flags.items c.args.flags.now.items c.loop-goal-test.false (λ k. refl) c.loop-goal.invariant
