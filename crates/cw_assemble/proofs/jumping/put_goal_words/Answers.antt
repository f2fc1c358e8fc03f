use Rattle.std.proofs.Common.{refl}
use Rattle.cw_tmpl.specs.Templates.{goal_word, goal_words}
use Rattle.cw_assemble.proofs.Growing.{all_comes, next_word, last_came}
use Rattle.cw_assemble.proofs.jumping.put_goal_words.Goals as goal

pub loop-goal-init : goal.loop-goal-init
loop-goal-init c = all_comes c.args.code.now (goal_words c.args.names.now c.args.goals.now)

pub loop-goal-preserved : goal.loop-goal-preserved
loop-goal-preserved c =
    next_word (goal_words c.args.names.now) c.args.goals.now (goal_word c.args.names.now) c.loop-goal.goal-index _ c.goal_word.result (λ x rest. refl) c.loop-goal-test.true c.goal_word.ensures.value c.loop-goal.invariant
    c.put_all.ensures

pub returns : goal.returns
returns c = last_came (goal_words c.args.names.now) c.args.goals.now c.loop-goal.goal-index c.loop-goal-test.false refl c.loop-goal.invariant
