use Rattle.cw_checks_code.proofs.Opened.{one_more}
use Rattle.cw_checks_code.proofs.lists.ends.views_of.Goals as goal

pub loop-object-preserved : goal.loop-object-preserved
loop-object-preserved c = one_more c.loop-object.views c.push.new.self c.in-Some.view c.loop-object.invariant c.in-Some.ensures c.in_ok-push-in-Some.ensures.ok
