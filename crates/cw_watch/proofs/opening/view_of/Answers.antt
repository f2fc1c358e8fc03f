use Rattle.cw_object.proofs.Telling.{view-tells}
use Rattle.cw_watch.proofs.Rising.{view_rises}
use Rattle.cw_watch.proofs.opening.view_of.Goals as goal

pub returns-clause-contents : goal.returns-clause-contents
returns-clause-contents c = view-tells c.args.object.now c.in-Ok.view c.in-Ok.ensures

pub returns-clause-rises : goal.returns-clause-rises
returns-clause-rises c = view_rises c.args.object.now c.in-Ok.view c.in-Ok.ensures
