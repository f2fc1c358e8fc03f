use Rattle.cw_object.proofs.Telling.{view-tells}
use Rattle.cw_object.proofs.linking.view_of.Goals as goal

pub returns-clause-contents : goal.returns-clause-contents
returns-clause-contents c = view-tells c.args.object.now c.in-Ok.view c.in-Ok.ensures
