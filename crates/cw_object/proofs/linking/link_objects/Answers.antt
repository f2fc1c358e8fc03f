use Rattle.cw_object.proofs.Opening.{opened-in}
use Rattle.cw_object.proofs.linking.link_objects.Goals as goal

pub link-requires-clause-opened : goal.link-requires-clause-opened
link-requires-clause-opened c = opened-in c.in_ok-views.views c.as_slice.result.now c.in_ok-views.ensures.opened c.as_slice.ensures
