-- No run of linked units is stopped by the depth of its calls at a limit of as many as the report tells.
use Rattle.cw_deepest.proofs.Linked.Linked.{linked-no_stop}
use Rattle.cw_deepest.proofs.laws.linked.no_depth_stop.Goals as goal

pub returns : goal.returns
returns c = linked-no_stop
