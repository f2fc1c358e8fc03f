use Rattle.cw_object.proofs.Telling.{telling}
use Rattle.cw_object.proofs.laws.object_of_unit.Goals as goal

pub returns : goal.returns
returns c = telling c.object_written.ensures.format c.object_written.ensures.tells
