use Rattle.cw_obj.proofs.Telling.{telling}
use Rattle.cw_obj.proofs.laws.object_written.Goals as goal

pub returns-clause-tells : goal.returns-clause-tells
returns-clause-tells c = telling
