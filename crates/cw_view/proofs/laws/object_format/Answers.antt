use Rattle.cw_view.proofs.Unique.{one_object}
use Rattle.cw_view.proofs.laws.object_format.Goals as goal

pub returns-clause-one : goal.returns-clause-one
returns-clause-one c = one_object
