use Rattle.cw_pick.proofs.Unique.{one_selection}
use Rattle.cw_pick.proofs.laws.one_selection.Goals as goal

pub returns : goal.returns
returns c = one_selection
