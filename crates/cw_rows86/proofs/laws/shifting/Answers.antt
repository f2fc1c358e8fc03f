use Rattle.cw_rows86.proofs.Shifts.{shift}
use Rattle.cw_rows86.proofs.laws.shifting.Goals as goal

pub returns : goal.returns
returns c = shift c.fetching.ensures.finds
