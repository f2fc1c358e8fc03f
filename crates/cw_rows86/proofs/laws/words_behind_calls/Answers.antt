use Rattle.cw_rows86.proofs.Stopping.{told}
use Rattle.cw_rows86.proofs.laws.words_behind_calls.Goals as goal

pub returns : goal.returns
returns c = told c.fetching.ensures.finds
