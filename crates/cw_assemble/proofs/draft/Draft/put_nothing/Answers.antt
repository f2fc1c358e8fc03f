use Rattle.cw_assemble.proofs.Growing.{nothing}
use Rattle.cw_assemble.proofs.draft.Draft.put_nothing.Goals as goal

pub returns : goal.returns
returns c = nothing
