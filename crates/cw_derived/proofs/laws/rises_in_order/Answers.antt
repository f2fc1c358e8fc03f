-- The marks of the tokens rise, so those of the tree among them do.
use Rattle.cw_derived.proofs.Derived.{proper}
use Rattle.cw_derived.proofs.laws.rises_in_order.Goals as goal

pub returns : goal.returns
returns c n ts x few d = proper n ts x few d
