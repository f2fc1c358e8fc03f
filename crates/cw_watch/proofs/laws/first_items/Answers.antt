use Rattle.cw_watch.proofs.First.{first_item}
use Rattle.cw_watch.proofs.laws.first_items.Goals as goal

pub returns : goal.returns
returns c = first_item
