use Rattle.cw_show.proofs.Adding.{in_order}
use Rattle.cw_show.proofs.statement.put_label.Goals as goal

pub returns : goal.returns
returns c = in_order c.put_name.ensures c.put_symbol.ensures
