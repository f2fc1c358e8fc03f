use Rattle.cw_show.proofs.Adding.{in_order}
use Rattle.cw_show.proofs.statement.put_switch.Goals as goal

pub returns : goal.returns
returns c = in_order c.put_word.ensures (in_order c.put_name.ensures (in_order c.put_symbol.ensures c.put_names.ensures))
