use Rattle.cw_show.proofs.Adding.{in_order}
use Rattle.cw_show.proofs.items.put_table_head.Goals as goal

pub returns : goal.returns
returns c = in_order c.put_word.ensures (in_order c.put_name.ensures c.put_size.ensures)
