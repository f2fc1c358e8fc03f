use Rattle.cw_show.proofs.Adding.{in_order}
use Rattle.cw_show.proofs.leaf.put_octal.Goals as goal

pub returns : goal.returns
returns c = in_order c.put_word.ensures (in_order c.put_symbol.ensures (in_order c.put_number.ensures c.put_symbol-2.ensures))
