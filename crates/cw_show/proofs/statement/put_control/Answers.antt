use Rattle.cw_show.proofs.Adding.{in_order}
use Rattle.cw_show.proofs.statement.put_control.Goals as goal

pub returns : goal.returns
returns c = in_order c.put_word.ensures (in_order c.put_ref.ensures (in_order c.put_symbol.ensures (in_order c.put_felems.ensures c.put_word-2.ensures)))
