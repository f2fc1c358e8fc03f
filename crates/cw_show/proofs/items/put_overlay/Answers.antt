use Rattle.cw_show.proofs.Adding.{in_order}
use Rattle.cw_show.proofs.items.put_overlay.Goals as goal

pub returns : goal.returns
returns c = in_order c.put_word.ensures (in_order c.put_base.ensures (in_order c.put_word-2.ensures c.put_data.ensures))
