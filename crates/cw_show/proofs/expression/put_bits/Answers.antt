use Rattle.cw_show.proofs.Adding.{in_order}
use Rattle.cw_show.proofs.expression.put_bits.Goals as goal

pub returns : goal.returns
returns c = in_order c.put_word.ensures c.put_size.ensures
