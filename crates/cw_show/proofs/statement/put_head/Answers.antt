use Rattle.cw_show.proofs.Adding.{in_order}
use Rattle.cw_show.proofs.statement.put_head.Goals as goal

pub returns : goal.returns
returns c = in_order c.put_answer.ensures (in_order c.put_tag.ensures (in_order c.put_name.ensures (in_order c.put_params.ensures c.put_symbol.ensures)))
