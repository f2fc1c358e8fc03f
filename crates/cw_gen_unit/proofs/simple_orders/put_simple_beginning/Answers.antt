use Rattle.cw_gen_expr.proofs.Adding.{◌⨟◌}
use Rattle.cw_gen_unit.proofs.simple_orders.put_simple_beginning.Goals as goal

pub returns : goal.returns
returns c = let all = c.put_simple_words.ensures ⨟ c.put_simple_turn.ensures in all
