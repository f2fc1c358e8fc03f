use Rattle.cw_gen_expr.proofs.Adding.{◌⨟◌}
use Rattle.cw_gen_expr.proofs.forms.put_element.Goals as goal

pub returns : goal.returns
returns c = let all = c.put.ensures ⨟ c.put_table.ensures ⨟ c.put-2.ensures in all
