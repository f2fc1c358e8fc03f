use Rattle.cw_gen_expr.proofs.Adding.{◌⨟◌}
use Rattle.cw_gen_unit.proofs.elements.put_values.Goals as goal

pub returns : goal.returns
returns c os z last =
    let all = c.put_number.ensures ⨟ c.put_expression.ensures.orders ⨟ c.put_set.ensures ⨟ c.put_expression-2.ensures.orders ⨟ c.put_keep.ensures ⨟ c.put_expression-3.ensures.orders ⨟ c.put_keep-2.ensures ⨟ last in
    all
