use Rattle.std.proofs.Common.{[], ◌∷◌}
use Rattle.cw_gen_expr.specs.Pieces.{plain}
use Rattle.cw_gen_expr.proofs.Adding.{◌⨟◌, also}
use Rattle.cw_gen_unit.proofs.simple_orders.put_simple_words.Goals as goal

pub returns : goal.returns
returns c =
    let all = also (λ o. plain (o ∷ [])) c.item.ensures c.put.ensures ⨟ c.put_keep.ensures ⨟ c.put_number.ensures ⨟ c.put_value.ensures ⨟ c.put_keep-2.ensures ⨟ c.put_step.ensures
    ⨟ c.put_keep-3.ensures ⨟ c.put_value-2.ensures ⨟ c.put_keep-4.ensures in
    all
