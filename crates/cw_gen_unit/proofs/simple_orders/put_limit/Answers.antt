use Rattle.std.proofs.Common.{[], ◌∷◌}
use Rattle.cw_order.specs.declared.order.Order.TheVariants as order
use Rattle.cw_gen_expr.specs.Pieces.{plain}
use Rattle.cw_gen_expr.proofs.Adding.{◌⨟◌, also}
use Rattle.cw_gen_unit.proofs.simple_orders.put_limit.Goals as goal

pub returns : goal.returns
returns c =
    let all = also (λ o. plain (o ∷ order.Load ∷ order.Save ∷ [])) c.item.ensures c.put_three.ensures
    ⨟ also (λ o. plain (o ∷ order.Load ∷ order.JumpIf c.args.comparator c.args.end ∷ [])) c.item-2.ensures c.put_three-2.ensures in
    all
