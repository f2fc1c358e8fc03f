use Rattle.std.proofs.Common.{rules, ◌≡◌, [], ◌∷◌}
use Rattle.cw_order.specs.declared.order.Order.TheVariants as order
use Rattle.cw_gen_expr.specs.Pieces.{plain}
use Rattle.cw_gen_expr.specs.ReferenceExpressions.{number_order}
use Rattle.cw_gen_expr.proofs.Adding.{◌⨟◌, also}
use Rattle.cw_gen_unit.proofs.loops.put_number.Goals as goal

pub returns : goal.returns
returns c =
    let same : order.Const c.args.number ≡ number_order c.args.number = search rules in
    let all = also (λ o. plain (o ∷ [])) same c.put.ensures ⨟ c.put_keep.ensures in
    all
