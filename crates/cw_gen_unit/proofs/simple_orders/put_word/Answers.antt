use Rattle.std.proofs.Common.{rules, ◌≡◌, [], ◌∷◌}
use Rattle.cw_word.specs.Word.{unsigned}
use Rattle.cw_order.specs.declared.order.Order.TheVariants as order
use Rattle.cw_gen_expr.specs.Pieces.{plain}
use Rattle.cw_gen_expr.specs.ReferenceExpressions.{number_order}
use Rattle.cw_gen_expr.proofs.Adding.{also}
use Rattle.cw_gen_unit.proofs.simple_orders.put_word.Goals as goal

pub returns : goal.returns
returns c =
    let same : order.Const c.cast_unsigned.result ≡ number_order (unsigned c.args.word) = search rules in
    also (λ o. plain (o ∷ [])) same c.put.ensures
