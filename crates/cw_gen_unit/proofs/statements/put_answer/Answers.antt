use Rattle.std.proofs.Common.{[], ◌∷◌, true}
use Rattle.cw_order.specs.declared.order.Order.TheVariants as order
use Rattle.cw_gen_expr.specs.Pieces.{plain}
use Rattle.cw_gen_expr.proofs.Adding.{◌⨟◌, also, lost}
use Rattle.cw_gen_unit.proofs.statements.put_answer.Goals as goal

pub returns-in-Ok : goal.returns-in-Ok
returns-in-Ok c =
    let all = c.put_begin.ensures ⨟ c.put_expression.ensures.orders ⨟ also (λ n. plain (order.Return n true ∷ [])) c.in-Ok.ensures c.put.ensures in
    all

pub returns-in-Err : goal.returns-in-Err
returns-in-Err c = lost c.fail.ensures
