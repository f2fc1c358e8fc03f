use Rattle.std.proofs.Common.{[], ◌∷◌}
use Rattle.cw_order.specs.declared.order.Order.TheVariants as order
use Rattle.cw_gen_expr.specs.Pieces.{plain}
use Rattle.cw_gen_expr.specs.ReferenceExpressions.{item_order}
use Rattle.cw_gen_expr.proofs.Adding.{◌⨟◌, ending}
use Rattle.cw_gen_unit.proofs.loops.put_turn.Goals as goal

pub returns : goal.returns
returns c =
    let turn = c.put_test.ensures ⨟ c.put.ensures in
    ending (λ k. plain (item_order c.args.layout.now c.args.looped 0 ∷ order.PutVariable c.args.line ∷ order.Exhausted k ∷ order.Jump c.args.body ∷ [])) c.reserve-next.ensures turn c.put_mark.ensures
