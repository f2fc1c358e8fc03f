use Rattle.std.proofs.Common.{[], ◌∷◌, sym}
use Rattle.cw_order.specs.declared.order.Order.TheVariants as order
use Rattle.cw_gen_expr.specs.Pieces.{plain}
use Rattle.cw_gen_unit.specs.BegunLoops.{way_orders}
use Rattle.cw_gen_expr.proofs.Adding.{also}
use Rattle.cw_gen_unit.proofs.begun.put_way.Goals as goal

pub returns-in-Ring : goal.returns-in-Ring
returns-in-Ring c =
    also (λ w. plain (way_orders c.args.layout.now c.args.line c.args.looped w)) (sym c.in-Ring.is) (also (λ o. plain (o ∷ order.Load ∷ order.LoopWay c.in-Ring.ways ∷ [])) c.item.ensures c.put_three.ensures)

pub returns-in-Step : goal.returns-in-Step
returns-in-Step c =
    also (λ w. plain (way_orders c.args.layout.now c.args.line c.args.looped w)) (sym c.in-Step.is) (also (λ p. plain (order.NextStep p c.args.line c.in-Step.start ∷ [])) c.loop_place.ensures c.put.ensures)
