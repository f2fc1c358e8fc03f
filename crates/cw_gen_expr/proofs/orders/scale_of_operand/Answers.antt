use Rattle.std.proofs.Common.{◌∙◌}
use Rattle.cw_gen_expr.proofs.BestScales.{best-operand}
use Rattle.cw_gen_expr.proofs.orders.scale_of_operand.Goals as goal

pub returns-in-Ok : goal.returns-in-Ok
returns-in-Ok c =
    best-operand c.args.unit.now c.args.e.now c.in-Num.number c.in-Ok.scale c.in-Num.is (λ h. c.if-places-eq0.false (c.places.ensures.value ∙ h)) c.in-Ok.ensures.best
