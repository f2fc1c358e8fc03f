use Rattle.std.proofs.Common.{◌≡◌, drop}
use Rattle.cw_gen_expr.specs.ReferenceExpressions.{control_place}
use Rattle.cw_gen_expr.proofs.orders.place_of_control.Given as goal

abbrev pub invariant-loop-i : goal.invariant-loop-i
invariant-loop-i l = control_place (drop l.i l.parameters) l.left ≡ control_place l.parameters l.initial.control
