use Rattle.std.proofs.Common.{◌≡◌, drop}
use Rattle.cw_gen_expr.specs.Pieces.{plain}
use Rattle.cw_gen_expr.specs.Output.{made, added}
use Rattle.cw_gen_expr.specs.ReferenceEntries.{bind_orders}
use Rattle.cw_gen_unit.proofs.procedures.emit_bind.Given as goal

abbrev pub invariant-loop-i : goal.invariant-loop-i
invariant-loop-i l = added (plain (bind_orders l.layout (drop l.i l.parameters))) (made l.out) ≡ added (plain (bind_orders l.layout l.parameters)) (made l.initial.out)
