use Rattle.std.proofs.Common.{refl}
use Rattle.cw_gen_expr.specs.ReferenceExpressions.{scope_with, at_line}
use Rattle.cw_gen_unit.specs.ReferenceStatements.{first_turn}
use Rattle.cw_gen_unit.proofs.Chains.{stepped}
use Rattle.cw_gen_unit.proofs.begun.begin_step.Goals as goal

pub returns : goal.returns
returns c =
    let s = at_line c.args.line (scope_with c.args.unit.now c.args.layout.now c.args.parameters.now) in
    stepped s s.layout c.args.line c.args.looped (first_turn s c.args.looped c.args.scale c.args.first.now c.args.step.now c.args.limit.now) refl refl c.reserve-end.ensures c.reserve-start.ensures c.put_first_turn.ensures c.put_mark.ensures
