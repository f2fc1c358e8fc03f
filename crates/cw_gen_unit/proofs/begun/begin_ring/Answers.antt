use Rattle.cw_gen_expr.specs.ReferenceExpressions.{scope_with, at_line}
use Rattle.cw_gen_unit.proofs.Chains.{ringed}
use Rattle.cw_gen_unit.proofs.begun.begin_ring.Goals as goal

pub returns : goal.returns
returns c =
    let s = at_line c.args.line (scope_with c.args.unit.now c.args.layout.now c.args.parameters.now) in
    ringed s c.args.looped c.args.scale c.args.elements.now c.in_ok-ways.ways c.reserve-end.ensures c.reserve-start.ensures c.reserve-set.ensures c.in_ok-ways.ensures.orders c.in_ok-ways.ensures.ways c.put.ensures c.put_mark.ensures c.put_set.ensures c.put_mark-2.ensures
