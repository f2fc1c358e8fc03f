use Rattle.std.proofs.Common.{arith}
use Rattle.cw_link.proofs.Segments.{code_fits}
use Rattle.cw_link.proofs.definitions.addresses.Goals as goal

pub overflow_cast-place : goal.overflow_cast-place
overflow_cast-place c = omega (arith, code_fits c.args.views.now c.loop-segment.segment c.loop-segment.place _ _ c.index-views-segment.result c.code.result.now c.loop-segment-test.true c.index-views-segment.is c.loop-segment.invariant.end c.code.ensures c.requires)

pub overflow_add-place : goal.overflow_add-place
overflow_add-place c = omega (arith, code_fits c.args.views.now c.loop-segment.segment c.loop-segment.place _ _ c.index-views-segment.result c.code.result.now c.loop-segment-test.true c.index-views-segment.is c.loop-segment.invariant.end c.code.ensures c.requires)
