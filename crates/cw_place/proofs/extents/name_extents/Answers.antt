use Rattle.std.proofs.Common.{◌∙◌}
use Rattle.cw_unit.specs.Allocation.{name_at}
use Rattle.cw_place.proofs.Numbers.{next_segment, all_segments}
use Rattle.cw_place.proofs.extents.name_extents.Goals as goal

pub loop-segment-preserved : goal.loop-segment-preserved
loop-segment-preserved c = record {
  count = c.raise_extents.ensures.count ∙ c.loop-segment.invariant.count;
  extent = λ k lt.
      next_segment c.args.agreed.now c.args.spaces.now (name_at c.args.agreed.now.names k) c.loop-segment.segment _ _ _ c.loop-segment-test.true (λ s is. c.raise_extents.ensures.raised k s lt is) (c.loop-segment.invariant.extent k lt);
}

pub returns : goal.returns
returns c = record {
  count = c.loop-segment.invariant.count;
  extent = λ k lt. all_segments c.args.agreed.now c.args.spaces.now (name_at c.args.agreed.now.names k) c.loop-segment.segment _ c.loop-segment-test.false (c.loop-segment.invariant.extent k lt);
}
