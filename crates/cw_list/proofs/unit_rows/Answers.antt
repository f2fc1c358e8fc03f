use Rattle.cw_list.proofs.SegmentRows.{next_rows, all_rows}
use Rattle.cw_list.proofs.unit_rows.Goals as goal

pub loop-segment-preserved : goal.loop-segment-preserved
loop-segment-preserved c = λ limits.
    next_rows c.args.units.now c.args.map.now limits c.args.layouts.now c.loop-segment.segment _ _ _ c.loop-segment.rows c.add_segment.new.rows c.requires c.loop-segment-test.true c.index-units-segment.is c.index-layouts-segment.is c.addresses.ensures (c.loop-segment.invariant limits) c.in_ok-add_segment.ensures

pub returns : goal.returns
returns c = λ limits. all_rows c.args.units.now c.args.map.now limits c.loop-segment.segment c.loop-segment.rows c.loop-segment-test.false (c.loop-segment.invariant limits)
