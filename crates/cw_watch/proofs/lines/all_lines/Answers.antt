use Rattle.cw_object.proofs.Opening.{object-at}
use Rattle.cw_watch.proofs.Objects.{view-at, next_lines}
use Rattle.cw_watch.proofs.lines.all_lines.Goals as goal

pub view_of-view-requires : goal.view_of-view-requires
view_of-view-requires c =
    object-at c.args.objects.now c.loop-segment.segment c.index-objects-segment.result c.as_slice.result.now c.requires c.loop-segment-test.true c.index-objects-segment.is c.as_slice.ensures

pub loop-segment-preserved : goal.loop-segment-preserved
loop-segment-preserved c =
    let at = view-at c.args.objects.now c.loop-segment.segment c.index-objects-segment.result c.as_slice.result.now c.view_of-view.result c.loop-segment-test.true c.index-objects-segment.is c.as_slice.ensures
    c.view_of-view.ensures.bytes c.view_of-view.ensures.contents in
    next_lines _ _ _ _ _ _ _ _ at c.addresses.ensures c.in_ok-add_lines.ensures c.loop-segment.invariant
