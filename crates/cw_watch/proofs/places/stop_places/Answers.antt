use Rattle.std.proofs.Common.{refl, arith, map, drop}
use Rattle.cw_object.specs.ObjectContents.{contents_in}
use Rattle.cw_object.proofs.Opening.{object-at}
use Rattle.cw_watch.proofs.Objects.{view-at, next_places, next_end, code_within, end_above}
use Rattle.cw_watch.proofs.Rising.{next_rises, higher_end}
use Rattle.cw_watch.proofs.places.stop_places.Goals as goal

pub view_of-view-requires : goal.view_of-view-requires
view_of-view-requires c =
    object-at c.args.objects.now c.loop-object.object-index c.object-item.result c.as_slice.result.now c.requires.opened c.loop-object-test.true c.object-item.is c.as_slice.ensures

pub overflow_cast-start-in-loop-object : goal.overflow_cast-start-in-loop-object
overflow_cast-start-in-loop-object c =
    let at = view-at c.args.objects.now c.loop-object.object-index c.object-item.result c.as_slice.result.now c.view_of-view.result c.loop-object-test.true c.object-item.is c.as_slice.ensures
    c.view_of-view.ensures.bytes c.view_of-view.ensures.contents in
    let within = code_within _ _ c.loop-object.start _ _ c.code.result.now at c.code.ensures c.loop-object.invariant.end in
    omega (arith, within, c.requires.short)

pub overflow_add-start : goal.overflow_add-start
overflow_add-start c =
    let at = view-at c.args.objects.now c.loop-object.object-index c.object-item.result c.as_slice.result.now c.view_of-view.result c.loop-object-test.true c.object-item.is c.as_slice.ensures
    c.view_of-view.ensures.bytes c.view_of-view.ensures.contents in
    let within = code_within _ _ c.loop-object.start _ _ c.code.result.now at c.code.ensures c.loop-object.invariant.end in
    omega (arith, within, c.requires.short)

pub loop-object-preserved : goal.loop-object-preserved
loop-object-preserved c =
    let at = view-at c.args.objects.now c.loop-object.object-index c.object-item.result c.as_slice.result.now c.view_of-view.result c.loop-object-test.true c.object-item.is c.as_slice.ensures
    c.view_of-view.ensures.bytes c.view_of-view.ensures.contents in
    let within = code_within _ _ c.loop-object.start _ _ c.code.result.now at c.code.ensures c.loop-object.invariant.end in
    record {
      rises = next_rises _ _ c.loop-object.start _ c.args.stop.now.segment c.args.stop.now.line c.view_of-view.result c.code.result.now c.loop-object.invariant.rises c.view_of-view.ensures.rises c.code.ensures refl (omega (arith, within, c.requires.short)) c.in_ok-add_object.ensures;
      end = next_end _ _ c.loop-object.start _ _ _ _ at c.code.ensures refl c.loop-object.invariant.end;
      told = next_places _ _ c.loop-object.start _ _ _ _ c.code.result.now _ _ _ at c.code.ensures refl c.in_ok-add_object.ensures c.loop-object.invariant.told;
    }

pub returns-clause-rising : goal.returns-clause-rising
returns-clause-rising c =
    let above = end_above c.loop-object.start (map contents_in (drop c.loop-object.object-index c.args.objects.now)) in
    higher_end 0 c.loop-object.places c.loop-object.start 65536 (omega (arith, above, c.loop-object.invariant.end, c.requires.short)) c.loop-object.invariant.rises
