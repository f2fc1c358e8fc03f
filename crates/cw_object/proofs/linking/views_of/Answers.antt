use Rattle.cw_object.proofs.Opening.{object-at, one-more, told-next}
use Rattle.cw_object.proofs.linking.views_of.Goals as goal

pub view_of-requires : goal.view_of-requires
view_of-requires c = object-at c.args.objects.now c.loop-object.object-index c.object-item.result c.as_slice.result.now c.requires c.loop-object-test.true c.object-item.is c.as_slice.ensures

pub loop-object-preserved : goal.loop-object-preserved
loop-object-preserved c = record {
  opened = one-more c.loop-object.views c.push.new.self c.view_of.result c.loop-object.invariant.opened c.view_of.ensures.opened c.in_ok-push.ensures.ok;
  contents = told-next c.loop-object.views c.push.new.self c.view_of.result c.args.objects.now c.loop-object.object-index c.object-item.result c.as_slice.result.now c.loop-object-test.true c.object-item.is c.as_slice.ensures
      c.view_of.ensures.contents c.in_ok-push.ensures.ok c.loop-object.invariant.contents;
}
