use Rattle.cw_pick.proofs.Members.{object_at}
use Rattle.cw_pick.proofs.reading.offers_of.Goals as goal

pub offer_of-requires : goal.offer_of-requires
offer_of-requires c = object_at c.args.objects.now c.loop-object.object-index c.object-item.result c.as_slice.result.now c.requires c.loop-object-test.true c.object-item.is c.as_slice.ensures
