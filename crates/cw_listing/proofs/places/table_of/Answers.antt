use Rattle.cw_listing.proofs.Following.{table_with_one}
use Rattle.cw_listing.proofs.places.table_of.Goals as goal

pub loop-k-preserved : goal.loop-k-preserved
loop-k-preserved c = table_with_one c.args.size c.args.places.now c.loop-k.k _ c.loop-k-test.true (c.mark.ensures c.args.size _ c.loop-k.invariant)
