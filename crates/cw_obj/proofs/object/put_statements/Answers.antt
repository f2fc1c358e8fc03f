use Rattle.cw_view.specs.ObjectFormat.{Statement}
use Rattle.cw_obj.proofs.Appending.{put_next}
use Rattle.cw_obj.proofs.object.put_statements.Goals as goal

pub loop-place-preserved : goal.loop-place-preserved
loop-place-preserved c = put_next Statement c.args.places.now c.loop-place.place-index _ c.loop-place.out.items c.put_statement.new.out.items _ c.loop-place-test.true c.in_ok-put_statement.ensures c.loop-place.invariant
