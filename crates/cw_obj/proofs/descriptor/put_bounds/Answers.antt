use Rattle.cw_view.specs.Payloads.{bound_bytes}
use Rattle.cw_fields.proofs.Appending.{put_each_at}
use Rattle.cw_obj.proofs.descriptor.put_bounds.Goals as goal

pub loop-bound-preserved : goal.loop-bound-preserved
loop-bound-preserved c = put_each_at bound_bytes c.args.bounds.now c.loop-bound.bound-index _ c.loop-bound.out.items c.put_bound.new.out.items _ c.loop-bound-test.true c.in_ok-put_bound.ensures c.loop-bound.invariant
