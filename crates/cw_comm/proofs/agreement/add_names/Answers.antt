use Rattle.std.proofs.Common.{refl}
use Rattle.cw_comm.proofs.Keyed.{next_desc}
use Rattle.cw_comm.proofs.agreement.add_names.Goals as goal

pub loop-descriptor-preserved : goal.loop-descriptor-preserved
loop-descriptor-preserved c =
    rw c.in-Ok.ensures.keys (next_desc c.loop-descriptor.names.keys _ c.args.descriptors.now c.loop-descriptor.descriptor-index c.descriptor-item.result _ c.loop-descriptor-test.true c.descriptor-item.is refl c.loop-descriptor.invariant)
