use Rattle.cw_view.specs.ObjectFormat.{Descriptor, framed}
use Rattle.std.proofs.Common.{ap, ◌∙◌, ◌++◌}
use Rattle.cw_obj.proofs.Appending.{put_listed}
use Rattle.cw_obj.proofs.descriptor.put_descriptors.Goals as goal

pub loop-descriptor-preserved : goal.loop-descriptor-preserved
loop-descriptor-preserved c =
    put_listed Descriptor c.args.descriptors.now c.loop-descriptor.descriptor-index c.descriptor-item.result c.loop-descriptor.out.items c.put_record.new.out.items _ c.loop-descriptor-test.true c.descriptor-item.is
    (c.in_ok-put_record.ensures ∙ ap (λ p. c.loop-descriptor.out.items ++ framed 2 p) (c.as_slice.ensures.value ∙ c.in_ok-payload.ensures)) c.loop-descriptor.invariant
