use Rattle.cw_view.specs.Payloads.{plain_parameter_bytes}
use Rattle.cw_fields.proofs.Appending.{put_each}
use Rattle.cw_obj.proofs.descriptor.put_plain_parameters.Goals as goal

pub loop-parameter-preserved : goal.loop-parameter-preserved
loop-parameter-preserved c = put_each plain_parameter_bytes c.args.parameters.now c.loop-parameter.parameter-index c.parameter-item.result c.loop-parameter.out.items c.put_plain_parameter.new.out.items _ c.loop-parameter-test.true c.parameter-item.is c.in_ok-put_plain_parameter.ensures c.loop-parameter.invariant
