use Rattle.cw_view.specs.Payloads.{element_bytes}
use Rattle.cw_fields.proofs.Appending.{put_each}
use Rattle.cw_obj.proofs.descriptor.put_elements.Goals as goal

pub loop-element-preserved : goal.loop-element-preserved
loop-element-preserved c = put_each element_bytes c.args.elements.now c.loop-element.element-index c.element-item.result c.loop-element.out.items c.put_element.new.out.items _ c.loop-element-test.true c.element-item.is c.in_ok-put_element.ensures c.loop-element.invariant
