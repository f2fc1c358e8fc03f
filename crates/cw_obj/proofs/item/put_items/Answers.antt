use Rattle.cw_obj.proofs.Appending.{put_item_of}
use Rattle.cw_obj.proofs.item.put_items.Goals as goal

pub loop-number-preserved : goal.loop-number-preserved
loop-number-preserved c =
    put_item_of c.args.unit.now c.args.layout.now c.args.unit.now.items c.as_slice-item-items.result.now c.loop-number.number c.item-item.result c.place_of.result c.loop-number.out.items c.put_item.new.out.items _
    c.as_slice-item-items.ensures c.loop-number-test.true c.item-item.is c.place_of.ensures c.in_ok-put_item.ensures c.loop-number.invariant
