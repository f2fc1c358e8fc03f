use Rattle.cw_fields.specs.Fields.{text_bytes}
use Rattle.cw_fields.proofs.Appending.{put_each}
use Rattle.cw_image.proofs.writing.put_names.Goals as goal

pub loop-name-preserved : goal.loop-name-preserved
loop-name-preserved c = put_each text_bytes c.args.names.now c.loop-name.name-index c.name-item.result c.loop-name.out.items c.put_name.new.out.items _ c.loop-name-test.true c.name-item.is c.in_ok-put_name.ensures c.loop-name.invariant
