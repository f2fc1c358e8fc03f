use Rattle.cw_view.specs.ObjectFormat.{StorageFamily}
use Rattle.cw_obj.proofs.Appending.{put_next}
use Rattle.cw_obj.proofs.records.put_families.Goals as goal

pub loop-family-preserved : goal.loop-family-preserved
loop-family-preserved c = put_next StorageFamily c.args.families.now c.loop-family.family-index _ c.loop-family.out.items c.put_family.new.out.items _ c.loop-family-test.true c.in_ok-put_family.ensures c.loop-family.invariant
