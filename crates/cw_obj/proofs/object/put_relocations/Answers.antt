use Rattle.cw_view.specs.ObjectFormat.{Relocation}
use Rattle.cw_obj.proofs.Appending.{put_next}
use Rattle.cw_obj.proofs.object.put_relocations.Goals as goal

pub loop-relocation-preserved : goal.loop-relocation-preserved
loop-relocation-preserved c = put_next Relocation c.args.relocations.now c.loop-relocation.relocation-index _ c.loop-relocation.out.items c.put_relocation.new.out.items _ c.loop-relocation-test.true c.in_ok-put_relocation.ensures c.loop-relocation.invariant
