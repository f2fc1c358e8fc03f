use Rattle.cw_view.specs.ObjectFormat.{PresetWord}
use Rattle.cw_obj.proofs.Appending.{put_next}
use Rattle.cw_obj.proofs.object.put_presets.Goals as goal

pub loop-preset-preserved : goal.loop-preset-preserved
loop-preset-preserved c = put_next PresetWord c.args.presets.now c.loop-preset.preset-index _ c.loop-preset.out.items c.put_preset.new.out.items _ c.loop-preset-test.true c.in_ok-put_preset.ensures c.loop-preset.invariant
