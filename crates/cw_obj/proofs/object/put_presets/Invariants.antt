use Rattle.std.proofs.Common.{◌≡◌, ◌++◌, map, drop}
use Rattle.cw_view.specs.ObjectFormat.{PresetWord}
use Rattle.cw_obj.specs.ReferenceObject.{records_bytes}
use Rattle.cw_obj.proofs.object.put_presets.Given as goal

abbrev pub invariant-loop-preset : goal.invariant-loop-preset
invariant-loop-preset l = l.out.items ++ records_bytes (map PresetWord (drop l.preset-index l.presets)) ≡ l.fn.out.items ++ records_bytes (map PresetWord l.presets)
