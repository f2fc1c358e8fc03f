use Rattle.std.proofs.Common.{◌≡◌, ◌++◌, map, take}
use Rattle.cw_layout.specs.Tables.{preset_in}
use Rattle.cw_layout.proofs.presets.add_presets.Given as goal

abbrev pub invariant-loop-k : goal.invariant-loop-k
invariant-loop-k l = l.words ≡ l.fn.words ++ map (preset_in l.home) (take l.k l.presets)
