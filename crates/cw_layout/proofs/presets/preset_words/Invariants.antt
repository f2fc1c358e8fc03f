use Rattle.std.proofs.Common.{◌≡◌, take}
use Rattle.cw_unit.specs.Storage.{presets_from}
use Rattle.cw_layout.proofs.presets.preset_words.Given as goal

abbrev pub invariant-loop-n : goal.invariant-loop-n
invariant-loop-n l = l.words ≡ presets_from 0 l.unit (take l.n l.unit.items)
