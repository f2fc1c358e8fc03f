use Rattle.std.proofs.Common.{◌≡◌, drop}
use Rattle.cw_data.specs.Presets.{entries_preset}
use Rattle.cw_data.proofs.presets.judge_entries.Given as goal

abbrev pub invariant-loop-left : goal.invariant-loop-left
invariant-loop-left l = entries_preset l.left l.elements l.rest l.first ≡ entries_preset l.initial.left l.elements l.initial.rest l.initial.first

abbrev pub decreases-loop-left : goal.decreases-loop-left
decreases-loop-left l = l.left
