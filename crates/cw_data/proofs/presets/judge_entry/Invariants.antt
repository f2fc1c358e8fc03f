use Rattle.std.proofs.Common.{◌≡◌, drop}
use Rattle.cw_data.specs.Presets.{entry_judged}
use Rattle.cw_data.proofs.presets.judge_entry.Given as goal

abbrev pub invariant-loop-element : goal.invariant-loop-element
invariant-loop-element l = entry_judged (drop l.element-index l.elements) l.rest l.first ≡ entry_judged l.elements l.initial.rest l.initial.first
