use Rattle.std.proofs.Common.{◌≡◌, ◌++◌, drop}
use Rattle.cw_preset.specs.Held.{felems_rows}
use Rattle.cw_preset.proofs.held.felems_rows.Given as goal

abbrev pub invariant-loop-element : goal.invariant-loop-element
invariant-loop-element l = l.out ++ felems_rows (drop l.element-index l.elements) ≡ l.initial.out ++ felems_rows l.elements
