use Rattle.std.proofs.Common.{◌≡◌, ◌++◌, drop}
use Rattle.cw_preset.specs.Held.{citems_rows}
use Rattle.cw_preset.proofs.held.citems_rows.Given as goal

abbrev pub invariant-loop-item : goal.invariant-loop-item
invariant-loop-item l = l.out ++ citems_rows (drop l.item-index l.items) ≡ l.initial.out ++ citems_rows l.items
