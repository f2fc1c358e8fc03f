use Rattle.std.proofs.Common.{◌≡◌, ◌++◌, drop}
use Rattle.cw_judge.specs.Judged.{aitems_addresses}
use Rattle.cw_judge.proofs.text.with_addresses.Given as goal

abbrev pub invariant-loop-item : goal.invariant-loop-item
invariant-loop-item l = l.all ++ aitems_addresses (drop l.item-index l.items) ≡ l.initial.all ++ aitems_addresses l.items
