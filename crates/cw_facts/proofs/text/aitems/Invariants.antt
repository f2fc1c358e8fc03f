use Rattle.std.proofs.Common.{◌≡◌, ◌++◌, drop}
use Rattle.cw_facts.specs.Text.{aitems_facts}
use Rattle.cw_facts.proofs.text.aitems.Given as goal

abbrev pub invariant-loop-item : goal.invariant-loop-item
invariant-loop-item l = l.out ++ aitems_facts (drop l.item-index l.items) ≡ l.initial.out ++ aitems_facts l.items
