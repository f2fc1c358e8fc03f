use Rattle.std.proofs.Common.{◌≡◌, ◌++◌, drop}
use Rattle.cw_facts.specs.Text.{citems_facts}
use Rattle.cw_facts.proofs.text.citems.Given as goal

abbrev pub invariant-loop-item : goal.invariant-loop-item
invariant-loop-item l = l.out ++ citems_facts (drop l.item-index l.items) ≡ l.initial.out ++ citems_facts l.items
