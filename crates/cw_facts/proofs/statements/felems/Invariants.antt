use Rattle.std.proofs.Common.{◌≡◌, ◌++◌, drop}
use Rattle.cw_facts.specs.Facts.{felems_facts}
use Rattle.cw_facts.proofs.statements.felems.Given as goal

abbrev pub invariant-loop-element : goal.invariant-loop-element
invariant-loop-element l = l.out ++ felems_facts (drop l.element-index l.elements) ≡ l.initial.out ++ felems_facts l.elements
