use Rattle.std.proofs.Common.{◌≡◌, ◌++◌, drop}
use Rattle.cw_facts.specs.Facts.{elements_facts}
use Rattle.cw_facts.proofs.declarations.elements.Given as goal

abbrev pub invariant-loop-element : goal.invariant-loop-element
invariant-loop-element l = l.out ++ elements_facts l.table (drop l.element-index l.elements) ≡ l.initial.out ++ elements_facts l.table l.elements
