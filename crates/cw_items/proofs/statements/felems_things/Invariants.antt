use Rattle.std.proofs.Common.{◌≡◌, ◌++◌, drop}
use Rattle.cw_items.specs.Things.{felems_things}
use Rattle.cw_items.proofs.statements.felems_things.Given as goal

abbrev pub invariant-loop-element : goal.invariant-loop-element
invariant-loop-element l = l.out ++ felems_things (drop l.element-index l.elements) l.owner ≡ l.initial.out ++ felems_things l.elements l.owner
