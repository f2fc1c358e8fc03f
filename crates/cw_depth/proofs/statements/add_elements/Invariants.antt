use Rattle.std.proofs.Common.{◌≡◌, ◌++◌, map, drop}
use Rattle.cw_depth.specs.Mentions.{joined, in_element}
use Rattle.cw_depth.proofs.statements.add_elements.Given as goal

abbrev pub invariant-loop-element : goal.invariant-loop-element
invariant-loop-element l = l.out ++ joined (map in_element (drop l.element-index l.elements)) ≡ l.initial.out ++ joined (map in_element l.elements)
