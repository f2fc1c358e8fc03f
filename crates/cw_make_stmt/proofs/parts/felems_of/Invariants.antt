use Rattle.std.proofs.Common.{◌≡◌, ◌++◌, map, drop}
use Rattle.cw_make_stmt.specs.Made.{felem_of}
use Rattle.cw_make_stmt.proofs.parts.felems_of.Given as goal

abbrev pub invariant-loop-element : goal.invariant-loop-element
invariant-loop-element l =
    l.all ++ map (felem_of l.text.named.now l.text.numbers.now) (drop l.element-index l.elements) ≡ map (felem_of l.text.named.now l.text.numbers.now) l.elements
