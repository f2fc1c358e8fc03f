use Rattle.std.proofs.Common.{◌≡◌, ◌++◌, drop}
use Rattle.cw_make_items.specs.Descriptors.{elements_of}
use Rattle.cw_make_items.proofs.descriptors.elements_of.Given as goal

abbrev pub invariant-loop-element : goal.invariant-loop-element
invariant-loop-element l = l.all ++ elements_of (drop l.element-index l.elements) ≡ elements_of l.elements
