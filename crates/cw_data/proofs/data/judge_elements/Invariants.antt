use Rattle.std.proofs.Common.{◌≡◌, drop}
use Rattle.cw_data.specs.Data.{elements_judged}
use Rattle.cw_data.proofs.data.judge_elements.Given as goal

abbrev pub invariant-loop-element : goal.invariant-loop-element
invariant-loop-element l = elements_judged l.width (drop l.element-index l.elements) l.first ≡ elements_judged l.width l.elements l.initial.first
