use Rattle.std.proofs.Common.{◌≡◌, drop}
use Rattle.cw_judge.specs.Judged.{felems_judged}
use Rattle.cw_judge.proofs.statements.judge_felems.Given as goal

abbrev pub invariant-loop-element : goal.invariant-loop-element
invariant-loop-element l = felems_judged l.named l.scale (drop l.element-index l.elements) l.first ≡ felems_judged l.named l.scale l.elements l.initial.first
