use Rattle.std.proofs.Common.{◌≡◌, drop}
use Rattle.cw_data.specs.Specifications.{aitems_judged}
use Rattle.cw_data.proofs.specifications.judge_aitems.Given as goal

abbrev pub invariant-loop-item : goal.invariant-loop-item
invariant-loop-item l = aitems_judged (drop l.item-index l.items) l.first ≡ aitems_judged l.items l.initial.first
