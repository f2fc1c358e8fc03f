use Rattle.std.proofs.Common.{◌≡◌, drop}
use Rattle.cw_data.specs.Specifications.{plains_judged}
use Rattle.cw_data.proofs.specifications.judge_plains.Given as goal

abbrev pub invariant-loop-param : goal.invariant-loop-param
invariant-loop-param l = plains_judged l.name (drop l.param-index l.params) l.first ≡ plains_judged l.name l.params l.initial.first
