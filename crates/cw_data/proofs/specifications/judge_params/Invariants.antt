use Rattle.std.proofs.Common.{◌≡◌, drop}
use Rattle.cw_data.specs.Specifications.{params_judged}
use Rattle.cw_data.proofs.specifications.judge_params.Given as goal

abbrev pub invariant-loop-param : goal.invariant-loop-param
invariant-loop-param l = params_judged (drop l.param-index l.params) l.first ≡ params_judged l.params l.initial.first
