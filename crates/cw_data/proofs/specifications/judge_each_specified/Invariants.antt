use Rattle.std.proofs.Common.{◌≡◌, drop}
use Rattle.cw_data.specs.Specifications.{each_specified_judged}
use Rattle.cw_data.proofs.specifications.judge_each_specified.Given as goal

abbrev pub invariant-loop-param : goal.invariant-loop-param
invariant-loop-param l = each_specified_judged l.name (drop l.param-index l.params) l.first ≡ each_specified_judged l.name l.params l.initial.first
