use Rattle.std.proofs.Common.{◌≡◌, drop}
use Rattle.cw_scale.specs.Arguments.{takes_these}
use Rattle.cw_scale.proofs.arguments.takes_these.Given as goal

abbrev pub invariant-loop-param : goal.invariant-loop-param
invariant-loop-param l = takes_these (drop l.param-index l.params) l.rest ≡ takes_these l.params l.these
