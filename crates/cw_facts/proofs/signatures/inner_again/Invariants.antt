use Rattle.std.proofs.Common.{◌≡◌, ◌++◌, drop}
use Rattle.cw_facts.proofs.signatures.inner_again.Given as goal

abbrev pub invariant-loop-param : goal.invariant-loop-param
invariant-loop-param l = l.again ++ drop l.param-index l.params ≡ l.params
