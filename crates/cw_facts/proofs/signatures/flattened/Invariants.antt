use Rattle.std.proofs.Common.{◌≡◌, ◌++◌, drop}
use Rattle.cw_facts.specs.Signatures.{flattened}
use Rattle.cw_facts.proofs.signatures.flattened.Given as goal

abbrev pub invariant-loop-param : goal.invariant-loop-param
invariant-loop-param l = l.all ++ flattened (drop l.param-index l.params) ≡ flattened l.params
