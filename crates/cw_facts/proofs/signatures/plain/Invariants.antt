use Rattle.std.proofs.Common.{◌≡◌, ◌++◌, drop}
use Rattle.cw_facts.specs.Signatures.{plain}
use Rattle.cw_facts.proofs.signatures.plain.Given as goal

abbrev pub invariant-loop-param : goal.invariant-loop-param
invariant-loop-param l = l.all ++ plain (drop l.param-index l.params) ≡ plain l.params
