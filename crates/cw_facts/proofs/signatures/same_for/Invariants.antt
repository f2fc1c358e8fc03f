use Rattle.std.proofs.Common.{◌≡◌, ◌++◌, drop}
use Rattle.cw_facts.specs.Signatures.{same_for}
use Rattle.cw_facts.proofs.signatures.same_for.Given as goal

abbrev pub invariant-loop-name : goal.invariant-loop-name
invariant-loop-name l = l.out ++ same_for l.param (drop l.name-index l.names) ≡ l.initial.out ++ same_for l.param l.names
