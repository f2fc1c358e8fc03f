use Rattle.std.proofs.Common.{◌≡◌, ◌++◌, drop}
use Rattle.cw_facts.specs.Facts.{parameters_facts}
use Rattle.cw_facts.proofs.declarations.parameters.Given as goal

abbrev pub invariant-loop-one : goal.invariant-loop-one
invariant-loop-one l = l.out ++ parameters_facts (drop l.one-index l.parameters) ≡ l.initial.out ++ parameters_facts l.parameters
