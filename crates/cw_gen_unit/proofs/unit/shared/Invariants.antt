use Rattle.std.proofs.Common.{◌≡◌, ◌++◌, drop}
use Rattle.cw_gen_unit.specs.ReferenceUnits.{shared}
use Rattle.cw_gen_unit.proofs.unit.shared.Given as goal

abbrev pub invariant-loop-definition : goal.invariant-loop-definition
invariant-loop-definition l = l.list ++ shared (drop l.definition-index l.defined) ≡ shared l.defined
