use Rattle.std.proofs.Common.{◌≡◌, ◌++◌, drop}
use Rattle.cw_gen_unit.specs.ReferenceUnits.{definition_places}
use Rattle.cw_gen_unit.proofs.unit.definition_places.Given as goal

abbrev pub invariant-loop-definition : goal.invariant-loop-definition
invariant-loop-definition l = l.places.items ++ definition_places l.labels l.entries (drop l.definition-index l.defined) ≡ definition_places l.labels l.entries l.defined
