use Rattle.std.proofs.Common.{◌≡◌, ◌++◌, drop}
use Rattle.cw_items.specs.Things.{parameters_things}
use Rattle.cw_items.proofs.data.parameters_things.Given as goal

abbrev pub invariant-loop-parameter : goal.invariant-loop-parameter
invariant-loop-parameter l = l.out ++ parameters_things l.owner (drop l.parameter-index l.parameters) ≡ l.initial.out ++ parameters_things l.owner l.parameters
