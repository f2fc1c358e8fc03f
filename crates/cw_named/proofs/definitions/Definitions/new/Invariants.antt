use Rattle.std.proofs.Common.{◌≡◌, drop}
use Rattle.std.specs.Option.{option_or}
use Rattle.cw_unit.specs.Allocation.{Name}
use Rattle.cw_unit.specs.Program.{definition_from}
use Rattle.cw_named.specs.Meanings.{place_in}
use Rattle.cw_named.proofs.definitions.Definitions.new.Given as goal

abbrev pub invariant-loop-segment : goal.invariant-loop-segment
invariant-loop-segment l = (q : Name) → option_or (place_in l.first q) (definition_from q l.segment (drop l.segment l.units)) ≡ definition_from q 0 l.units
