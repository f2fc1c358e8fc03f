use Rattle.std.proofs.Common.{◌≡◌, None, drop}
use Rattle.std.specs.Option.{option_or}
use Rattle.cw_unit.specs.Allocation.{Name}
use Rattle.cw_unit.specs.Program.{definition_in, found_in}
use Rattle.cw_named.specs.Meanings.{place_in}
use Rattle.cw_named.proofs.definitions.note_unit.Given as goal

abbrev pub invariant-loop-descriptor : goal.invariant-loop-descriptor
invariant-loop-descriptor l = (q : Name) → option_or (place_in l.first q) (found_in l.segment (definition_in l.unit q (drop l.descriptor-index l.unit.defined)) None) ≡ option_or (place_in l.initial.first q) (found_in l.segment (definition_in l.unit q l.unit.defined) None)
