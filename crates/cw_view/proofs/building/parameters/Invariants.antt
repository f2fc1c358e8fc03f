use Rattle.std.proofs.Common.{◌≡◌, ◌-◌}
use Rattle.cw_fields.specs.Fields.{counted}
use Rattle.cw_view.specs.Reading.{parameter_in}
use Rattle.cw_view.proofs.Gathering.{with_front}
use Rattle.cw_view.proofs.building.parameters.Given as goal

abbrev pub invariant-loop : goal.invariant-loop
invariant-loop l = with_front l.items (counted (l.count - l.counter) parameter_in l.rest) ≡ counted l.count parameter_in l.bytes
