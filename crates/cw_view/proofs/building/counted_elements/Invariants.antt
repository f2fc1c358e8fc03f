use Rattle.std.proofs.Common.{◌≡◌, ◌-◌}
use Rattle.cw_fields.specs.Fields.{counted}
use Rattle.cw_view.specs.Reading.{element_in}
use Rattle.cw_view.proofs.Gathering.{with_front}
use Rattle.cw_view.proofs.building.counted_elements.Given as goal

abbrev pub invariant-loop : goal.invariant-loop
invariant-loop l = with_front l.items (counted (l.count - l.counter) element_in l.rest) ≡ counted l.count element_in l.bytes
