use Rattle.std.proofs.Common.{◌≡◌, ◌-◌}
use Rattle.cw_fields.specs.Fields.{counted, rest_of}
use Rattle.cw_view.specs.Reading.{bounds_in}
use Rattle.cw_view.proofs.descriptor.after_counted_bounds.Given as goal

abbrev pub invariant-loop : goal.invariant-loop
invariant-loop l = rest_of (counted (l.count - l.counter) bounds_in l.rest) ≡ rest_of (counted l.count bounds_in l.bytes)
