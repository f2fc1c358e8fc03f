use Rattle.std.proofs.Common.{◌≡◌, ◌-◌}
use Rattle.cw_fields.specs.Fields.{counted, rest_of}
use Rattle.cw_view.specs.Reading.{parameter_in}
use Rattle.cw_view.proofs.descriptor.after_parameters.Given as goal

abbrev pub invariant-loop : goal.invariant-loop
invariant-loop l = rest_of (counted (l.count - l.counter) parameter_in l.rest) ≡ rest_of (counted l.count parameter_in l.bytes)
