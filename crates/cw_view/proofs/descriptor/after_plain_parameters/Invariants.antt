use Rattle.std.proofs.Common.{◌≡◌, ◌-◌}
use Rattle.cw_fields.specs.Fields.{counted, rest_of}
use Rattle.cw_view.specs.Reading.{plain_parameter_in}
use Rattle.cw_view.proofs.descriptor.after_plain_parameters.Given as goal

abbrev pub invariant-loop : goal.invariant-loop
invariant-loop l = rest_of (counted (l.count - l.counter) plain_parameter_in l.rest) ≡ rest_of (counted l.count plain_parameter_in l.bytes)
