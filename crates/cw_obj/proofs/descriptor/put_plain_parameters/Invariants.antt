use Rattle.std.proofs.Common.{◌≡◌, ◌++◌, drop}
use Rattle.cw_fields.specs.Fields.{each}
use Rattle.cw_view.specs.Payloads.{plain_parameter_bytes}
use Rattle.cw_obj.proofs.descriptor.put_plain_parameters.Given as goal

abbrev pub invariant-loop-parameter : goal.invariant-loop-parameter
invariant-loop-parameter l = l.out.items ++ each plain_parameter_bytes (drop l.parameter-index l.parameters) ≡ l.fn.out.items ++ each plain_parameter_bytes l.parameters
