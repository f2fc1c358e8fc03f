use Rattle.std.proofs.Common.{◌≡◌, ◌++◌, drop}
use Rattle.cw_fields.specs.Fields.{each}
use Rattle.cw_view.specs.Payloads.{parameter_bytes}
use Rattle.cw_obj.proofs.descriptor.put_parameters.Given as goal

abbrev pub invariant-loop-parameter : goal.invariant-loop-parameter
invariant-loop-parameter l = l.out.items ++ each parameter_bytes (drop l.parameter-index l.parameters) ≡ l.fn.out.items ++ each parameter_bytes l.parameters
