use Rattle.std.proofs.Common.{◌≡◌, ◌++◌, drop}
use Rattle.cw_fields.specs.Fields.{each}
use Rattle.cw_view.specs.Payloads.{bound_bytes}
use Rattle.cw_obj.proofs.descriptor.put_bounds.Given as goal

abbrev pub invariant-loop-bound : goal.invariant-loop-bound
invariant-loop-bound l = l.out.items ++ each bound_bytes (drop l.bound-index l.bounds) ≡ l.fn.out.items ++ each bound_bytes l.bounds
