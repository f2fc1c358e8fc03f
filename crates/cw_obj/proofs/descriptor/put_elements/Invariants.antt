use Rattle.std.proofs.Common.{◌≡◌, ◌++◌, drop}
use Rattle.cw_fields.specs.Fields.{each}
use Rattle.cw_view.specs.Payloads.{element_bytes}
use Rattle.cw_obj.proofs.descriptor.put_elements.Given as goal

abbrev pub invariant-loop-element : goal.invariant-loop-element
invariant-loop-element l = l.out.items ++ each element_bytes (drop l.element-index l.elements) ≡ l.fn.out.items ++ each element_bytes l.elements
